-- Where a static rule is broken there is a place.
use native.Mathlib.Omega.{arith}
use mathlib.Core.Bool.{Bool, true, false, not, ◌||◌}
use mathlib.Core.Path.{◌≡◌, refl, sym, ap, ap₂, subst, ◌∙◌}
use mathlib.Core.List.{List, [], ◌∷◌, ◌++◌, append-nil}
use Prim.Native.Nat.{ℕ, ◌+◌, ◌-◌, ◌≤◌}
use native.Mathlib.Decide.{ℕ_discrete}
use lib.Dec.{T, eqb, ltb}
use lib.ListN.{length}
use borrow.Author.Tests.{eq-eqb, ne_eqb}
use Rattle.text.specs.Lists.{Text, any, same, repeats, concat_map}
use Rattle.text.proofs.Lists.{any-concat, any-ext, or-false, concat-append, concat-concat}
use Rattle.text.proofs.Tests.{clash, T_true}
use Rattle.tree.specs.Tree.{string, hex, Member, chars, range, class, Terminal, literal, inclusion, exclusion, insertion, Rule, Grammar}
use Rattle.tree.specs.Tree.{Symbol, terminal, group, option, repeat0, repeat1, repeat0sep, repeat1sep}
use Rattle.tree.specs.Tokens.{member_token, member_tokens, terminal_tokens}
use Rattle.plain.specs.Written.{within_body, written, names_in, terminals_in, members_in, chars_in_member, chars_in, hex_in, names, terminals, members, hexes, heads}
use Rattle.plain.specs.Static.{undefined, duplicate, beyond, banned, backwards, unclassed, unassignable, runs_back, no_class}
use Rattle.syntax.specs.Syntax.{Ixml, ixml, RuleOf, a-rule, Rules, rules-none, rules-next}
use Rattle.places.specs.Spots.{Part, used, headed, spelt, member, to, other, Spot, spots, spots_rule, spots_rules, spots_prolog}
use Rattle.places.specs.Place.{used_at, heads_at, members_at, hexes_at, at_fault, First, here, later, Place}
use Rattle.places.specs.Tokens.{token_parts}
use Rattle.places.proofs.Parts.{bare, Local, in-alts, in-prolog, all-written}
use Rattle.places.proofs.Unique.{left-known}

-- a number from 5 to 10, one by one
pub by-rule : (P : ℕ → Type 0) → P 5 → P 6 → P 7 → P 8 → P 9 → P 10 → (n : ℕ) → 5 ≤ n → n ≤ 10 → P n
by-rule P p5 p6 p7 p8 p9 p10 n l h = elim (ℕ_discrete n 5) as (λ _. P n) [
  | yes e ↦ subst P (sym e) p5
  | no a ↦ elim (ℕ_discrete n 6) as (λ _. P n) [
    | yes e ↦ subst P (sym e) p6
    | no b ↦ elim (ℕ_discrete n 7) as (λ _. P n) [
      | yes e ↦ subst P (sym e) p7
      | no c ↦ elim (ℕ_discrete n 8) as (λ _. P n) [
        | yes e ↦ subst P (sym e) p8
        | no d ↦ elim (ℕ_discrete n 9) as (λ _. P n) [
          | yes e ↦ subst P (sym e) p9
          | no f ↦ subst P (ten a b c d f) p10
        ]
      ]
    ]
  ]
]
  where
    out : (n ≡ 5 → ⊥) → (n ≡ 6 → ⊥) → (n ≡ 7 → ⊥) → (n ≡ 8 → ⊥) → (n ≡ 9 → ⊥) → (10 ≡ n → ⊥) → ⊥
    out a b c d f g = omega arith

    ten : (n ≡ 5 → ⊥) → (n ≡ 6 → ⊥) → (n ≡ 7 → ⊥) → (n ≡ 8 → ⊥) → (n ≡ 9 → ⊥) → 10 ≡ n
    ten a b c d f = elim (ℕ_discrete 10 n) as (λ _. 10 ≡ n) [ yes e ↦ e | no g ↦ absurd (out a b c d f g) ]

-- 1. A first one is where there is any.
abbrev pub hits : (List Part → Part → Bool) → List Part → List Part → Bool
hits f before [] = false
hits f before (x ∷ xs) = f before x || hits f (x ∷ before) xs

first-there : (f : List Part → Part → Bool) (before : List Part) (ss : List Spot) → hits f before (bare ss) ≡ true → (k : ℕ) × First f before ss k
first-there f before [] e = absurd (clash refl e)
first-there f before (s ∷ ss) e = go (f before s.part) refl e (λ h. first-there f (s.part ∷ before) ss h)
  where
    go : (b : Bool) → f before s.part ≡ b → b || hits f (s.part ∷ before) (bare ss) ≡ true
        → (hits f (s.part ∷ before) (bare ss) ≡ true → (k : ℕ) × First f (s.part ∷ before) ss k) → (k : ℕ) × First f before (s ∷ ss) k
    go true p q h = (s.left, here p)
    go false p q h = let w = h q in (w.0, later p w.1)

place-from : (n : ℕ) {t : Text} {g : Grammar} (d : Ixml t g) → hits (at_fault n (heads g)) [] (bare (spots d)) ≡ true → (p : ℕ) × Place n t p
place-from n {t} {g} d h =
    let w = first-there (at_fault n (heads g)) [] (spots d) h in
    let k = left-known n d w.1 in
    (length t - w.0, record { grammar = g; derived = d; left = w.0; first = w.1; counted = omega (arith, k.inside) })

-- 2. What is written, from the parts: names, members, hex numbers, rules' names.
-- what terminals alone have
by-terminal : {A : Type 0} (p : Part → List A) (r : Terminal → List A) → p other ≡ [] → ((n : Text) → p (used n) ≡ [])
    → ((x : Terminal) → concat_map p (concat_map token_parts (terminal_tokens x)) ≡ r x ++ []) → Local p (λ s. concat_map r (terminals_in s))
by-terminal p r a b c = record {
  other = a;
  named = λ m n. rw (b n);
  terminal = c;
  group = λ b. refl;
  option = λ f. refl;
  repeat0 = λ f. refl;
  repeat1 = λ f. refl;
  repeat0sep = λ f g. refl;
  repeat1sep = λ f g. refl;
}

none-used : (ms : List Member) → concat_map used_at (concat_map token_parts (member_tokens ms)) ≡ []
none-used [] = refl
none-used (chars (string cs) ∷ ms) = none-used ms
none-used (chars (hex n) ∷ ms) = none-used ms
none-used (range a b ∷ ms) = none-used ms
none-used (class k ∷ ms) = none-used ms

used-terminal : (x : Terminal) → concat_map used_at (concat_map token_parts (terminal_tokens x)) ≡ []
used-terminal (literal m (string cs)) = refl
used-terminal (literal m (hex n)) = refl
used-terminal (inclusion m ms) = none-used ms
used-terminal (exclusion m ms) = none-used ms
used-terminal (insertion (string cs)) = refl
used-terminal (insertion (hex n)) = refl

used-local : Local used_at names_in
used-local = record {
  other = refl;
  named = λ m n. refl;
  terminal = used-terminal;
  group = λ b. refl;
  option = λ f. refl;
  repeat0 = λ f. refl;
  repeat1 = λ f. refl;
  repeat0sep = λ f g. refl;
  repeat1sep = λ f g. refl;
}

written-names : {t : Text} {g : Grammar} (d : Ixml t g) → concat_map used_at (bare (spots d)) ≡ names g
written-names d = all-written used_at names_in used-local (λ n. refl) d

members-set : (ms : List Member) → concat_map members_at (concat_map token_parts (member_tokens ms)) ≡ ms
members-set [] = refl
members-set (chars (string cs) ∷ ms) = ap (◌∷◌ (chars (string cs))) (members-set ms)
members-set (chars (hex n) ∷ ms) = ap (◌∷◌ (chars (hex n))) (members-set ms)
members-set (range a b ∷ ms) = ap (◌∷◌ (range a b)) (members-set ms)
members-set (class k ∷ ms) = ap (◌∷◌ (class k)) (members-set ms)

members-terminal : (x : Terminal) → concat_map members_at (concat_map token_parts (terminal_tokens x)) ≡ members_in x ++ []
members-terminal (literal m (string cs)) = refl
members-terminal (literal m (hex n)) = refl
members-terminal (inclusion m ms) = members-set ms ∙ sym (append-nil ms)
members-terminal (exclusion m ms) = members-set ms ∙ sym (append-nil ms)
members-terminal (insertion (string cs)) = refl
members-terminal (insertion (hex n)) = refl

written-members : {t : Text} {g : Grammar} (d : Ixml t g) → concat_map members_at (bare (spots d)) ≡ members g
written-members {t} {g} d =
    all-written members_at (λ s. concat_map members_in (terminals_in s)) (by-terminal members_at members_in refl (λ n. refl) members-terminal) (λ n. refl) d
    ∙ sym (concat-concat members_in terminals_in (written g))

hexes-member : (m : Member) → concat_map hexes_at (token_parts (member_token m)) ≡ concat_map hex_in (chars_in_member m)
hexes-member (chars (string cs)) = refl
hexes-member (chars (hex n)) = refl
hexes-member (range a b) = refl
hexes-member (class k) = refl

hexes-set : (ms : List Member) → concat_map hexes_at (concat_map token_parts (member_tokens ms)) ≡ concat_map hex_in (concat_map chars_in_member ms)
hexes-set [] = refl
hexes-set (m ∷ ms) =
    concat-append hexes_at (token_parts (member_token m)) (concat_map token_parts (member_tokens ms))
    ∙ ap₂ ◌++◌ (hexes-member m) (hexes-set ms)
    ∙ sym (concat-append hex_in (chars_in_member m) (concat_map chars_in_member ms))

hexes-terminal : (x : Terminal) → concat_map hexes_at (concat_map token_parts (terminal_tokens x)) ≡ concat_map hex_in (chars_in x) ++ []
hexes-terminal (literal m (string cs)) = refl
hexes-terminal (literal m (hex n)) = refl
hexes-terminal (inclusion m ms) = hexes-set ms ∙ sym (append-nil (concat_map hex_in (concat_map chars_in_member ms)))
hexes-terminal (exclusion m ms) = hexes-set ms ∙ sym (append-nil (concat_map hex_in (concat_map chars_in_member ms)))
hexes-terminal (insertion (string cs)) = refl
hexes-terminal (insertion (hex n)) = refl

pub written-hexes : {t : Text} {g : Grammar} (d : Ixml t g) → concat_map hexes_at (bare (spots d)) ≡ hexes g
written-hexes {t} {g} d =
    let r : Terminal → List ℕ = λ x. concat_map hex_in (chars_in x) in
    all-written hexes_at (λ s. concat_map r (terminals_in s)) (by-terminal hexes_at r refl (λ n. refl) hexes-terminal) (λ n. refl) d
    ∙ sym (concat-concat r terminals_in (written g))
    ∙ sym (concat-concat hex_in chars_in (terminals g))

none-headed : (ms : List Member) → concat_map heads_at (concat_map token_parts (member_tokens ms)) ≡ []
none-headed [] = refl
none-headed (chars (string cs) ∷ ms) = none-headed ms
none-headed (chars (hex n) ∷ ms) = none-headed ms
none-headed (range a b ∷ ms) = none-headed ms
none-headed (class k ∷ ms) = none-headed ms

heads-terminal : (x : Terminal) → concat_map heads_at (concat_map token_parts (terminal_tokens x)) ≡ []
heads-terminal (literal m (string cs)) = refl
heads-terminal (literal m (hex n)) = refl
heads-terminal (inclusion m ms) = none-headed ms
heads-terminal (exclusion m ms) = none-headed ms
heads-terminal (insertion (string cs)) = refl
heads-terminal (insertion (hex n)) = refl

heads-local : Local heads_at (λ s. concat_map (λ x. []) (terminals_in s))
heads-local = by-terminal heads_at (λ x. []) refl (λ n. refl) heads-terminal

nothing : (ss : List Symbol) → concat_map (λ s. concat_map {A = Terminal} {B = Text} (λ x. []) (terminals_in s)) ss ≡ []
nothing [] = refl
nothing (s ∷ ss) = go (terminals_in s) ∙ nothing ss
  where
    go : (xs : List Terminal) → concat_map (λ x. []) xs ++ concat_map (λ s. concat_map {A = Terminal} {B = Text} (λ x. []) (terminals_in s)) ss
        ≡ concat_map (λ s. concat_map (λ x. []) (terminals_in s)) ss
    go [] = refl
    go (x ∷ xs) = go xs

heads-rule : {t u : Text} {r : Rule} (x : RuleOf t u r) → concat_map heads_at (bare (spots_rule x)) ≡ r.name ∷ []
heads-rule (a-rule {n = v} {b = b} p n s i s' a j) = ap (◌∷◌ v) (in-alts heads_at (λ s. concat_map (λ x. []) (terminals_in s)) heads-local a ∙ nothing (within_body b))

joined : (xs ys : List Spot) → concat_map heads_at (bare (xs ++ ys)) ≡ concat_map heads_at (bare xs) ++ concat_map heads_at (bare ys)
joined xs ys = ap (concat_map heads_at) (concat-append (λ s. s.part ∷ []) xs ys) ∙ concat-append heads_at (bare xs) (bare ys)

heads-rules : {t u : Text} {rs : List Rule} (x : Rules t u rs) → concat_map heads_at (bare (spots_rules x)) ≡ concat_map (λ r. r.name ∷ []) rs
heads-rules rules-none = refl
heads-rules (rules-next {r = v} {rs = vs} s r rs) = joined (spots_rule r) (spots_rules rs) ∙ ap₂ ◌++◌ (heads-rule r) (heads-rules rs)

written-heads : {t : Text} {g : Grammar} (d : Ixml t g) → concat_map heads_at (bare (spots d)) ≡ heads g
written-heads (ixml {r = v} {rs = vs} s k r rs e) =
    joined (spots_prolog k) (spots_rule r ++ spots_rules rs)
    ∙ ap₂ ◌++◌ (in-prolog heads_at (λ s. concat_map (λ x. []) (terminals_in s)) heads-local k) (joined (spots_rule r) (spots_rules rs) ∙ ap₂ ◌++◌ (heads-rule r) (heads-rules rs))

-- 3. The static rules, part by part. All but 6 look at one part alone.
alone : (f : List Part → Part → Bool) (h : Part → Bool) → ((before : List Part) (x : Part) → f before x ≡ h x) → (before xs : List Part) → hits f before xs ≡ any h xs
alone f h e before [] = refl
alone f h e before (x ∷ xs) = ap₂ ◌||◌ (e before x) (alone f h e (x ∷ before) xs)

pub by_parts : {A : Type 0} (f : List Part → Part → Bool) (b : A → Bool) (p : Part → List A) (before ps : List Part) (xs : List A)
    → ((before : List Part) (x : Part) → f before x ≡ any b (p x)) → concat_map p ps ≡ xs → hits f before ps ≡ any b xs
by_parts f b p before ps xs h e = alone f (λ x. any b (p x)) h before ps ∙ sym (any-concat b p ps) ∙ ap (any b) e

-- 6: looking back for an equal one is looking ahead
any-or : {A : Type 0} (f h : A → Bool) (xs : List A) → any (λ x. f x || h x) xs ≡ any f xs || any h xs
any-or f h [] = refl
any-or f h (x ∷ xs) = rw (any-or f h xs) (shuffle (f x) (h x) (any f xs) (any h xs))
  where
    shuffle : (a b c d : Bool) → (a || b) || (c || d) ≡ (a || c) || (b || d)
    shuffle true b c d = refl
    shuffle false true true d = refl
    shuffle false true false d = refl
    shuffle false false c d = refl

eqb-sym : (a b : ℕ) → eqb a b ≡ eqb b a
eqb-sym a b = elim (ℕ_discrete a b) as (λ _. eqb a b ≡ eqb b a) [ yes e ↦ eq-eqb a b e ∙ sym (eq-eqb b a (sym e)) | no e ↦ ne_eqb a b e ∙ sym (ne_eqb b a (λ q. e (sym q))) ]

same-sym : (xs ys : Text) → same xs ys ≡ same ys xs
same-sym [] [] = refl
same-sym [] (y ∷ ys) = refl
same-sym (x ∷ xs) [] = refl
same-sym (x ∷ xs) (y ∷ ys) = rw (eqb-sym x y, same-sym xs ys)

abbrev back : List Text → List Text → Bool
back hs [] = false
back hs (k ∷ ks) = any (same k) hs || back (k ∷ hs) ks

back-repeats : (hs ks : List Text) → back hs ks ≡ any (λ k. any (same k) hs) ks || repeats ks
back-repeats hs [] = refl
back-repeats hs (k ∷ ks) =
    ap (◌||◌ (any (same k) hs))
    (back-repeats (k ∷ hs) ks
    ∙ ap (λ (b : Bool). b || repeats ks)
    (any-or (λ j. same j k) (λ j. any (same j) hs) ks ∙ ap (λ (b : Bool). b || any (λ j. any (same j) hs) ks) (any-ext (λ j. same j k) (same k) (λ j. same-sym j k) ks)))
    ∙ shuffle (any (same k) hs) (any (same k) ks) (any (λ j. any (same j) hs) ks) (repeats ks)
  where
    shuffle : (a b c d : Bool) → a || ((b || c) || d) ≡ (a || c) || (b || d)
    shuffle true b c d = refl
    shuffle false true true d = refl
    shuffle false true false d = refl
    shuffle false false c d = refl

abbrev again : List Part → Part → Bool
again before x = any (λ k. any (same k) (concat_map heads_at before)) (heads_at x)

hits-back : (before xs : List Part) → hits again before xs ≡ back (concat_map heads_at before) (concat_map heads_at xs)
hits-back before [] = refl
hits-back before (used n ∷ xs) = hits-back (used n ∷ before) xs
hits-back before (headed k ∷ xs) = ap₂ ◌||◌ (or-false (any (same k) (concat_map heads_at before))) (hits-back (headed k ∷ before) xs)
hits-back before (spelt k ∷ xs) = hits-back (spelt k ∷ before) xs
hits-back before (member m ∷ xs) = hits-back (member m ∷ before) xs
hits-back before (to k ∷ xs) = hits-back (to k ∷ before) xs
hits-back before (other ∷ xs) = hits-back (other ∷ before) xs

-- nothing stands before the first
back_none : (ks : List Text) → any (λ k. any (same k) []) ks ≡ false
back_none [] = refl
back_none (k ∷ ks) = back_none ks

-- 4. Where the rule is broken some part is at fault.
pub place-5 : (t : Text) (g : Grammar) → Ixml t g → T (undefined g) → (p : ℕ) × Place 5 t p
unfolding at_fault undefined
place-5 t g d h =
    place-from 5 d
    (by_parts (at_fault 5 (heads g)) (λ k. not (any (same k) (heads g))) used_at [] (bare (spots d)) (names g) (λ before x. refl) (written-names d) ∙ T_true (undefined g) h)

pub place-6 : (t : Text) (g : Grammar) → Ixml t g → T (duplicate g) → (p : ℕ) × Place 6 t p
unfolding at_fault duplicate
place-6 t g d h =
    place-from 6 d
    (hits-back [] (bare (spots d)) ∙ ap (back []) (written-heads d) ∙ back-repeats [] (heads g) ∙ ap (λ (b : Bool). b || repeats (heads g)) (back_none (heads g)) ∙ T_true (duplicate g) h)

pub place-7 : (t : Text) (g : Grammar) → Ixml t g → T (beyond g) → (p : ℕ) × Place 7 t p
unfolding at_fault beyond
place-7 t g d h = place-from 7 d (by_parts (at_fault 7 (heads g)) (ltb 0x10ffff) hexes_at [] (bare (spots d)) (hexes g) (λ before x. refl) (written-hexes d) ∙ T_true (beyond g) h)

pub place-8 : (t : Text) (g : Grammar) → Ixml t g → T (banned g) → (p : ℕ) × Place 8 t p
unfolding at_fault banned
place-8 t g d h = place-from 8 d (by_parts (at_fault 8 (heads g)) unassignable hexes_at [] (bare (spots d)) (hexes g) (λ before x. refl) (written-hexes d) ∙ T_true (banned g) h)

pub place-9 : (t : Text) (g : Grammar) → Ixml t g → T (backwards g) → (p : ℕ) × Place 9 t p
unfolding at_fault backwards
place-9 t g d h = place-from 9 d (by_parts (at_fault 9 (heads g)) runs_back members_at [] (bare (spots d)) (members g) (λ before x. refl) (written-members d) ∙ T_true (backwards g) h)

pub place-10 : (t : Text) (g : Grammar) → Ixml t g → T (unclassed g) → (p : ℕ) × Place 10 t p
unfolding at_fault unclassed
place-10 t g d h = place-from 10 d (by_parts (at_fault 10 (heads g)) no_class members_at [] (bare (spots d)) (members g) (λ before x. refl) (written-members d) ∙ T_true (unclassed g) h)
