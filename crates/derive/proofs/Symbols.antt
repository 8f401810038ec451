-- The symbols of the plain rules are closed under alternatives.
use mathlib.Core.Path.{◌≡◌, refl, sym, ap, subst}
use mathlib.Core.Bool.{true, false}
use mathlib.Core.Logic.{inl, inr}
use mathlib.Core.List.Memᴰ.{head as in_head}
use mathlib.Core.List.Memᴰ.{tail as in_Tail}
use mathlib.Core.List.{List, [], ◌∷◌, ◌++◌, Memᴰ as In}
use mathlib.Core.List.Memᴰ.{append_cases as in-cases}
use mathlib.Core.List.Memᴰ.{append_left as in_left}
use mathlib.Core.List.Memᴰ.{append_right as in_right}
use Prim.Native.Nat.{ℕ, zero, suc}
use lib.ListN.{get_or}
use Rattle.text.specs.Lists.{Text, pick, same, concat_map}
use Rattle.tree.specs.Tree.{
  unmarked,
  Terminal,
  Symbol,
  terminal,
  nonterminal,
  group,
  option,
  repeat0,
  repeat1,
  repeat0sep,
  repeat1sep,
  rest,
  Alternative,
  nil,
  cons,
  Body,
  one,
  also,
  Rule,
  Grammar,
  rules,
}
use Rattle.plain.specs.Written.{within, within_alternative, within_body, written, terminals_in}
use Rattle.plain.specs.Plain.{symbols, alternatives, rule_for, alts, makes, ruled}
use Rattle.derive.specs.Derive.{root, alternative}
use Rattle.derive.specs.Bound.{family, symbols_of}

module _ {A B : Type 0} where
  pub in-concat : (f : A → List B) (xs : List A) {x : A} {y : B} → In x xs → In y (f x) → In y (concat_map f xs)
  in-concat f (x ∷ xs) {y = y} (in_head e) h = in_left (concat_map f xs) (subst (λ (z : A). In y (f z)) e h)
  in-concat f (x ∷ xs) (in_Tail m) h = in_right (f x) (in-concat f xs m h)
  in-concat f [] {y = y} x4 h = elim x4 [ ]

  -- where an element of the joined lists comes from
  record From (f : A → List B) (xs : List A) (y : B) : Type 0 where
    x : A
    place : In x xs
    holds : In y (f x)

  from-concat : (f : A → List B) (xs : List A) {y : B} → In y (concat_map f xs) → From f xs y
  from-concat f [] h = elim h [ ]
  from-concat f (x ∷ xs) {y} h = elim (in-cases (f x) h) as (λ _. From f (x ∷ xs) y) [
    | inl k ↦ record { x = x; place = in_head refl; holds = k }
    | inr k ↦ (let w = from-concat f xs k in record { x = w.x; place = in_Tail w.place; holds = w.holds })
  ]

-- the list has all that stands inside its symbols
abbrev Closed : List Symbol → Type 0
Closed xs = (f h : Symbol) → In f xs → In h (within f) → In h xs

closed-nil : Closed []
closed-nil f h m k = elim m [ ]

closed-head : (s : Symbol) (xs : List Symbol) → within s ≡ s ∷ xs → Closed xs → Closed (s ∷ xs)
closed-head s xs e c f h (in_head q) k = subst (λ (l : List Symbol). In h l) e (subst (λ (z : Symbol). In h (within z)) q k)
closed-head s xs e c f h (in_Tail m) k = in_Tail (c f h m k)

closed-append : (xs ys : List Symbol) → Closed xs → Closed ys → Closed (xs ++ ys)
closed-append xs ys c d f h m k = elim (in-cases xs m) as (λ _. In h (xs ++ ys)) [ inl l ↦ in_left ys (c f h l k) | inr l ↦ in_right xs (d f h l k) ]

mutual
  within-closed : (s : Symbol) → Closed (within s)
  within-closed (terminal x) = closed-head (terminal x) [] refl closed-nil
  within-closed (nonterminal m n) = closed-head (nonterminal m n) [] refl closed-nil
  within-closed (group b) = closed-head (group b) (within_body b) refl (body_closed b)
  within-closed (option f) = closed-head (option f) (within f) refl (within-closed f)
  within-closed (repeat0 f) = closed-head (repeat0 f) (within f) refl (within-closed f)
  within-closed (repeat1 f) = closed-head (repeat1 f) (within f) refl (within-closed f)
  within-closed (repeat0sep f sep) = closed-head (repeat0sep f sep) (within f ++ within sep) refl (closed-append (within f) (within sep) (within-closed f) (within-closed sep))
  within-closed (repeat1sep f sep) = closed-head (repeat1sep f sep) (within f ++ within sep) refl (closed-append (within f) (within sep) (within-closed f) (within-closed sep))
  within-closed (rest f sep) = closed-head (rest f sep) (within f ++ within sep) refl (closed-append (within f) (within sep) (within-closed f) (within-closed sep))

  alternative-closed : (a : Alternative) → Closed (within_alternative a)
  alternative-closed nil = closed-nil
  alternative-closed (cons f a) = closed-append (within f) (within_alternative a) (within-closed f) (alternative-closed a)

  body_closed : (b : Body) → Closed (within_body b)
  body_closed (one a) = alternative-closed a
  body_closed (also a b) = closed-append (within_alternative a) (within_body b) (alternative-closed a) (body_closed b)

rules-closed : (rs : List Rule) → Closed (concat_map (λ r. within_body r.body) rs)
rules-closed [] = closed-nil
rules-closed (r ∷ rs) = closed-append (within_body r.body) (concat_map (λ r. within_body r.body) rs) (body_closed r.body) (rules-closed rs)

self : (s : Symbol) → In s (within s)
self (terminal x) = in_head refl
self (nonterminal m n) = in_head refl
self (group b) = in_head refl
self (option f) = in_head refl
self (repeat0 f) = in_head refl
self (repeat1 f) = in_head refl
self (repeat0sep f sep) = in_head refl
self (repeat1sep f sep) = in_head refl
self (rest f sep) = in_head refl

-- the terminal of a symbol is that symbol
pub the-terminal : (s : Symbol) (x : Terminal) → In x (terminals_in s) → terminal x ≡ s
the-terminal (terminal y) x (in_head q) = ap terminal q
the-terminal (terminal y) x (in_Tail m) = elim m [ ]
the-terminal (nonterminal n t) x m = elim m [ ]
the-terminal (group b) x m = elim m [ ]
the-terminal (option f) x m = elim m [ ]
the-terminal (repeat0 f) x m = elim m [ ]
the-terminal (repeat1 f) x m = elim m [ ]
the-terminal (repeat0sep f sep) x m = elim m [ ]
the-terminal (repeat1sep f sep) x m = elim m [ ]
the-terminal (rest f sep) x m = elim m [ ]

module _ (g : Grammar) where
  -- the symbols are the plain rules' own
  abbrev pub Inside : List Symbol → Type 0
  Inside [] = Unit {0}
  Inside (s ∷ ss) = In s (symbols_of g) × Inside ss

  -- so are those of all these alternatives; those of all alternatives of these symbols
  abbrev InsideAll : List (List Symbol) → Type 0
  InsideAll [] = Unit {0}
  InsideAll (ss ∷ tss) = Inside ss × InsideAll tss

  abbrev Kept : List Symbol → Type 0
  Kept [] = Unit {0}
  Kept (s ∷ ss) = InsideAll (alts g s) × Kept ss

  inside-get : (tss : List (List Symbol)) → InsideAll tss → (a : ℕ) → Inside (get_or tss a [])
  inside-get [] h a = tt
  inside-get (ss ∷ tss) h zero = h.0
  inside-get (ss ∷ tss) h (suc a) = inside-get tss h.1 a

  kept-get : {s : Symbol} (ss : List Symbol) → Kept ss → In s ss → InsideAll (alts g s)
  kept-get (x ∷ ss) h (in_head e) = subst (λ (z : Symbol). InsideAll (alts g z)) (sym e) h.0
  kept-get (x ∷ ss) h (in_Tail m) = kept-get ss h.1 m
  kept-get {s = s} [] h x'' = elim x'' [ ]

  member : {s w : Symbol} → In w (written g) → In s (family w) → In s (symbols_of g)
  member h k = in_Tail (in-concat family (written g) h k)

  -- what stands inside a written symbol
  part : {f w : Symbol} → In w (written g) → In f (within w) → In f (symbols_of g)
  part {f} {w} h k = member (rules-closed (rules g) w f h k) (in_head refl)

  abbrev Written : List Symbol → Type 0
  Written xs = (f : Symbol) → In f xs → In f (written g)

  alternative-inside : (a : Alternative) → Written (within_alternative a) → Inside (symbols a)
  alternative-inside nil h = tt
  alternative-inside (cons f a) h = (member (h f (in_left (within_alternative a) (self f))) (in_head refl), alternative-inside a (λ k m. h k (in_right (within f) m)))

  body-inside : (b : Body) → Written (within_body b) → InsideAll (alternatives b)
  body-inside (one a) h = (alternative-inside a h, tt)
  body-inside (also a b) h = (alternative-inside a (λ k m. h k (in_left (within_body b) m)), body-inside b (λ k m. h k (in_right (within_alternative a) m)))

  rule-inside : (rs : List Rule) (n : Text) → Written (concat_map (λ r. within_body r.body) rs) → InsideAll (rule_for rs n)
  rule-inside [] n h = tt
  rule-inside (r ∷ rs) n h = elim (same n r.name) as (λ b. InsideAll (pick b (alternatives r.body) (rule_for rs n))) [
    | true ↦ body-inside r.body (λ k m. h k (in_left (concat_map (λ r. within_body r.body) rs) m))
    | false ↦ rule-inside rs n (λ k m. h k (in_right (within_body r.body) m))
  ]

  named : (n : Text) → InsideAll (rule_for (rules g) n)
  named n = rule-inside (rules g) n (λ k m. m)

  family-kept : (w : Symbol) → In w (written g) → Kept (family w)
  family-kept (terminal x) h = (tt, tt)
  family-kept (nonterminal m n) h = (named n, tt)
  family-kept (group b) h =
      let k = body-inside b (λ f m. rules-closed (rules g) (group b) f h (in_Tail m)) in
      (k, (k, tt))
  family-kept (option f) h =
      let k : InsideAll (alts g (option f)) = ((part h (in_Tail (self f)), tt), (tt, tt)) in
      (k, (k, tt))
  family-kept (repeat0 f) h =
      let k : InsideAll (alts g (repeat0 f)) = ((part h (in_Tail (self f)), (member h (in_head refl), tt)), (tt, tt)) in
      (k, (k, tt))
  family-kept (repeat1 f) h =
      let l : Inside (f ∷ repeat0 f ∷ []) = (part h (in_Tail (self f)), (member h (in_Tail (in_Tail (in_head refl))), tt)) in
      ((l, tt), ((l, tt), ((l, (tt, tt)), tt)))
  family-kept (repeat0sep f sep) h =
      let kf = part h (in_Tail (in_left (within sep) (self f))) in
      let ks = part h (in_Tail (in_right (within f) (self sep))) in
      let k1 = member h (in_Tail (in_Tail (in_head refl))) in
      let kr = member h (in_Tail (in_Tail (in_Tail (in_head refl)))) in
      let k : InsideAll (alts g (repeat0sep f sep)) = ((k1, tt), (tt, tt)) in
      (k, (k, (((kf, (kr, tt)), tt), (((ks, (kf, (kr, tt))), (tt, tt)), tt))))
  family-kept (repeat1sep f sep) h =
      let kf = part h (in_Tail (in_left (within sep) (self f))) in
      let ks = part h (in_Tail (in_right (within f) (self sep))) in
      let kr = member h (in_Tail (in_Tail (in_head refl))) in
      let k : InsideAll (alts g (repeat1sep f sep)) = ((kf, (kr, tt)), tt) in
      (k, (k, (((ks, (kf, (kr, tt))), (tt, tt)), tt)))
  family-kept (rest f sep) h =
      let kf = part h (in_Tail (in_left (within sep) (self f))) in
      let ks = part h (in_Tail (in_right (within f) (self sep))) in
      (((ks, (kf, (member h (in_head refl), tt))), (tt, tt)), tt)

  alts-inside : {s : Symbol} → In s (symbols_of g) → InsideAll (alts g s)
  alts-inside (in_head e) = subst (λ (z : Symbol). InsideAll (alts g z)) (sym e) (named g.root.name)
  alts-inside (in_Tail m) = let w = from-concat family (written g) m in kept-get (family w.x) (family-kept w.x w.place) w.holds

  -- what the alternatives of a symbol of the plain rules hold are symbols of the plain rules
  pub alternative-of : {s : Symbol} → In s (symbols_of g) → (a : ℕ) → Inside (alternative g s a)
  alternative-of {s} h a = inside-get (alts g s) (alts-inside h) a

  pub root-inside : Inside (root g ∷ [])
  root-inside = (in_head refl, tt)

  -- nor do those of a symbol that has a rule hold others
  ruled-inside : {s : Symbol} → In s (ruled g) → InsideAll (alts g s)
  ruled-inside {s} h = elim (in-cases (concat_map (λ r. nonterminal unmarked r.name ∷ []) (rules g)) h) as (λ _. InsideAll (alts g s)) [
    | inl k ↦ (let w = from-concat (λ (r : Rule). nonterminal unmarked r.name ∷ []) (rules g) k in kept-get (nonterminal unmarked w.x.name ∷ []) (named w.x.name, tt) w.holds)
    | inr k ↦ (let w = from-concat makes (written g) k in kept-get (family w.x) (family-kept w.x w.place) (in_Tail w.holds))
  ]

  pub ruled-of : {s : Symbol} → In s (ruled g) → (a : ℕ) → Inside (alternative g s a)
  ruled-of {s} h a = inside-get (alts g s) (ruled-inside h) a

  -- the same, symbol by symbol
  pub inside-in : {s : Symbol} (ss : List Symbol) → Inside ss → In s ss → In s (symbols_of g)
  inside-in {s} (x ∷ ss) h (in_head e) = subst (λ (z : Symbol). In z (symbols_of g)) (sym e) h.0
  inside-in (x ∷ ss) h (in_Tail m) = inside-in ss h.1 m
  inside-in {s = s} [] h x'' = elim x'' [ ]

  pub in-inside : (ss : List Symbol) → ((s : Symbol) → In s ss → In s (symbols_of g)) → Inside ss
  in-inside [] h = tt
  in-inside (x ∷ ss) h = (h x (in_head refl), in-inside ss (λ s m. h s (in_Tail m)))
