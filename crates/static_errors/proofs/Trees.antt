-- Each static rule over the tokens of a tree is that rule over the tree.
use mathlib.Core.Path.{◌≡◌, refl, sym, ap, ◌∙◌}
use mathlib.Core.Bool.{Bool, true, false, not, ◌||◌}
use mathlib.Core.Logic.{⊎_elim}
use mathlib.Core.List.{List, [], ◌∷◌, ◌++◌, append-nil}
use Prim.Native.Nat.{ℕ, ◌≤◌}
use native.Mathlib.Omega.{arith}
use lib.Dec.{T, ltb, eqb}
use borrow.Author.Tests.{ltb-false, lt-ltb}
use Rattle.text.specs.Lists.{Text, pick, any, same, repeats, concat_map}
use Rattle.text.proofs.Lists.{or-false, any_append, any-concat, any-agree, any-ext, concat-concat}
use Rattle.text.proofs.Tests.{split, clash}
use Rattle.tree.specs.Tree.{Chars, string, hex, Member, Terminal, literal, inclusion, exclusion, insertion, Grammar}
use Rattle.tree.specs.Tree.{Symbol, terminal, nonterminal, group, option, repeat0, repeat1, repeat0sep, repeat1sep, rest}
use Rattle.tree.specs.Tree as tree
use Rattle.tree.specs.Tokens.{capped, member_token, member_tokens, terminal_tokens, grammar_tokens}
use Rattle.plain.specs.Written.{written, names_in, terminals_in, members_in, chars_in_member, chars_in, hex_in, names, terminals, hexes, heads}
use Rattle.plain.specs.Static.{undefined, duplicate, beyond, unassignable, banned, code_of, runs_back, backwards, no_class, unclassed}
use Rattle.static_errors.specs.Held.{proper, static_of}
use Rattle.static_errors.specs.Parts.{Part, used, headed, code, other, end_code, part, used_in, codes_in, lacking, bad_code, backward, classless, failing}
use Rattle.static_errors.specs.Scan.{heads_of, fails, name_refusal, code_refusal, refusal_of}
use Rattle.static_errors.proofs.ProperTrees.{symbol_part, by-symbols, by_members, heads-are}

-- 5
module _ (hs : List Text) where
  used-member : (m : Member) → any (λ n. not (any (same n) hs)) (used_in (part (member_token m))) ≡ any {A = ℕ} (λ n. false) []
  used-member (tree.chars (string cs)) = refl
  used-member (tree.chars (hex n)) = refl
  used-member (tree.range a b) = refl
  used-member (tree.class k) = refl

  nothing : (ms : List Member) → any {A = ℕ} (λ n. false) (concat_map (λ m. []) ms) ≡ false
  nothing [] = refl
  nothing (m ∷ ms) = nothing ms

  used-set : (ms : List Member) → any (λ n. not (any (same n) hs)) (concat_map (λ x. used_in (part x)) (member_tokens ms)) ≡ false
  used-set ms = by_members used_in refl (λ n. not (any (same n) hs)) (λ m. []) (λ n. false) used-member ms ∙ nothing ms

  used-symbol : (s : Symbol) → any (λ n. not (any (same n) hs)) (symbol_part (λ x. used_in (part x)) s) ≡ any (λ n. not (any (same n) hs)) (names_in s)
  used-symbol (terminal (literal m (string cs))) = refl
  used-symbol (terminal (literal m (hex n))) = refl
  used-symbol (terminal (inclusion m ms)) = used-set ms
  used-symbol (terminal (exclusion m ms)) = used-set ms
  used-symbol (terminal (insertion (string cs))) = refl
  used-symbol (terminal (insertion (hex n))) = refl
  used-symbol (nonterminal m n) = refl
  used-symbol (group b) = refl
  used-symbol (option f) = refl
  used-symbol (repeat0 f) = refl
  used-symbol (repeat1 f) = refl
  used-symbol (repeat0sep f sep) = refl
  used-symbol (repeat1sep f sep) = refl
  used-symbol (rest f sep) = refl

  names-agree : (g : Grammar) → T (proper g) → any (λ x. lacking hs (part x)) (grammar_tokens g) ≡ any (λ n. not (any (same n) hs)) (names g)
  names-agree g h =
      by-symbols used_in refl (λ n. refl) (λ n. not (any (same n) hs)) g h
      ∙ any-ext _ _ used-symbol (written g)
      ∙ sym (any-concat (λ n. not (any (same n) hs)) names_in (written g))

-- 7 and 8: a test of codes, of capped values
module _ (t : ℕ → Bool) where
  code-member : (m : Member) → any t (codes_in (part (member_token m))) ≡ any (λ n. t (capped n)) (concat_map hex_in (chars_in_member m))
  code-member (tree.chars (string cs)) = refl
  code-member (tree.chars (hex n)) = refl
  code-member (tree.range (string cs) (string ds)) = refl
  code-member (tree.range (string cs) (hex n)) = refl
  code-member (tree.range (hex m) (string ds)) = refl
  code-member (tree.range (hex m) (hex n)) = refl
  code-member (tree.class k) = refl

  code-set : (ms : List Member) → any t (concat_map (λ x. codes_in (part x)) (member_tokens ms)) ≡ any (λ n. t (capped n)) (concat_map hex_in (concat_map chars_in_member ms))
  code-set ms = by_members codes_in refl t (λ m. concat_map hex_in (chars_in_member m)) (λ n. t (capped n)) code-member ms
      ∙ ap (any (λ n. t (capped n))) (sym (concat-concat hex_in chars_in_member ms))

  code-terminal : (x : Terminal) → any t (concat_map (λ y. codes_in (part y)) (terminal_tokens x)) ≡ any (λ n. t (capped n)) (concat_map hex_in (chars_in x))
  code-terminal (literal m (string cs)) = refl
  code-terminal (literal m (hex n)) = refl
  code-terminal (inclusion m ms) = code-set ms
  code-terminal (exclusion m ms) = code-set ms
  code-terminal (insertion (string cs)) = refl
  code-terminal (insertion (hex n)) = refl

  code-symbol : (s : Symbol) → any t (symbol_part (λ x. codes_in (part x)) s) ≡ any (λ x. any (λ n. t (capped n)) (concat_map hex_in (chars_in x))) (terminals_in s)
  code-symbol (terminal x) = code-terminal x ∙ sym (or-false (any (λ n. t (capped n)) (concat_map hex_in (chars_in x))))
  code-symbol (nonterminal m n) = refl
  code-symbol (group b) = refl
  code-symbol (option f) = refl
  code-symbol (repeat0 f) = refl
  code-symbol (repeat1 f) = refl
  code-symbol (repeat0sep f sep) = refl
  code-symbol (repeat1sep f sep) = refl
  code-symbol (rest f sep) = refl

  -- a test over the hex numbers, terminal by terminal
  over-hexes : (u : ℕ → Bool) (g : Grammar) → any u (hexes g) ≡ any (λ x. any u (concat_map hex_in (chars_in x))) (terminals g)
  over-hexes u g = any-concat u hex_in (concat_map chars_in (terminals g)) ∙ any-concat (λ k. any u (hex_in k)) chars_in (terminals g)
      ∙ any-ext _ _ (λ x. sym (any-concat u hex_in (chars_in x))) (terminals g)

  codes-agree : (g : Grammar) → T (proper g) → any (λ x. any t (codes_in (part x))) (grammar_tokens g) ≡ any (λ n. t (capped n)) (hexes g)
  codes-agree g h =
      by-symbols codes_in refl (λ n. refl) t g h
      ∙ any-ext _ _ code-symbol (written g)
      ∙ sym (any-concat (λ x. any (λ n. t (capped n)) (concat_map hex_in (chars_in x))) terminals_in (written g))
      ∙ sym (over-hexes (λ n. t (capped n)) g)

-- 9 and 10: a test of members
abbrev flag : (Part → Bool) → Part → List Bool
flag t p = pick (t p) (true ∷ []) []

any_flag : (t : Part → Bool) (p : Part) → any (λ b. b) (flag t p) ≡ t p
any_flag t p = go (t p)
  where
    go : (b : Bool) → any (λ c. c) (pick b (true ∷ []) []) ≡ b
    go true = refl
    go false = refl

-- a test that only ranges and classes pass
record Membered (t : Part → Bool) : Type 0 where
  pub used : (n : Text) → t (used n) ≡ false
  pub headed : (n : Text) → t (headed n) ≡ false
  pub code : (v : ℕ) → t (code v) ≡ false
  pub other : t other ≡ false

module _ (t : Part → Bool) (w : Membered t) where
  flag-none : (p : Part) → t p ≡ false → flag t p ≡ []
  flag-none p e = rw e

  flag-set : (ms : List Member) → any (λ b. b) (concat_map (λ x. flag t (part x)) (member_tokens ms)) ≡ any (λ m. t (part (member_token m))) ms
  flag-set ms = by_members (flag t) (flag-none other w.other) (λ b. b) (λ m. flag t (part (member_token m))) (λ b. b) (λ m. refl) ms
      ∙ any-concat (λ b. b) (λ m. flag t (part (member_token m))) ms
      ∙ any-ext _ _ (λ m. any_flag t (part (member_token m))) ms

  alone : (p : Part) → t p ≡ false → any (λ b. b) (flag t p ++ []) ≡ false
  alone p e = rw e

  set-of : (ms : List Member) → any (λ b. b) (flag t other ++ concat_map (λ x. flag t (part x)) (member_tokens ms)) ≡ any (λ m. t (part (member_token m))) ms
  set-of ms = rw w.other (flag-set ms)

  flag-terminal : (x : Terminal) → any (λ b. b) (concat_map (λ y. flag t (part y)) (terminal_tokens x)) ≡ any (λ m. t (part (member_token m))) (members_in x)
  flag-terminal (literal m (string cs)) = alone other w.other
  flag-terminal (literal m (hex n)) = alone (code (capped n)) (w.code (capped n))
  flag-terminal (inclusion m ms) = set-of ms
  flag-terminal (exclusion m ms) = set-of ms
  flag-terminal (insertion (string cs)) = alone other w.other
  flag-terminal (insertion (hex n)) = alone (code (capped n)) (w.code (capped n))

  flag-symbol : (s : Symbol) → any (λ b. b) (symbol_part (λ x. flag t (part x)) s) ≡ any (λ x. any (λ m. t (part (member_token m))) (members_in x)) (terminals_in s)
  flag-symbol (terminal x) = flag-terminal x ∙ sym (or-false (any (λ m. t (part (member_token m))) (members_in x)))
  flag-symbol (nonterminal m n) = rw (w.used n)
  flag-symbol (group b) = refl
  flag-symbol (option f) = refl
  flag-symbol (repeat0 f) = refl
  flag-symbol (repeat1 f) = refl
  flag-symbol (repeat0sep f sep) = refl
  flag-symbol (repeat1sep f sep) = refl
  flag-symbol (rest f sep) = refl

  members-agree : (g : Grammar) → T (proper g) → any (λ x. t (part x)) (grammar_tokens g) ≡ any (λ x. any (λ m. t (part (member_token m))) (members_in x)) (terminals g)
  members-agree g h =
      any-ext _ _ (λ x. sym (any_flag t (part x))) (grammar_tokens g)
      ∙ by-symbols (flag t) (flag-none other w.other) (λ n. flag-none (headed n) (w.headed n)) (λ b. b) g h
      ∙ any-ext _ _ flag-symbol (written g)
      ∙ sym (any-concat (λ x. any (λ m. t (part (member_token m))) (members_in x)) terminals_in (written g))

back-membered : Membered backward
back-membered = record { used = λ n. refl; headed = λ n. refl; code = λ v. refl; other = refl }

class-membered : Membered classless
class-membered = record { used = λ n. refl; headed = λ n. refl; code = λ v. refl; other = refl }

-- a value that 7 lets through is not capped
cap-same : (n : ℕ) → n ≤ 0x10ffff → capped n ≡ n
cap-same n h = omega arith

pub fine-same : (n : ℕ) → ltb 0x10ffff n ≡ false → capped n ≡ n
fine-same n e = cap-same n (ltb-false 0x10ffff n e)

pub cap-beyond : (n : ℕ) → ltb 0x10ffff (capped n) ≡ ltb 0x10ffff n
cap-beyond n = ⊎_elim (λ h. rw (lt-ltb 0x10ffff n h, lt-ltb 0x10ffff (capped n) (omega arith))) (λ h. rw (cap-same n h)) (split 0x10ffff n)

or_left : (a b : Bool) → a || b ≡ false → a ≡ false
or_left true b e = e
or_left false b e = refl

or_right : (a b : Bool) → a || b ≡ false → b ≡ false
or_right true b e = absurd (clash e refl)
or_right false b e = e

pub end_same : (a : Chars) → any (ltb 0x10ffff) (hex_in a) ≡ false → end_code a ≡ code_of a
unfolding code_of
end_same (string cs) e = refl
end_same (hex n) e = fine-same n (or_left (ltb 0x10ffff n) false e)

back-member : (m : Member) → any (ltb 0x10ffff) (concat_map hex_in (chars_in_member m)) ≡ false → backward (part (member_token m)) ≡ runs_back m
unfolding runs_back
back-member (tree.chars (string cs)) e = refl
back-member (tree.chars (hex n)) e = refl
back-member (tree.range a b) e =
    let f = sym (any_append (ltb 0x10ffff) (hex_in a) (hex_in b ++ [])) ∙ e in
    let u = or_left (any (ltb 0x10ffff) (hex_in a)) (any (ltb 0x10ffff) (hex_in b ++ [])) f in
    let v = or_right (any (ltb 0x10ffff) (hex_in a)) (any (ltb 0x10ffff) (hex_in b ++ [])) f in
    rw (end_same a u, end_same b (sym (ap (any (ltb 0x10ffff)) (append-nil (hex_in b))) ∙ v))
back-member (tree.class k) e = refl

back-set : (ms : List Member) → any (ltb 0x10ffff) (concat_map hex_in (concat_map chars_in_member ms)) ≡ false → any (λ m. backward (part (member_token m))) ms ≡ any runs_back ms
back-set ms e =
    any-agree (λ m. any (ltb 0x10ffff) (concat_map hex_in (chars_in_member m))) (λ m. backward (part (member_token m))) runs_back back-member ms
    (sym (any-concat (ltb 0x10ffff) (λ m. concat_map hex_in (chars_in_member m)) ms) ∙ sym (ap (any (ltb 0x10ffff)) (concat-concat hex_in chars_in_member ms)) ∙ e)

back-terminal : (x : Terminal) → any (ltb 0x10ffff) (concat_map hex_in (chars_in x)) ≡ false → any (λ m. backward (part (member_token m))) (members_in x) ≡ any runs_back (members_in x)
back-terminal (literal m k) e = refl
back-terminal (inclusion m ms) e = back-set ms e
back-terminal (exclusion m ms) e = back-set ms e
back-terminal (insertion k) e = refl

class-member : (m : Member) → classless (part (member_token m)) ≡ no_class m
unfolding no_class
class-member (tree.chars (string cs)) = refl
class-member (tree.chars (hex n)) = refl
class-member (tree.range a b) = refl
class-member (tree.class k) = refl

in_order : (a b : Bool) (c : ℕ) → pick (eqb (pick a 5 (pick b 6 0)) 0) c (pick a 5 (pick b 6 0)) ≡ pick a 5 (pick b 6 c)
in_order true b c = refl
in_order false true c = refl
in_order false false c = refl

module _ (g : Grammar) (h : T (proper g)) where
  rule-5 : any (fails 5 (heads g)) (grammar_tokens g) ≡ undefined g
  unfolding failing undefined
  rule-5 = names-agree (heads g) g h

  module _ (hs : List Text) where
    rule-7 : any (fails 7 hs) (grammar_tokens g) ≡ beyond g
    unfolding failing bad_code beyond
    rule-7 = codes-agree (ltb 0x10ffff) g h ∙ any-ext _ _ cap-beyond (hexes g)

    rule-8 : beyond g ≡ false → any (fails 8 hs) (grammar_tokens g) ≡ banned g
    unfolding failing bad_code beyond banned
    rule-8 e = codes-agree unassignable g h ∙ any-agree (ltb 0x10ffff) (λ n. unassignable (capped n)) unassignable (λ n f. ap unassignable (fine-same n f)) (hexes g) e

    rule-9 : beyond g ≡ false → any (fails 9 hs) (grammar_tokens g) ≡ backwards g
    unfolding failing beyond backwards
    rule-9 e =
        members-agree backward back-membered g h
        ∙ any-agree (λ x. any (ltb 0x10ffff) (concat_map hex_in (chars_in x))) (λ x. any (λ m. backward (part (member_token m))) (members_in x))
        (λ x. any runs_back (members_in x)) back-terminal (terminals g)
        (sym (over-hexes (λ n. true) (ltb 0x10ffff) g) ∙ e)
        ∙ sym (any-concat runs_back members_in (terminals g))

    rule-10 : any (fails 10 hs) (grammar_tokens g) ≡ unclassed g
    unfolding failing unclassed
    rule-10 =
        members-agree classless class-membered g h
        ∙ any-ext _ _ (λ x. any-ext _ _ class-member (members_in x)) (terminals g)
        ∙ sym (any-concat no_class members_in (terminals g))

    code-rules : code_refusal hs (grammar_tokens g) ≡ pick (beyond g) 7 (pick (banned g) 8 (pick (backwards g) 9 (pick (unclassed g) 10 0)))
    unfolding code_refusal
    code-rules = go (beyond g) refl
      where
        go : (b : Bool) → beyond g ≡ b → ◌≡◌ {A = ℕ}
            (pick (any (fails 7 hs) (grammar_tokens g)) 7 (pick (any (fails 8 hs) (grammar_tokens g)) 8 (pick (any (fails 9 hs) (grammar_tokens g)) 9 (pick (any (fails 10 hs) (grammar_tokens g)) 10 0))))
            (pick (beyond g) 7 (pick (banned g) 8 (pick (backwards g) 9 (pick (unclassed g) 10 0))))
        go true e = let f = rule-7 ∙ e in rw (f, e)
        go false e = let f = rule-7 ∙ e in rw (f, e, rule-8 e, rule-9 e, rule-10)

  -- the rules over the tokens
  pub rules-agree : refusal_of (heads_of (grammar_tokens g)) (grammar_tokens g) ≡ static_of g
  unfolding refusal_of name_refusal static_of duplicate
  rules-agree = rw (heads-are g h, code-rules (heads g), rule-5) (in_order (undefined g) (repeats (heads g)) (pick (beyond g) 7 (pick (banned g) 8 (pick (backwards g) 9 (pick (unclassed g) 10 0)))))
