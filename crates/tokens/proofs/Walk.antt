-- Laws of a walk over tokens: a token's numbers say how many they are, and what follows are the numbers of the other tokens.
use mathlib.Core.List.{List, [], ◌∷◌, ◌++◌, append_assoc}
use mathlib.Core.Path.{◌≡◌, refl, sym, ap, ◌∙◌}
use Prim.Native.Nat.{ℕ, ◌+◌, ◌<◌, ◌≤◌}
use native.Mathlib.Omega.{arith}
use lib.ListN.{length, get_or, take, drop, length-append, length-drop, take-append-drop, get_or-append}
use lib.Seq.{get_or-drop, drop-append_seam, take-append_seam, drop-append-le, drop-drop, length-take-le}
use Rattle.text.specs.Lists.{Text}
use Rattle.tree.specs.Tree.{Mark, unmarked, included, attribute, deleted, Chars, string, hex, Grammar}
use Rattle.tree.specs.Tokens.{Token, name, quoted, coded, include, exclude, member-quoted, member-coded, member-range, member-class, set-end, insert-quoted, insert-coded}
use Rattle.tree.specs.Tokens.{open-group, close-group, next-alternative, to-option, to-repeat0, to-repeat1, to-repeat0sep, to-repeat1sep, rule-head, rule_end, version-is}
use Rattle.tree.specs.Tokens.{numbers, encode, mark_number, counted, class_numbers, end_numbers, grammar_tokens}
use Rattle.tokens.specs.Proper.{ProperEnd}
use Rattle.tokens.specs.Lengths.{late_form, form_of, length_of, length_at, first_number, Told, TokenAt, Holds, Left}
use Rattle.tokens.specs.Names.{name_at}
use Rattle.tokens.proofs.Told.{told-grammar}

pub by-mark : (P : ℕ → Type 0) → P 0 → P 1 → P 2 → P 3 → (m : Mark) → P (mark_number m)
by-mark P a b c d unmarked = a
by-mark P a b c d included = b
by-mark P a b c d attribute = c
by-mark P a b c d deleted = d

pub some_number : (t : Token) → 0 < length (numbers t)
some_number (name m n) = omega arith
some_number (quoted m cs) = omega arith
some_number (coded m n) = omega arith
some_number (include m) = omega arith
some_number (exclude m) = omega arith
some_number (member-quoted cs) = omega arith
some_number (member-coded n) = omega arith
some_number (member-range a b) = omega arith
some_number (member-class k) = omega arith
some_number set-end = omega arith
some_number (insert-quoted cs) = omega arith
some_number (insert-coded n) = omega arith
some_number open-group = omega arith
some_number close-group = omega arith
some_number next-alternative = omega arith
some_number to-option = omega arith
some_number to-repeat0 = omega arith
some_number to-repeat1 = omega arith
some_number to-repeat0sep = omega arith
some_number to-repeat1sep = omega arith
some_number (rule-head m n) = omega arith
some_number rule_end = omega arith
some_number (version-is cs) = omega arith

-- the form of a token
unfoldable pub form : Token → ℕ
form (name m n) = 0
form (quoted m cs) = 2
form (coded m n) = 3
form (include m) = 6
form (exclude m) = 6
form (member-quoted cs) = 2
form (member-coded n) = 3
form (member-range a b) = 4
form (member-class k) = 5
form set-end = 6
form (insert-quoted cs) = 2
form (insert-coded n) = 3
form open-group = 6
form close-group = 6
form next-alternative = 6
form to-option = 6
form to-repeat0 = 6
form to-repeat1 = 6
form to-repeat0sep = 6
form to-repeat1sep = 6
form (rule-head m n) = 1
form rule_end = 6
form (version-is cs) = 2

pub form-is : (x : Token) → form_of (get_or (numbers x) 0 0) ≡ form x
unfolding form_of late_form form
form-is (name m n) = by-mark (λ k. form_of k ≡ 0) refl refl refl refl m
form-is (quoted m cs) = by-mark (λ k. form_of (4 + k) ≡ 2) refl refl refl refl m
form-is (coded m n) = by-mark (λ k. form_of (8 + k) ≡ 3) refl refl refl refl m
form-is (include m) = by-mark (λ k. form_of (12 + k) ≡ 6) refl refl refl refl m
form-is (exclude m) = by-mark (λ k. form_of (16 + k) ≡ 6) refl refl refl refl m
form-is (member-quoted cs) = refl
form-is (member-coded n) = refl
form-is (member-range a b) = refl
form-is (member-class k) = refl
form-is set-end = refl
form-is (insert-quoted cs) = refl
form-is (insert-coded n) = refl
form-is open-group = refl
form-is close-group = refl
form-is next-alternative = refl
form-is to-option = refl
form-is to-repeat0 = refl
form-is to-repeat1 = refl
form-is to-repeat0sep = refl
form-is to-repeat1sep = refl
form-is (rule-head m n) = by-mark (λ k. form_of (20 + k) ≡ 1) refl refl refl refl m
form-is rule_end = refl
form-is (version-is cs) = refl

-- numbers in the place of a token's, as far as it has some
abbrev pub Reads : Token → (ℕ → ℕ) → Type 0
Reads x v = (j : ℕ) → j < length (numbers x) → v j ≡ get_or (numbers x) j 0

class-numbers : (k : Text) → length (class_numbers k) ≡ 2
class-numbers [] = refl
class-numbers (c ∷ []) = refl
class-numbers (c ∷ d ∷ cs) = refl

end-numbers : (k : Chars) → ProperEnd k → length (end_numbers k) ≡ 2
end-numbers (string cs) p = omega arith
end-numbers (hex n) p = refl

text-size : (k v : ℕ) (cs : Text) → v ≡ length cs → v + 2 ≡ length (k ∷ counted cs)
text-size k v cs e = omega arith

range_length : (a b : Chars) → ProperEnd a × ProperEnd b → 5 ≡ length (26 ∷ (end_numbers a ++ end_numbers b))
range_length a b p = omega (arith, length-append (end_numbers a) (end_numbers b), end-numbers a p.0, end-numbers b p.1)

class-length : (k : Text) → 3 ≡ length (27 ∷ class_numbers k)
class-length k = omega (arith, class-numbers k)

pub length-is : (x : Token) → Told x → (v : ℕ → ℕ) → Reads x v → length_of (form x) (v 1) ≡ length (numbers x)
unfolding length_of form
length-is (name m n) s v r = text-size (mark_number m) (v 1) n (r 1 (omega arith))
length-is (quoted m cs) s v r = text-size (4 + mark_number m) (v 1) cs (r 1 (omega arith))
length-is (coded m n) s v r = refl
length-is (include m) s v r = refl
length-is (exclude m) s v r = refl
length-is (member-quoted cs) s v r = text-size 24 (v 1) cs (r 1 (omega arith))
length-is (member-coded n) s v r = refl
length-is (member-range a b) s v r = range_length a b s
length-is (member-class k) s v r = class-length k
length-is set-end s v r = refl
length-is (insert-quoted cs) s v r = text-size 29 (v 1) cs (r 1 (omega arith))
length-is (insert-coded n) s v r = refl
length-is open-group s v r = refl
length-is close-group s v r = refl
length-is next-alternative s v r = refl
length-is to-option s v r = refl
length-is to-repeat0 s v r = refl
length-is to-repeat1 s v r = refl
length-is to-repeat0sep s v r = refl
length-is to-repeat1sep s v r = refl
length-is (rule-head m n) s v r = text-size (20 + mark_number m) (v 1) n (r 1 (omega arith))
length-is rule_end s v r = refl
length-is (version-is cs) s v r = text-size 40 (v 1) cs (r 1 (omega arith))

-- characters of a token that has some
abbrev pub Spelt : Token → Text → Type 0
Spelt x n = (k : ℕ) (cs : Text) → numbers x ≡ k ∷ counted cs → n ≡ cs

-- what stands in the first numbers of the table stands in it
pub drop-whole : (T : List ℕ) (m at : ℕ) (xs : List ℕ) → drop at (take m T) ≡ xs → 0 < length xs → drop at T ≡ xs ++ drop m T
drop-whole T m at xs e h =
    ap (drop at) (sym (take-append-drop m T))
    ∙ drop-append-le at (take m T) (drop m T) (omega (arith, sym (length-drop at (take m T)) ∙ ap length e))
    ∙ ap (λ (l : List ℕ). l ++ drop m T) e

-- a token stands at a place of the table
module _ {T : List ℕ} {at : ℕ} {t : Token} (w : TokenAt T at t) where
  pub stands-within : at + length (numbers t) ≤ length T
  stands-within = omega (arith, some_number t, sym (length-drop at T) ∙ ap length w.stands ∙ length-append (numbers t) w.more)

  pub stands-reads : Reads t (λ j. get_or T (at + j) 0)
  stands-reads j l = sym (get_or-drop at T j 0) ∙ ap (λ (z : List ℕ). get_or z j 0) w.stands ∙ get_or-append (numbers t) w.more 0 j l

  pub stands-first : get_or T at 0 ≡ first_number t
  stands-first = ap (λ (i : ℕ). get_or T i 0) (let z : at ≡ at + 0 = omega arith in z) ∙ stands-reads 0 (some_number t)

  pub stands-form : form_of (get_or T at 0) ≡ form t
  stands-form = ap form_of stands-first ∙ form-is t

  pub stands-length : Told t → length_at T at ≡ length (numbers t)
  stands-length p = ap (λ (f : ℕ). length_of f (get_or T (at + 1) 0)) stands-form ∙ length-is t p (λ j. get_or T (at + j) 0) stands-reads

  pub stands-spelt : Spelt t (name_at T at)
  stands-spelt k cs q =
      let l : get_or T (at + 1) 0 ≡ length cs = stands-reads 1 (omega (arith, ap length q)) ∙ ap (λ (z : List ℕ). get_or z 1 0) q in
      let d : drop (at + 2) T ≡ cs ++ w.more = sym (drop-drop 2 at T) ∙ ap (drop 2) (w.stands ∙ ap (λ (z : List ℕ). z ++ w.more) q) in
      ap (λ (n : ℕ). take n (drop (at + 2) T)) l ∙ ap (take (length cs)) d ∙ take-append_seam cs w.more

-- tokens are left at a place
pub left-empty : {T : List ℕ} {end at : ℕ} → Left T end at [] → end ≤ length T → end ≤ at
left-empty {T} {end} {at} w h = omega (arith, sym (length-drop at (take end T)) ∙ ap length w.stands, length-take-le end T h)

module _ {T : List ℕ} {end at : ℕ} {t : Token} {ts : List Token} (w : Left T end at (t ∷ ts)) (i : end ≤ length T) where
  pub left-within : at + length (numbers t) ≤ end
  left-within =
      let a : TokenAt (take end T) at t = record { more = encode ts; stands = w.stands } in
      omega (arith, stands-within a, length-take-le end T i)

  pub left-token : TokenAt T at t
  left-token = record {
    more = encode ts ++ drop end T;
    stands = drop-whole T end at (numbers t ++ encode ts) w.stands (omega (arith, length-append (numbers t) (encode ts), some_number t)) ∙ append_assoc (numbers t) (encode ts) (drop end T);
  }

  pub left-first : get_or T at 0 ≡ first_number t
  left-first = stands-first left-token

  pub left-length : length_at T at ≡ length (numbers t)
  left-length = stands-length left-token w.told.0

  pub left-inside : at + length_at T at ≤ length T
  left-inside = omega (arith, left-within, left-length)

pub left-next : {T : List ℕ} {end at : ℕ} {t : Token} {ts : List Token} → Left T end at (t ∷ ts) → Left T end (at + length (numbers t)) ts
left-next {T} {end} {at} {t} {ts} w = record {
  told = w.told.1;
  stands = sym (drop-drop (length (numbers t)) at (take end T)) ∙ ap (drop (length (numbers t))) w.stands ∙ drop-append_seam (numbers t) (encode ts);
}

pub left-start : {T : List ℕ} {end : ℕ} {g : Grammar} → Holds T end g → Left T end 0 (grammar_tokens g)
left-start {T} {end} {g} h = record { told = told-grammar g h.proper; stands = h.stands }
