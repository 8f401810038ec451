-- Laws of names: what a token that holds one says, and names compared by their places.
use mathlib.Core.Bool.{Bool, true, false, ◌&&◌}
use mathlib.Core.List.{List, ◌++◌, append_assoc}
use mathlib.Core.Path.{◌≡◌, refl, sym, ap, ◌∙◌, subst}
use Prim.Native.Nat.{ℕ, zero, suc, ◌+◌, ◌<◌, ◌≤◌}
use native.Mathlib.Omega.{arith}
use native.Mathlib.Numerals.{add-one}
use borrow.Author.Tests.{eq-eqb, ne_eqb}
use lib.Dec.{T as Holds, eqb}
use lib.ListN.{length, get_or, take, drop, length-append, length-drop, length-take, drop_of_length-le}
use lib.Seq.{get_or-take, get_or-drop, drop-drop, drop-cons, take-append_seam}
use Rattle.text.specs.Lists.{Text, same}
use Rattle.text.proofs.Lists.{same-lengths}
use Rattle.text.proofs.Tests.{same-is}
use Rattle.tree.specs.Tokens.{counted}
use Rattle.tokens.specs.Names.{Holding, name_at, Named, Names}
use Rattle.tokens.proofs.Walk.{drop-whole}

-- what a token that holds a text says
module _ {T : List ℕ} {a : ℕ} {x : Text} (h : Holding T a x) where
  pub held_fits : a + 2 + length x ≤ length T
  held_fits = omega (arith, sym (length-drop (a + 1) T) ∙ ap length h.stands ∙ ap suc (length-append x h.more))

  held_at : (j : ℕ) → get_or T (a + 1 + j) 0 ≡ get_or (counted x ++ h.more) j 0
  held_at j = sym (get_or-drop (a + 1) T j 0) ∙ ap (λ (l : List ℕ). get_or l j 0) h.stands

  pub held-count : get_or T (a + 1) 0 ≡ length x
  held-count = ap (λ (k : ℕ). get_or T k 0) (let z : a + 1 ≡ a + 1 + 0 = omega arith in z) ∙ held_at 0

  pub held-name : name_at T a ≡ x
  held-name =
      let d : drop (a + 2) T ≡ x ++ h.more = ap (λ (k : ℕ). drop k T) (let z : a + 2 ≡ a + 1 + 1 = omega arith in z) ∙ sym (drop-drop 1 (a + 1) T) ∙ ap (drop 1) h.stands in
      ap (λ (n : ℕ). take n (drop (a + 2) T)) held-count ∙ ap (take (length x)) d ∙ take-append_seam x h.more

-- a token that stands in the first numbers of the table stands in it
pub held_whole : (T : List ℕ) (m : ℕ) {a : ℕ} {x : Text} → Holding (take m T) a x → Holding T a x
held_whole T m {a} {x} h = record {
  more = h.more ++ drop m T;
  stands = drop-whole T m (a + 1) (counted x ++ h.more) h.stands (omega arith) ∙ append_assoc (counted x) h.more (drop m T);
}

-- the text that a count tells of
module _ (t : List ℕ) (p : ℕ) (h : Named t p) where
  pub name-length : length (name_at t p) ≡ get_or t (p + 1) 0
  name-length = simp (length-take, length-drop) (omega arith)

  name-at : (i : ℕ) → i < get_or t (p + 1) 0 → get_or (name_at t p) i 0 ≡ get_or t (p + 2 + i) 0
  name-at i l = get_or-take (get_or t (p + 1) 0) (drop (p + 2) t) i 0 l ∙ get_or-drop (p + 2) t i 0

-- where the comparison of two names of one length is
pub record SameAt (t : List ℕ) (a b count i : ℕ) : Type 0 where
  pub low : i ≤ count
  pub left : count ≡ get_or t (a + 1) 0
  pub right : count ≡ get_or t (b + 1) 0
  pub on : same (name_at t a) (name_at t b) ≡ same (drop i (name_at t a)) (drop i (name_at t b))

module _ (t : List ℕ) (a b : ℕ) (h : Names t a b) where
  pub differ : (x y : ℕ) → x ≡ get_or t (a + 1) 0 → y ≡ get_or t (b + 1) 0 → (y ≡ x → ⊥) → false ≡ same (name_at t a) (name_at t b)
  differ x y e f g =
      let l = name-length t a h.left in
      let r = name-length t b h.right in
      sym (same-lengths (name_at t a) (name_at t b) (λ z. g (omega arith)))

  pub start : (x y : ℕ) → x ≡ get_or t (a + 1) 0 → y ≡ get_or t (b + 1) 0 → y ≡ x → SameAt t a b x 0
  start x y e f g = record { low = omega arith; left = e; right = sym g ∙ f; on = refl }

  -- names of one length that differ at their last characters
  pub last-differs : (x y : ℕ) → x ≡ get_or t (a + 1) 0 → y ≡ get_or t (b + 1) 0 → y ≡ x → (get_or t (a + 1 + x) 0 ≡ get_or t (b + 1 + x) 0 → ⊥)
      → false ≡ same (name_at t a) (name_at t b)
  last-differs x y e f g d = by (same (name_at t a) (name_at t b)) refl
    where
      at_last : name_at t a ≡ name_at t b → (n : ℕ) → x ≡ n → get_or t (a + 1 + n) 0 ≡ get_or t (b + 1 + n) 0
      at_last q zero z = ap (λ (i : ℕ). get_or t i 0) (let w : a + 1 + 0 ≡ a + 1 = omega arith in
          w) ∙ sym e ∙ sym g ∙ f ∙ ap (λ (i : ℕ). get_or t i 0) (let w : b + 1 ≡ b + 1 + 0 = omega arith in w)
      at_last q (suc n) z =
          ap (λ (i : ℕ). get_or t i 0) (let w : a + 1 + suc n ≡ a + 2 + n = omega arith in w)
          ∙ sym (name-at t a h.left n (omega arith))
          ∙ ap (λ (l : Text). get_or l n 0) q
          ∙ name-at t b h.right n (omega arith)
          ∙ ap (λ (i : ℕ). get_or t i 0) (let w : b + 2 + n ≡ b + 1 + suc n = omega arith in w)

      by : (r : Bool) → same (name_at t a) (name_at t b) ≡ r → false ≡ r
      by true q = absurd (d (at_last (same-is (name_at t a) (name_at t b) (subst Holds (sym q) tt)) x refl))
      by false q = refl

  module _ (count i : ℕ) (w : SameAt t a b count i) where
    pub done : count ≤ i → true ≡ same (name_at t a) (name_at t b)
    done l =
        let x = name-length t a h.left in
        let y = name-length t b h.right in
        let u = w.left in
        let v = w.right in
        sym (w.on ∙ rw (drop_of_length-le (name_at t a) {i = i} (omega arith), drop_of_length-le (name_at t b) {i = i} (omega arith)))

    module _ (l : i < count) where
      on-next : same (name_at t a) (name_at t b) ≡ eqb (get_or t (a + 2 + i) 0) (get_or t (b + 2 + i) 0) && same (drop (i + 1) (name_at t a)) (drop (i + 1) (name_at t b))
      on-next =
          let x = name-length t a h.left in
          let y = name-length t b h.right in
          let u = w.left in
          let v = w.right in
          w.on ∙ rw (add-one i, drop-cons (name_at t a) i 0 (omega arith), drop-cons (name_at t b) i 0 (omega arith), name-at t a h.left i (omega arith), name-at t b h.right i (omega arith))

      pub parts : (get_or t (a + 2 + i) 0 ≡ get_or t (b + 2 + i) 0 → ⊥) → false ≡ same (name_at t a) (name_at t b)
      parts e = sym (on-next ∙ rw (ne_eqb (get_or t (a + 2 + i) 0) (get_or t (b + 2 + i) 0) e))

      pub next : get_or t (a + 2 + i) 0 ≡ get_or t (b + 2 + i) 0 → SameAt t a b count (i + 1)
      next e = record {
        low = omega arith;
        left = w.left;
        right = w.right;
        on = on-next ∙ rw (eq-eqb (get_or t (a + 2 + i) 0) (get_or t (b + 2 + i) 0) e);
      }
