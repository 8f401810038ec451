-- Blocks one after the other: in which of them a place is, and what stands there.
use mathlib.Core.List.{List, [], ◌∷◌, ◌++◌}
use mathlib.Core.Logic.{⊎_elim}
use mathlib.Core.Path.{◌≡◌, ap, ◌∙◌}
use Prim.Native.Nat.{ℕ, zero, suc, ◌+◌, ◌-◌, ◌<◌}
use native.Mathlib.Nat.{not-suc-le-zero}
use native.Mathlib.Omega.{arith}
use lib.ListN.{length, get_or, take, get_or-append}
use lib.Seq.{get_or-append-add}
use Rattle.text.specs.Lists.{concat_map}
use Rattle.text.proofs.Tests.{split}
use Rattle.tree.specs.Tree.{Symbol, Grammar}
use Rattle.plain.specs.Plain.{alts, sum_of, weight}
use Rattle.layout.specs.Layout.{layout, dot_count, name_at}

module _ {A : Type 0} (W : A → ℕ) (d : A) where
  -- place p is the place k of block q
  pub record Spot (xs : List A) (p : ℕ) : Type 0 where
    pub q : ℕ
    pub k : ℕ
    pub listed : q < length xs
    pub inner : k < W (get_or xs q d)
    pub is : p ≡ sum_of W (take q xs) + k

  pub spot : (xs : List A) (p : ℕ) → p < sum_of W xs → Spot xs p
  spot [] p h = absurd (not-suc-le-zero h)
  spot (x ∷ xs) p h = ⊎_elim
      (λ l. record { q = 0; k = p; listed = omega arith; inner = l; is = omega arith })
      (λ l. (let w = spot xs (p - W x) (omega arith) in record { q = suc w.q; k = w.k; listed = omega (arith, w.listed); inner = w.inner; is = omega (arith, w.is) }))
      (split p (W x))

  pub sum-take : (xs : List A) (q : ℕ) → q < length xs → sum_of W (take (suc q) xs) ≡ sum_of W (take q xs) + W (get_or xs q d)
  sum-take [] q h = absurd (not-suc-le-zero h)
  sum-take (x ∷ xs) zero h = omega arith
  sum-take (x ∷ xs) (suc q) h = omega (arith, sum-take xs q (omega arith))

  module _ {B : Type 0} (f : A → List B) (e : B) (count : (x : A) → length (f x) ≡ W x) where
    pub concat-at : (xs : List A) (q k : ℕ) → q < length xs → k < W (get_or xs q d) → get_or (concat_map f xs) (sum_of W (take q xs) + k) e ≡ get_or (f (get_or xs q d)) k e
    concat-at [] q k h l = absurd (not-suc-le-zero h)
    concat-at (x ∷ xs) zero k h l =
        ap (λ (n : ℕ). get_or (f x ++ concat_map f xs) n e) (let z : 0 + k ≡ k = omega arith in z)
        ∙ get_or-append (f x) (concat_map f xs) e k (omega (arith, count x))
    concat-at (x ∷ xs) (suc q) k h l =
        ap (λ (n : ℕ). get_or (f x ++ concat_map f xs) n e)
        (let z : W x + sum_of W (take q xs) + k ≡ length (f x) + (sum_of W (take q xs) + k) = omega (arith, count x) in z)
        ∙ get_or-append-add (f x) (concat_map f xs) (sum_of W (take q xs) + k) e
        ∙ concat-at xs q k (omega arith) l

-- a rule's name ends it
module _ (g : Grammar) (d : Symbol) (q : ℕ) (h : q < length (layout g)) where
  pub name-ends : 0 < weight (alts g (get_or (layout g) q d)) → name_at g q + 1 ≡ dot_count g (take q (layout g)) + weight (alts g (get_or (layout g) q d))
  unfolding name_at
  name-ends l = omega (arith, sum-take (λ s. weight (alts g s)) d (layout g) q h)
