-- How many bytes of a place are low: a queue has room for each of them.
use mathlib.Core.List.{List}
use mathlib.Core.Logic.{⊎_elim}
use mathlib.Core.Path.{◌≡◌, refl, subst, ap}
use Prim.Native.Nat.{ℕ, zero, suc, ◌+◌, ◌<◌, ◌≤◌}
use native.Mathlib.Decide.{ℕ_discrete}
use native.Mathlib.Numerals.{add-one}
use native.Mathlib.Omega.{arith}
use lib.Dec.{leb}
use lib.ListN.{get_or}
use borrow.Author.Tests.{leb-true, leb-false}
use Rattle.text.specs.Lists.{pick}
use Rattle.text.proofs.Tests.{look, split}
use Rattle.reach.specs.Work.{at_most}

-- a byte counts or not
abbrev pub counted : ℕ → ℕ → ℕ
counted low a = pick (leb a low) 1 0

pub counted-low : (low a : ℕ) → a ≤ low → counted low a ≡ 1
counted-low low a h = ⊎_elim (λ e. rw e refl) (λ e. absurd (omega (arith, leb-false a low e))) (look (leb a low))

pub counted-high : (low a : ℕ) → low < a → counted low a ≡ 0
counted-high low a h = ⊎_elim (λ e. absurd (omega (arith, leb-true a low e))) (λ e. rw e refl) (look (leb a low))

pub counted-one : (low a : ℕ) → counted low a ≤ 1
counted-one low a = ⊎_elim (λ h. omega (arith, counted-high low a h)) (λ h. omega (arith, counted-low low a h)) (split low a)

counted-le : (low a b : ℕ) → a ≤ b → counted low b ≤ counted low a
counted-le low a b h = ⊎_elim (λ k. omega (arith, counted-high low b (omega arith))) (λ k. omega (arith, counted-low low a k, counted-one low b)) (split low a)

pub count-le : (low : ℕ) (M M' : List ℕ) (b k : ℕ) → ((x : ℕ) → get_or M x 0 ≤ get_or M' x 0) → at_most low M' b k ≤ at_most low M b k
unfolding at_most
count-le low M M' b zero h = omega arith
count-le low M M' b (suc k) h = omega (arith, counted-le low (get_or M (b + k) 0) (get_or M' (b + k) 0) (h (b + k)), count-le low M M' b k h)

pub count_less : (low : ℕ) (M M' : List ℕ) (b k p : ℕ) → ((x : ℕ) → get_or M x 0 ≤ get_or M' x 0) → p < k → get_or M (b + p) 0 ≤ low → low < get_or M' (b + p) 0
    → at_most low M' b k + 1 ≤ at_most low M b k
unfolding at_most
count_less low M M' b zero p h l v w = absurd (omega arith)
count_less low M M' b (suc k) p h l v w = elim (ℕ_discrete p k) as (λ _. at_most low M' b (suc k) + 1 ≤ at_most low M b (suc k)) [
  | yes e ↦ (let v' : get_or M (b + k) 0 ≤ low = subst (λ (z : ℕ). get_or M (b + z) 0 ≤ low) e v in
      let w' : low < get_or M' (b + k) 0 = subst (λ (z : ℕ). low < get_or M' (b + z) 0) e w in
      omega (arith, counted-low low (get_or M (b + k) 0) v', counted-high low (get_or M' (b + k) 0) w', count-le low M M' b k h))
  | no e ↦ omega (arith, counted-le low (get_or M (b + k) 0) (get_or M' (b + k) 0) (h (b + k)), count_less low M M' b k p h (omega arith) v w)
]

pub count_most : (low : ℕ) (M : List ℕ) (b k : ℕ) → at_most low M b k ≤ k
unfolding at_most
count_most low M b zero = omega arith
count_most low M b (suc k) = omega (arith, counted-one low (get_or M (b + k) 0), count_most low M b k)

pub count-more : (low : ℕ) (M : List ℕ) (b k p : ℕ) → p ≤ k → at_most low M b k + p ≤ at_most low M b p + k
unfolding at_most
count-more low M b zero p h = elim (ℕ_discrete p 0) as (λ _. at_most low M b zero + p ≤ at_most low M b p + zero) [
  | yes e ↦ omega (arith, ap (at_most low M b) e)
  | no e ↦ absurd (omega arith)
]
count-more low M b (suc k) p h = elim (ℕ_discrete p (suc k)) as (λ _. at_most low M b (suc k) + p ≤ at_most low M b p + suc k) [
  | yes e ↦ omega (arith, ap (at_most low M b) e)
  | no e ↦ omega (arith, counted-one low (get_or M (b + k) 0), count-more low M b k p (omega arith))
]

pub count_next : (low : ℕ) (M : List ℕ) (b p : ℕ) → at_most low M b (p + 1) ≡ counted low (get_or M (b + p) 0) + at_most low M b p
unfolding at_most
count_next low M b p = rw add-one refl

pub count-zero : (low : ℕ) (M : List ℕ) (b : ℕ) → at_most low M b 0 ≡ 0
unfolding at_most
count-zero low M b = refl
