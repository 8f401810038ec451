-- Tests, and the search for the first number that passes one.
use mathlib.Core.Path.{◌≡◌, sym, subst}
use mathlib.Core.Bool.{Bool, ◌&&◌}
use mathlib.Core.Logic.{inl, inr}
use Prim.Native.Nat.{ℕ, zero, suc, ◌+◌, ◌<◌, ◌≤◌}
use native.Mathlib.Decide.{ℕ_discrete}
use native.Mathlib.Omega.{arith}
use lib.Dec.{T, ltb→lt, lt→ltb}
use Rattle.text.proofs.Tests.{and_left, and_right}
pub use Rattle.text.proofs.Tests.{both-and, or_case, or_left, or_right, look, is_t, not_t}
use Rattle.derive.specs.Level.{first, somewhere}

pub and_both : (a b : Bool) → T (a && b) → T a × T b
and_both a b h = (and_left a b h, and_right a b h)

-- what `first p i c` is
pub record Search (p : ℕ → Bool) (i c : ℕ) : Type 0 where
  pub low : i ≤ first p i c
  pub most : first p i c ≤ i + c
  pub holds : first p i c < i + c → T (p (first p i c))
  pub least : (m : ℕ) → i ≤ m → T (p m) → first p i c ≤ m

pub search_is : (p : ℕ → Bool) (i c : ℕ) → Search p i c
search_is p i zero = record { low = omega arith; most = omega arith; holds = λ h. absurd (omega arith); least = λ m l h. l }
search_is p i (suc c) = elim (look (p i)) as (λ _. Search p i (suc c)) [
  | inl e ↦ (let q : first p i (suc c) ≡ i = rw (e, first) in
      record { low = omega arith; most = omega arith; holds = λ _. rw q (is_t e); least = λ m l h. omega arith })
  | inr e ↦ (let q : first p i (suc c) ≡ first p (suc i) c = rw (e, first) in
      let w = search_is p (suc i) c in
      record {
        low = omega (arith, w.low);
        most = omega (arith, w.most);
        holds = λ h. rw q (w.holds (omega arith));
        least = λ m l h. elim (ℕ_discrete i m) as (λ _. first p i (suc c) ≤ m) [
          | yes f ↦ absurd (not_t e (subst (λ (z : ℕ). T (p z)) (sym f) h))
          | no f ↦ omega (arith, w.least m (omega arith) h)
        ];
      })
]

-- a search that has found
pub record Found (p : ℕ → Bool) (i c : ℕ) : Type 0 where
  pub low : i ≤ first p i c
  pub high : first p i c < i + c
  pub holds : T (p (first p i c))
  pub least : (m : ℕ) → i ≤ m → T (p m) → first p i c ≤ m

pub found : (p : ℕ → Bool) (i c : ℕ) → T (somewhere p i c) → Found p i c
found p i c h =
    let w = search_is p i c in
    let l = ltb→lt (first p i c) (i + c) h in
    record { low = w.low; high = l; holds = w.holds l; least = w.least }

pub finds : (p : ℕ → Bool) (i c m : ℕ) → i ≤ m → m < i + c → T (p m) → T (somewhere p i c)
finds p i c m l h k = lt→ltb (first p i c) (i + c) (omega (arith, (search_is p i c).least m l k))
