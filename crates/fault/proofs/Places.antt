-- From what the stages of the search promise to the place.
use mathlib.Core.List.{List}
use mathlib.Core.Path.{◌≡◌, refl, subst}
use Prim.Native.Nat.{ℕ, zero, suc, ◌+◌, ◌<◌}
use native.Mathlib.Omega.{arith}
use lib.ListN.{length, get_or, replicate, length-replicate}
use Rattle.text.specs.Lists.{Text}
use Rattle.stands.specs.State.{Bare, Standing, Exact}
use Rattle.fault.specs.Firsts.{Firsts}
use Rattle.fault.specs.Far.{Ranging, Reach, Placing, Placed}

all_two : (k x : ℕ) → x < k → get_or {A = ℕ} (replicate k 2) x 0 ≡ 2
all_two zero x h = absurd (omega arith)
all_two (suc k) zero h = refl
all_two (suc k) (suc x) h = all_two k x (omega arith)

-- flags that are all free
pub all-free : (k : ℕ) → Bare (replicate k 2)
all-free k x h = all_two k x (omega (arith, length-replicate {A = ℕ} k 2))

module _ {Tb : List ℕ} {R : Text} {c M F : List ℕ} {main size n top : ℕ} (g : Placing Tb R c M F main size n top) where
  pub ranging-of : Ranging Tb c R size 0
  ranging-of = record { tokened = g.tokened; short = omega (arith, g.long, g.tables.short); on = omega arith }

  pub standing-of : {L W : List ℕ} → Firsts Tb c size L → length W ≡ 102912 → Standing c L M F main W size n 0
  standing-of f l = record { ground = record { tables = g.tables; linked = f.linked; within = g.within }; on = omega arith; long = l }

  pub placed_of : {L W H : List ℕ} {r : ℕ} → Firsts Tb c size L → Exact c L M F H W size n top → Reach Tb c R W size (length R + 1) r → Placed Tb R c M F H size top r
  placed_of {L} {W} {H} f e r = record { firsts = L; listed = f; flags = W; exact = subst (λ (k : ℕ). Exact c L M F H W size k top) g.long e; reach = r }
