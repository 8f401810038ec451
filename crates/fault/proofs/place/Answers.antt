use native.Mathlib.Omega.{arith}
use Prim.Native.Nat.{ℕ}
use lib.ListN.{length-replicate}
use Rattle.chart.proofs.Users.{all-zero}
use Rattle.fault.proofs.Places.{all-free, ranging-of, standing-of, placed_of}
use Rattle.fault.proofs.place.Goals as goal

pub list_firsts-requires : goal.list_firsts-requires
list_firsts-requires c =
    (c.requires.tokened, omega (arith, length-replicate {A = ℕ} 1024 0, c.requires.tokened.shape.small), all-zero 1024)

pub mark-requires : goal.mark-requires
mark-requires c =
    (standing-of c.requires c.list_firsts.ensures (length-replicate {A = ℕ} 102912 2), all-free 102912, c.requires.top-inside)

pub farthest-requires : goal.farthest-requires
farthest-requires c =
    (ranging-of c.requires, omega (arith, c.mark.auto.flags, length-replicate {A = ℕ} 102912 2))

pub returns : goal.returns
returns c =
    placed_of c.requires c.list_firsts.ensures c.mark.ensures c.farthest.ensures
