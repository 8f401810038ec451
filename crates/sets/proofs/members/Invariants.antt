use Prim.Native.Nat.{◌-◌}
use lib.ListN.{length}
use Rattle.sets.proofs.Listing.{Listing}
use Rattle.sets.proofs.members.Given as goal

abbrev pub invariant-loop-q : goal.invariant-loop-q
invariant-loop-q l = Listing l.text l.initial.from.0 l.initial.out l.initial.to.0 l.out l.from.0 l.to.0

abbrev pub decreases-loop-q : goal.decreases-loop-q
decreases-loop-q l = length l.text - l.from.0
