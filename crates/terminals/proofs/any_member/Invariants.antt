use Prim.Native.Nat.{◌-◌}
use lib.ListN.{length}
use Rattle.terminals.proofs.MemberPlaces.{Going}
use Rattle.plain.specs.Plain.{is_member}
use Rattle.terminals.proofs.any_member.Given as goal

abbrev pub invariant-loop-at : goal.invariant-loop-at
invariant-loop-at l = Going l.table l.from (is_member l.c) l.at

abbrev pub decreases-loop-at : goal.decreases-loop-at
decreases-loop-at l = length l.table - l.at
