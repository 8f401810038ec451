use Prim.Native.Nat.{◌-◌}
use lib.ListN.{length}
use Rattle.plain.specs.Live.{live_member}
use Rattle.terminals.proofs.MemberPlaces.{Going}
use Rattle.terminals.proofs.live.some_member_is_live.Given as goal

abbrev pub invariant-loop-at : goal.invariant-loop-at
invariant-loop-at l = Going l.table l.from live_member l.at

abbrev pub decreases-loop-at : goal.decreases-loop-at
decreases-loop-at l = length l.table - l.at
