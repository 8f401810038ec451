use native.Mathlib.Omega.{arith}
use Rattle.terminals.proofs.MemberPlaces.{members-some, head-here, head-inside, head-steps}
use Rattle.terminals.proofs.Marking.{marking-head, marking-next, marking-end}
use Rattle.terminals.proofs.marks.mark_members.Goals as goal

pub offset_bounds-table-at : goal.offset_bounds-table-at
offset_bounds-table-at c = omega (arith, members-some c.loop-at.invariant.here.members c.loop-at.invariant.here.are, c.loop-at.invariant.here.small)

pub bounds-table-at : goal.bounds-table-at
bounds-table-at c = omega (arith, members-some c.loop-at.invariant.here.members c.loop-at.invariant.here.are, c.loop-at.invariant.here.small)

pub mark_member-requires : goal.mark_member-requires
mark_member-requires c =
    record { here = head-here (marking-head c.loop-at.invariant c.loop-at-test.true) c.loop-at.invariant.here.small; marks = c.loop-at.invariant.marks }

pub token_end-at-requires : goal.token_end-at-requires
token_end-at-requires c =
    head-inside (marking-head c.loop-at.invariant c.loop-at-test.true)

pub loop-at-smaller : goal.loop-at-smaller
loop-at-smaller c =
    omega
    (arith, c.token_end-at.ensures, head-steps (marking-head c.loop-at.invariant c.loop-at-test.true), head-inside (marking-head c.loop-at.invariant c.loop-at-test.true))

pub loop-at-preserved : goal.loop-at-preserved
loop-at-preserved c =
    rw c.token_end-at.ensures (marking-next c.loop-at.invariant c.loop-at-test.true c.mark_member.ensures)

pub returns : goal.returns
returns c = marking-end c.loop-at.invariant c.loop-at-test.false
