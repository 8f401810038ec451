use native.Mathlib.Omega.{arith}
use mathlib.Core.Path.{◌∙◌}
use Rattle.terminals.proofs.MemberPlaces.{go-end, members-some, go-head, go-found, go-next, head-here, head-inside, head-steps}
use Rattle.terminals.proofs.LiveTerminals.{head_live}
use Rattle.terminals.proofs.live.some_member_is_live.Goals as goal

pub offset_bounds-table-at : goal.offset_bounds-table-at
offset_bounds-table-at c = omega (arith, members-some c.loop-at.invariant.here.members c.loop-at.invariant.here.are, c.loop-at.invariant.here.small)

pub bounds-table-at : goal.bounds-table-at
bounds-table-at c = omega (arith, members-some c.loop-at.invariant.here.members c.loop-at.invariant.here.are, c.loop-at.invariant.here.small)

pub member_is_live-requires : goal.member_is_live-requires
member_is_live-requires c = head-here (go-head c.loop-at.invariant c.loop-at-test.true) c.loop-at.invariant.here.small

pub returns-then-member_is_live : goal.returns-then-member_is_live
returns-then-member_is_live c =
    go-found c.loop-at.invariant c.loop-at-test.true c.member_is_live.result (λ ms h. c.member_is_live.ensures ∙ head_live h) c.if-member_is_live.true

pub token_end-at-requires : goal.token_end-at-requires
token_end-at-requires c = head-inside (go-head c.loop-at.invariant c.loop-at-test.true)

pub loop-at-smaller : goal.loop-at-smaller
loop-at-smaller c =
    omega (arith, c.token_end-at.ensures, head-steps (go-head c.loop-at.invariant c.loop-at-test.true), head-inside (go-head c.loop-at.invariant c.loop-at-test.true))

pub loop-at-preserved : goal.loop-at-preserved
loop-at-preserved c =
    rw c.token_end-at.ensures
    (go-next c.loop-at.invariant c.loop-at-test.true c.member_is_live.result (λ ms h. c.member_is_live.ensures ∙ head_live h) c.if-member_is_live.false)

pub returns : goal.returns
returns c = go-end c.loop-at.invariant c.loop-at-test.false
