use Rattle.standing.proofs.Laws.{ran-start, ran-join}
use Rattle.standing.proofs.run.Goals as goal

pub loop-init : goal.loop-init
loop-init c = ran-start

pub returns-then-size-rule : goal.returns-then-size-rule
returns-then-size-rule c = c.loop.invariant

pub follow_all-requires : goal.follow_all-requires
follow_all-requires c = (c.requires, c.if-size-rule.false)

pub loop-preserved : goal.loop-preserved
loop-preserved c = ran-join c.loop.invariant c.follow_all.ensures

pub returns : goal.returns
returns c = c.loop.invariant
