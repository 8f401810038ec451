use Rattle.standing.proofs.Closing.{rounds-start, rounds-next, rounds-end}
use Rattle.standing.proofs.close.Goals as goal

pub loop-t-init : goal.loop-t-init
loop-t-init c =
    rounds-start c.requires.1

pub round-requires : goal.round-requires
round-requires c =
    c.requires.0

pub loop-t-smaller : goal.loop-t-smaller
loop-t-smaller c =
    (c.round.ensures.grown.grows c.loop-t.invariant.long).less c.loop-t-test.true

pub loop-t-preserved : goal.loop-t-preserved
loop-t-preserved c =
    rounds-next c.loop-t.invariant c.round.ensures

pub returns : goal.returns
returns c =
    rounds-end c.loop-t-test.false c.loop-t.invariant c.round.ensures
