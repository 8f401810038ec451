use Rattle.empties.proofs.Moves.{swept-start, swept-end}
use Rattle.empties.proofs.empty_heights.Goals as goal

pub loop-init : goal.loop-init
loop-init c = swept-start c.requires.0 c.clear_empties.ensures

pub returns : goal.returns
returns c =
    swept-end c.clear_empties.ensures c.loop.invariant c.sweep.ensures c.loop-test.false
