use Rattle.empties.proofs.Moves.{eased-next}
use Rattle.empties.proofs.follow.Goals as goal

pub loop-x-preserved : goal.loop-x-preserved
loop-x-preserved c =
    (c.next_use-x-in-loop-x.ensures, eased-next _ c.loop-x.invariant.1 c.lower.ensures)
