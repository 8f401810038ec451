use Rattle.empties.proofs.Moves.{moved_on}
use Rattle.empties.proofs.lower_on.Goals as goal

pub returns : goal.returns
returns c =
    moved_on c.if-not-lower.false c.lower.ensures c.follow.ensures
