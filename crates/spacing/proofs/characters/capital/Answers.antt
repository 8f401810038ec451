use Rattle.syntax.specs.Syntax.{capital}
use Rattle.spacing.proofs.characters.capital.Goals as goal

pub returns : goal.returns
unfolding capital
returns c = c.between.ensures
