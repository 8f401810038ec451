use Rattle.cursor.proofs.Steps.{ahead_small}
use Rattle.cursor.proofs.Turns.{over-text}
use Rattle.cursor.proofs.skip.Goals as goal

pub skip-n-requires : goal.skip-n-requires
skip-n-requires c = ahead_small c.requires.stands.ahead

pub returns : goal.returns
returns c = over-text c.requires c.skip-n.ensures
