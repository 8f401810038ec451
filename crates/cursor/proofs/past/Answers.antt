use Rattle.cursor.proofs.Nodes.{node-small}
use Rattle.cursor.proofs.Turns.{passed-by}
use Rattle.cursor.proofs.past.Goals as goal

pub jump-after-requires : goal.jump-after-requires
jump-after-requires c = node-small c.requires.1.node

pub returns : goal.returns
returns c = passed-by c.requires.1 c.jump-after.ensures
