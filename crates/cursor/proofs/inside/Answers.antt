use Rattle.cursor.proofs.Nodes.{node-small}
use Rattle.cursor.proofs.Turns.{inside_of}
use Rattle.cursor.proofs.inside.Goals as goal

pub inside-n-requires : goal.inside-n-requires
inside-n-requires c = node-small c.requires.1.node

pub returns : goal.returns
returns c = inside_of c.requires.1 c.inside-n.ensures
