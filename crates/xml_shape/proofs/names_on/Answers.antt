use Rattle.xml_shape.proofs.names_on.Goals as goal

pub returns : goal.returns
returns c = rw c.if-twice.false
