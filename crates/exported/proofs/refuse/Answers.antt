use Rattle.exported.proofs.refuse.Goals as goal

pub returns : goal.returns
returns c = rw c.version_of.ensures
