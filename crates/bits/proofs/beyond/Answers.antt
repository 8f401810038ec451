use Rattle.bits.proofs.Laws.{beyond-of}
use Rattle.bits.proofs.beyond.Goals as goal

pub returns : goal.returns
returns c = beyond-of _ _
