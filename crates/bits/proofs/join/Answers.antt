use Rattle.bits.proofs.Laws.{union-of}
use Rattle.bits.proofs.join.Goals as goal

pub returns : goal.returns
returns c = union-of _ _ c.ranges.a.fits c.ranges.b.fits
