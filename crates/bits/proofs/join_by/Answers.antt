use Rattle.bits.proofs.Laws.{masking-of}
use Rattle.bits.proofs.join_by.Goals as goal

pub returns : goal.returns
returns c = masking-of _ _ _ c.ranges.d.fits
