use native.Mathlib.Omega.{arith}
use Rattle.parser.proofs.Located.{blank}
use Rattle.parser.proofs.choose_flagged.Goals as goal

pub choose_coded-requires : goal.choose_coded-requires
choose_coded-requires g c =
    (c.requires.0, blank (omega (arith, c.requires.2)), c.requires.1)

pub whole_as_slice-choose_coded : goal.whole_as_slice-choose_coded
whole_as_slice-choose_coded g c = omega (arith, c.requires.3)
