use native.Mathlib.Omega.{arith}
use Rattle.convert.proofs.convert.Goals as goal

pub convert_with-requires : goal.convert_with-requires
convert_with-requires c =
    (c.requires, omega (arith, c.if-parse-le-FEW_NUMBERS.true))

pub convert_with-requires-2 : goal.convert_with-requires-2
convert_with-requires-2 c =
    (c.requires, omega (arith, c.requires.few))
