use native.Mathlib.Omega.{arith}
use Rattle.room.proofs.Needs.{pairs, whole}
use Rattle.room.proofs.need.Goals as goal

pub overflow_mul-result : goal.overflow_mul-result
overflow_mul-result c = omega (arith, pairs _ c.requires.1)

pub overflow_mul-result-2 : goal.overflow_mul-result-2
overflow_mul-result-2 c = omega (arith, whole _ _ c.requires.0 (pairs _ c.requires.1))
