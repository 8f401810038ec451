use native.Mathlib.Omega.{arith}
use lib.ListN.{length-set}
use Rattle.reading.proofs.push.Goals as goal

pub bounds-stack-b-2 : goal.bounds-stack-b-2
bounds-stack-b-2 c = simp length-set (omega arith)
