use native.Mathlib.Omega.{arith}
use lib.ListN.{length-set}
use Rattle.sets.proofs.range_head.Goals as goal

pub range_end-requires : goal.range_end-requires
range_end-requires c = simp length-set (omega arith)
