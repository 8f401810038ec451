use mathlib.Core.Path.{◌≡◌}
use lib.ListN.{take}
use Rattle.encode.specs.Out.{state, puts}
use Rattle.encode.proofs.put_all.Given as goal

abbrev pub invariant-loop-b : goal.invariant-loop-b
invariant-loop-b l = state l.at.0 l.out ≡ puts l.limit.0 (state l.initial.at.0 l.initial.out) (take l.b-index l.s)
