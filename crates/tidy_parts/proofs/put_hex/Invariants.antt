use mathlib.Core.Path.{◌≡◌}
use Prim.Native.Nat.{◌/◌}
use lib.ListN.{length}
use Rattle.encode.specs.Out.{Wrote}
use Rattle.tidy_parts.proofs.Parts.{leading, Power}
use Rattle.tidy_parts.proofs.put_hex.Given as goal

abbrev pub invariant-loop-unit : goal.invariant-loop-unit
invariant-loop-unit l =
    (length l.out ≡ length l.initial.out) × Power l.unit × Wrote l.limit.0 l.initial.q.0 l.initial.out l.q.0 l.out (leading (l.n / l.unit))

abbrev pub decreases-loop-unit : goal.decreases-loop-unit
decreases-loop-unit l = l.unit
