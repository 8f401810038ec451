use mathlib.Core.Path.{◌≡◌}
use Prim.Native.Nat.{◌≤◌}
use Rattle.numbering.specs.Names.{name_count}
use Rattle.advance.proofs.count_rules.Given as goal

abbrev pub invariant-loop-e : goal.invariant-loop-e
invariant-loop-e l = (l.e ≤ l.size) × (l.count ≤ l.e) × (l.count ≡ name_count l.code l.e)
