use Prim.Native.Nat.{◌*◌, ◌≤◌, ◌-◌}
use Rattle.tree.specs.Tree.{Grammar}
use Rattle.tokens.specs.Lengths.{Holds}
use Rattle.measure.proofs.Sizes.{Summing}
use Rattle.measure.proofs.grammar_size.Given as goal

abbrev pub invariant-loop-at : goal.invariant-loop-at
invariant-loop-at l = ((g : Grammar) → Holds l.table l.end g → Summing l.table l.end l.at l.sum g) × (l.sum ≤ 10 * l.at) × (l.at ≤ l.end)

abbrev pub decreases-loop-at : goal.decreases-loop-at
decreases-loop-at l = l.end - l.at
