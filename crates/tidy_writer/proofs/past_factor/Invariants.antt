use mathlib.Core.List.{List}
use Prim.Native.Nat.{◌-◌, ◌≤◌}
use Rattle.tree.specs.Tokens.{Token}
use Rattle.tokens.specs.Lengths.{Left}
use Rattle.tidy.specs.Scan.{past}
use Rattle.tidy_writer.proofs.Walk.{Ahead}
use Rattle.tidy_writer.proofs.past_factor.Given as goal

abbrev pub invariant-loop-at : goal.invariant-loop-at
invariant-loop-at l =
    (l.at ≤ l.end) × (l.nested ≤ l.at) × ((ts : List Token) → Left l.t l.end l.k ts → Ahead l.t l.end l.at l.nested (past 0 ts))

abbrev pub decreases-loop-at : goal.decreases-loop-at
decreases-loop-at l = l.end - l.at
