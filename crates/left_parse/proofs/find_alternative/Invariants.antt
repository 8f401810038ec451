use mathlib.Core.List.{List, []}
use Prim.Native.Nat.{◌-◌, ◌<◌}
use lib.ListN.{length, get_or}
use Rattle.tree.specs.Tree.{Symbol, Grammar}
use Rattle.items.specs.Items.{Starts, Alternatives}
use Rattle.left_parse.proofs.Items.{Rest, Counting}
use Rattle.left_parse.proofs.find_alternative.Given as goal

abbrev pub invariant-loop : goal.invariant-loop
invariant-loop l = (g : Grammar) (starts : Starts) (ts : List (List Symbol)) → Alternatives l.table g starts l.first ts
    → (l.number < length ts → Rest l.table g starts l.x (l.number - l.counter) (get_or ts l.number []))
    × Counting l.table g starts l.number l.x (l.number - l.counter) (length ts)
