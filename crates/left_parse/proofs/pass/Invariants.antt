use mathlib.Core.List.{List}
use Prim.Native.Nat.{◌-◌}
use lib.ListN.{length}
use Rattle.tree.specs.Tree.{Symbol, Grammar}
use Rattle.items.specs.Items.{Starts, Spells}
use Rattle.left_parse.proofs.Items.{Ahead}
use Rattle.left_parse.proofs.pass.Given as goal

abbrev pub invariant-loop-p : goal.invariant-loop-p
invariant-loop-p l = (g : Grammar) (starts : Starts) (ss : List Symbol) → Spells l.table g starts l.item ss → Ahead l.table g starts l.item ss l.p

abbrev pub decreases-loop-p : goal.decreases-loop-p
decreases-loop-p l = length l.table - l.p
