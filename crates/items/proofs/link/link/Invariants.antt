use Prim.Native.Nat.{◌≤◌}
use Rattle.items.proofs.Links.{Linking}
use Rattle.items.proofs.link.link.Given as goal

abbrev pub invariant-loop-p : goal.invariant-loop-p
invariant-loop-p l = Linking l.initial.table l.rules l.table l.p × (l.p ≤ l.items)
