use Prim.Native.Nat.{◌≤◌}
use Rattle.reach.specs.Lists.{list_number}
use Rattle.reach.proofs.Keys.{Opening}
use Rattle.reach.proofs.lists.open_dots.Given as goal

abbrev pub invariant-loop-p : goal.invariant-loop-p
invariant-loop-p l = Opening l.code (list_number l.which) l.initial.work l.work l.p × (l.p ≤ l.size)
