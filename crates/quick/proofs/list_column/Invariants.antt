use Prim.Native.Nat.{◌≤◌}
use Rattle.quick.specs.Quick.{AfterDots, ListedTo, ClearedTo}
use Rattle.quick.proofs.list_column.Given as goal

abbrev pub invariant-loop-x : goal.invariant-loop-x
invariant-loop-x l =
    (l.x ≤ l.s.size) × ListedTo l.code l.marks l.s.n.0 l.s.j.0 l.x l.column × ClearedTo l.code l.marks l.s.n.0 l.s.j.0 l.x l.initial.main l.main
    × AfterDots l.initial.column l.column
