use mathlib.Core.Path.{◌≡◌}
use Prim.Native.Nat.{◌+◌, ◌≤◌}
use lib.ListN.{length}
use Rattle.ends.proofs.Rounds.{Exact}
use Rattle.ends.proofs.fill.Given as goal

abbrev pub invariant-loop-m : goal.invariant-loop-m
invariant-loop-m l = (l.m ≤ l.n + 1) × (length l.main ≡ length l.initial.main) × Exact l.code l.firsts l.marks l.size l.n l.m l.main
