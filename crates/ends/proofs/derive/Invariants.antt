use Prim.Native.Nat.{ℕ, ◌≤◌}
use Rattle.reach.specs.Work.{Listed}
use Rattle.ends.specs.Spans.{OnList}
use Rattle.ends.proofs.Rounds.{Trials}
use Rattle.ends.proofs.derive.Given as goal

abbrev pub invariant-loop-x : goal.invariant-loop-x
invariant-loop-x l = (l.x ≤ l.s.size) × ((u : ℕ) → Listed l.firsts l.x u → OnList l.firsts l.s.rule u) × Trials l.code l.firsts l.marks l.s.size l.s.n
    l.s.m l.s.rule l.x l.initial.main l.main l.grew

abbrev pub decreases-loop-x : goal.decreases-loop-x
decreases-loop-x l = l.x
