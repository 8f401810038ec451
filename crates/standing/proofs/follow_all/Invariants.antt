use Prim.Native.Nat.{ℕ, ◌≤◌}
use Rattle.reach.specs.Work.{Listed}
use Rattle.ends.specs.Spans.{OnList}
use Rattle.standing.specs.Sets.{Ran}
use Rattle.standing.proofs.follow_all.Given as goal

abbrev pub invariant-loop-x : goal.invariant-loop-x
invariant-loop-x l = (l.x ≤ l.t.size) × ((u : ℕ) → Listed l.firsts l.x u → OnList l.firsts l.t.rule u) × Ran l.code l.firsts l.marks l.t.size
    l.t.n l.main l.initial.sets l.sets

abbrev pub decreases-loop-x : goal.decreases-loop-x
decreases-loop-x l = l.x
