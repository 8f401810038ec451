use Prim.Native.Nat.{ℕ, ◌≤◌}
use Rattle.reach.specs.Work.{Listed}
use Rattle.ends.specs.Spans.{OnList}
use Rattle.standing.proofs.Closing.{Rulings}
use Rattle.standing.proofs.redo_rule.Given as goal

abbrev pub invariant-loop-x : goal.invariant-loop-x
invariant-loop-x l = (l.x ≤ l.size) × ((u : ℕ) → Listed l.firsts l.x u → OnList l.firsts l.rule u) × Rulings l.firsts l.size l.rule l.x l.initial.sets l.sets l.cur l.grew

abbrev pub decreases-loop-x : goal.decreases-loop-x
decreases-loop-x l = l.x
