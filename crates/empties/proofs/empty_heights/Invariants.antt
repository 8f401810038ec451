use Rattle.heights.specs.Filling.{total}
use Rattle.empties.proofs.Moves.{Swept}
use Rattle.empties.proofs.empty_heights.Given as goal

abbrev pub invariant-loop : goal.invariant-loop
invariant-loop l = Swept l.code l.size l.initial.notes l.notes

abbrev pub decreases-loop : goal.decreases-loop
decreases-loop l = total l.notes
