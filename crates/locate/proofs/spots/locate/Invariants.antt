use Rattle.locate.specs.Spots.{meant}
use Rattle.locate.proofs.Walk as law
use Rattle.locate.proofs.spots.locate.Given as goal

abbrev pub invariant-loop-i : goal.invariant-loop-i
invariant-loop-i l = law.Walked l.text l.initial.places l.places l.n l.i (meant l.state)
