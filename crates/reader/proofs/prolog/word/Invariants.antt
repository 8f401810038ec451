use Rattle.reader.proofs.PrologParts.{Spelled}
use Rattle.reader.proofs.prolog.word.Given as goal

abbrev pub invariant-loop-b : goal.invariant-loop-b
invariant-loop-b l = Spelled l.w l.text l.initial.at.0 l.at.0 l.b-index
