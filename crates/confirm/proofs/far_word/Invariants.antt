use Rattle.confirm.specs.Find.{Words}
use Rattle.confirm.proofs.far_word.Given as goal

abbrev pub invariant-loop-b : goal.invariant-loop-b
invariant-loop-b l = Words l.table l.code l.text l.p l.v l.word l.b l.best l.far
