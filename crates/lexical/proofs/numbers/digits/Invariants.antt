use Rattle.lexical.proofs.Copies.{Counting}
use Rattle.lexical.proofs.numbers.digits.Given as goal

abbrev pub invariant-loop-i : goal.invariant-loop-i
invariant-loop-i l = Counting l.text l.fn.p.0 l.i l.v
