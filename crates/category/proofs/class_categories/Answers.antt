use native.Mathlib.Omega.{arith}
use Rattle.category.proofs.Agree.{spans}
use Rattle.category.proofs.Known.{starts-low, span_of}
use borrow.Author.Rules.{rules}
use Rattle.category.proofs.class_categories.Goals as goal

pub overflow_cast-first : goal.overflow_cast-first
unfolding spans
overflow_cast-first c = omega (arith, starts-low c.args.class (search rules))

pub returns : goal.returns
unfolding spans
returns c = span_of c.args.class (search rules)
