use native.Mathlib.Omega.{arith}
use Rattle.spacing.proofs.Tests.{digit_at, value_low, value-capital, value-small}
use Rattle.spacing.proofs.characters.digit_value.Goals as goal

pub overflow_sub-result : goal.overflow_sub-result
overflow_sub-result c = let d = digit_at _ c.requires in omega arith

pub returns-then-c-le-DIGIT_9 : goal.returns-then-c-le-DIGIT_9
returns-then-c-le-DIGIT_9 c = value_low _ c.requires c.if-c-le-DIGIT_9.true

pub returns-then-c-le-CAPITAL_F : goal.returns-then-c-le-CAPITAL_F
returns-then-c-le-CAPITAL_F c = value-capital _ c.requires c.if-c-le-DIGIT_9.false c.if-c-le-CAPITAL_F.true

pub overflow_sub-result-2 : goal.overflow_sub-result-2
overflow_sub-result-2 c = let d = digit_at _ c.requires in let l = d.smalls c.if-c-le-CAPITAL_F.false in omega arith

pub returns : goal.returns
returns c = value-small _ c.requires c.if-c-le-CAPITAL_F.false
