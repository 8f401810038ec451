use native.Mathlib.Omega.{arith}
use mathlib.Core.Bool.{true≢false}
use mathlib.Core.Path.{sym, ◌∙◌}
use Rattle.confirm.proofs.Reaches.{one_none, one-greater}
use Rattle.confirm.proofs.far_one.Goals as goal

pub returns-then-not-on : goal.returns-then-not-on
returns-then-not-on c = one_none (λ o l. true≢false (sym o ∙ c.if-not-on.true))

pub returns-then-text-x : goal.returns-then-text-x
returns-then-text-x c = one_none (λ o l. omega (arith, l, c.if-text-x.true))

pub begun-requires : goal.begun-requires
begun-requires c =
    (record { tokened = c.requires.0.tokened; short = c.requires.0.short; on = c.if-text-x.false }, c.requires.1)

pub overflow_add-x : goal.overflow_add-x
overflow_add-x c = omega (arith, c.begun.ensures.1, c.requires.0.short)

pub returns : goal.returns
returns c =
    one-greater (record { tokened = c.requires.0.tokened; short = c.requires.0.short; on = c.if-text-x.false }) c.requires.1 c.begun.ensures.0
    c.begun.ensures.1 c.if-not-on.false c.max.ensures
