use mathlib.Core.Path.{◌≡◌, sym, ◌∙◌}
use native.Mathlib.Omega.{arith}
use Rattle.chart.specs.Code.{next_kind}
use Rattle.splits.proofs.Values.{value-end, value_none, value-terminal, value-symbol}
use Rattle.splits.proofs.alternative_height.Goals as goal

pub returns-then-s : goal.returns-then-s
returns-then-s c =
    let a = c.args in
    sym
    (value-end a.code.now a.marks.now a.notes.now a.s.n.0 a.main.now a.p a.s.i.0 a.s.j.0
    (sym c.number_at-kind.ensures.0 ∙ c.if-kind-eq-AFTER_ALTERNATIVE.true) c.if-s.true)

pub returns-then-kind-eq-AFTER_ALTERNATIVE : goal.returns-then-kind-eq-AFTER_ALTERNATIVE
returns-then-kind-eq-AFTER_ALTERNATIVE c =
    let a = c.args in
    sym
    (value_none a.code.now a.marks.now a.notes.now a.s.n.0 a.main.now a.p a.s.i.0 a.s.j.0
    (sym c.number_at-kind.ensures.0 ∙ c.if-kind-eq-AFTER_ALTERNATIVE.true) c.if-s.false)

pub returns-then-kind-eq-BEFORE_TERMINAL : goal.returns-then-kind-eq-BEFORE_TERMINAL
returns-then-kind-eq-BEFORE_TERMINAL c =
    let a = c.args in
    c.past_terminal.ensures ∙ sym
    (value-terminal a.code.now a.marks.now a.notes.now a.s.n.0 a.main.now a.p a.s.i.0 a.s.j.0
    (sym c.number_at-kind.ensures.0 ∙ c.if-kind-eq-BEFORE_TERMINAL.true))

pub returns : goal.returns
returns c =
    let a = c.args in
    let kind : next_kind a.code.now a.p ≡ 2 = omega (arith, c.number_at-kind.ensures.0, c.if-kind-eq-AFTER_ALTERNATIVE.false, c.if-kind-eq-BEFORE_TERMINAL.false, c.requires.1.kind) in
    c.least_split.ensures ∙ sym
    (value-symbol a.code.now a.marks.now a.notes.now a.s.n.0 a.main.now a.p a.s.i.0 a.s.j.0 kind)
