use mathlib.Core.Bool.{true}
use mathlib.Core.Path.{ap, ◌∙◌}
use Rattle.text.specs.Lists.{Text}
use Rattle.decimal.specs.Compute.{unsigned, number_of}
use Rattle.decimal.proofs.Steps.{from_place, empty, with-minus, no_minus}
use Rattle.decimal.proofs.read_number.Goals as goal

pub returns-then-text-lt1 : goal.returns-then-text-lt1
returns-then-text-lt1 c = empty c.args.text.now c.if-text-lt1.true

pub returns-then-text-eq45 : goal.returns-then-text-eq45
returns-then-text-eq45 c =
    let t = c.args.text.now in
    c.read_unsigned.ensures
    ∙ ap (λ (u : Text). number_of (unsigned true u)) (from_place 1 t)
    ∙ ap number_of (with-minus t c.if-text-lt1.false c.if-text-eq45.true)

pub returns : goal.returns
returns c =
    let t = c.args.text.now in
    c.read_unsigned-2.ensures ∙ ap number_of (no_minus t c.if-text-lt1.false c.if-text-eq45.false)
