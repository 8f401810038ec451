use mathlib.Core.Path.{ap, sym, ◌∙◌}
use Prim.Native.Nat.{◌-◌}
use lib.ListN.{length, take, drop}
use Rattle.std.specs.Prelude.{Some}
use Rattle.text.specs.Lists.{Text}
use Rattle.decimal.specs.Value.{decimal, value_of}
use Rattle.decimal.specs.Compute.{is_fraction}
use Rattle.decimal.proofs.Steps.{from_place, short-fraction, no_fraction, no-point, bad-fraction, good-fraction}
use Rattle.decimal.proofs.read_fraction.Goals as goal

pub returns-then-rest-lt1 : goal.returns-then-rest-lt1
returns-then-rest-lt1 c =
    let args = c.args in
    ap Some c.value.ensures ∙ no_fraction args.minus args.whole.now args.rest.now c.if-rest-lt1.true

pub returns-then-rest-ne46 : goal.returns-then-rest-ne46
returns-then-rest-ne46 c =
    let args = c.args in
    no-point args.minus args.whole.now args.rest.now c.if-rest-lt1.false c.if-rest-ne46.true

pub returns-then-not-is_fraction : goal.returns-then-not-is_fraction
returns-then-not-is_fraction c =
    let rest = c.args.rest.now in
    let bad = ap is_fraction (sym (from_place 1 rest)) ∙ sym c.is_fraction.ensures ∙ c.if-not-is_fraction.true in
    bad-fraction _ _ rest c.if-rest-lt1.false c.if-rest-ne46.false bad

pub value-requires-2 : goal.value-requires-2
value-requires-2 c =
    let rest = c.args.rest.now in
    short-fraction (take (length rest - 1) (drop 1 rest)) (sym c.is_fraction.ensures ∙ c.if-not-is_fraction.false)

pub returns : goal.returns
returns c =
    let args = c.args in
    let rest = args.rest.now in
    let tail = from_place 1 rest in
    let good = ap is_fraction (sym tail) ∙ sym c.is_fraction.ensures ∙ c.if-not-is_fraction.false in
    ap Some (c.value-2.ensures ∙ ap (λ (f : Text). value_of (decimal args.minus args.whole.now f)) tail)
    ∙ good-fraction _ _ rest c.if-rest-lt1.false c.if-rest-ne46.false good
