use mathlib.Core.Bool.{Bool}
use mathlib.Core.Path.{refl, sym, ap, ◌∙◌}
use native.Mathlib.Omega.{arith}
use Rattle.text.specs.Lists.{pick}
use Rattle.tokens.specs.declared.Form.TheVariants.{Range}
use Rattle.tokens.specs.Lengths.{form_number}
use Rattle.tokens.proofs.Forms as forms
use Rattle.static_errors.specs.Held.{rule_number}
use Rattle.static_errors.proofs.Rulings.{late, early}
use Rattle.locate.proofs.AtToken.{offset-late, offset-none, offset-range}
use Rattle.locate.proofs.faults.offset.Goals as goal

pub returns-in-BackwardRange : goal.returns-in-BackwardRange
returns-in-BackwardRange c = offset-late (rule_number c.args.rule) _ (late c.in-BackwardRange.is)

pub bounds-table-k : goal.bounds-table-k
bounds-table-k c = forms.first-in c.args.table.now c.args.k c.requires

pub returns-in_default-of : goal.returns-in_default-of
returns-in_default-of c =
    offset-none c.args.table.now c.args.k (form_number c.of.result) c.of.ensures (rule_number c.args.rule)
    (early c.in_default.not-BackwardRange c.in_default.not-UnknownClass) (λ z. c.in_default-of.not-Range (forms.form_one _ Range z))

pub bounds-table-k-2 : goal.bounds-table-k-2
bounds-table-k-2 c = omega (arith, forms.sized c.args.table.now c.args.k c.requires 4 5 c.in-Range.ensures (forms.length-range 4 _ refl))

pub bounds-table-k-3 : goal.bounds-table-k-3
bounds-table-k-3 c = omega (arith, forms.sized c.args.table.now c.args.k c.requires 4 5 c.in-Range.ensures (forms.length-range 4 _ refl))

pub returns-then-bad_end : goal.returns-then-bad_end
returns-then-bad_end c =
    sym (ap (λ (b : Bool). pick b 0 1) c.if-bad_end.true)
    ∙ offset-range c.args.table.now c.args.k 4 c.in-Range.ensures (rule_number c.args.rule) c.bad_end.result
    (early c.in_default.not-BackwardRange c.in_default.not-UnknownClass) refl c.bad_end.ensures

pub returns : goal.returns
returns c =
    sym (ap (λ (b : Bool). pick b 0 1) c.if-bad_end.false)
    ∙ offset-range c.args.table.now c.args.k 4 c.in-Range.ensures (rule_number c.args.rule) c.bad_end.result
    (early c.in_default.not-BackwardRange c.in_default.not-UnknownClass) refl c.bad_end.ensures
