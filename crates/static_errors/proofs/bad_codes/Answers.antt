use mathlib.Core.Path.{refl, sym, ◌∙◌}
use native.Mathlib.Omega.{arith}
use Rattle.tokens.specs.declared.Form.TheVariants.{Code, Range}
use Rattle.tokens.specs.Lengths.{form_number}
use Rattle.static_errors.specs.Held.{rule_number}
use Rattle.tokens.proofs.Forms as forms
use Rattle.static_errors.proofs.Leaf as law
use Rattle.static_errors.proofs.bad_codes.Goals as goal

pub bounds-table-k : goal.bounds-table-k
bounds-table-k c = forms.first-in c.args.table.now c.args.k c.requires

pub bounds-table-k-in-Code : goal.bounds-table-k-in-Code
bounds-table-k-in-Code c = omega (arith, forms.sized c.args.table.now c.args.k c.requires 3 2 c.in-Code.ensures (forms.length-code 3 _ refl))

pub bounds-table-k-in-Range : goal.bounds-table-k-in-Range
bounds-table-k-in-Range c = omega (arith, forms.sized c.args.table.now c.args.k c.requires 4 5 c.in-Range.ensures (forms.length-range 4 _ refl))

pub bounds-table-k-in-Range-2 : goal.bounds-table-k-in-Range-2
bounds-table-k-in-Range-2 c = omega (arith, forms.sized c.args.table.now c.args.k c.requires 4 5 c.in-Range.ensures (forms.length-range 4 _ refl))

pub bounds-table-k-else-bad_end : goal.bounds-table-k-else-bad_end
bounds-table-k-else-bad_end c = omega (arith, forms.sized c.args.table.now c.args.k c.requires 4 5 c.in-Range.ensures (forms.length-range 4 _ refl))

pub bounds-table-k-else-bad_end-2 : goal.bounds-table-k-else-bad_end-2
bounds-table-k-else-bad_end-2 c = omega (arith, forms.sized c.args.table.now c.args.k c.requires 4 5 c.in-Range.ensures (forms.length-range 4 _ refl))

pub returns-in-Code : goal.returns-in-Code
returns-in-Code c =
    c.bad_code.ensures ∙ law.one_code c.args.table.now c.args.k 3 c.in-Code.ensures (rule_number c.args.rule) refl

pub returns-then-bad_end : goal.returns-then-bad_end
returns-then-bad_end c =
    c.bad_end.ensures ∙ law.either_left _ _ (sym c.bad_end.ensures ∙ c.if-bad_end.true)
    ∙ law.two-codes c.args.table.now c.args.k 4 c.in-Range.ensures (rule_number c.args.rule) refl

pub returns-else-bad_end : goal.returns-else-bad_end
returns-else-bad_end c =
    c.bad_end-else-bad_end.ensures ∙ law.either-right _ _ (sym c.bad_end.ensures ∙ c.if-bad_end.false)
    ∙ law.two-codes c.args.table.now c.args.k 4 c.in-Range.ensures (rule_number c.args.rule) refl

pub returns-in_default : goal.returns-in_default
returns-in_default c =
    law.no_code c.args.table.now c.args.k (form_number c.of.result) c.of.ensures (rule_number c.args.rule)
    (λ z. c.in_default.not-Code (forms.form_one _ Code z)) (λ z. c.in_default.not-Range (forms.form_one _ Range z))
