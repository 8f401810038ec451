use mathlib.Core.Path.{refl, sym, ap}
use native.Mathlib.Omega.{arith}
use Rattle.static_errors.specs.Parts.{backward}
use Rattle.tokens.specs.declared.Form.TheVariants.{Range}
use Rattle.tokens.specs.Lengths.{form_number}
use Rattle.tokens.proofs.Forms as forms
use Rattle.static_errors.proofs.Leaf as law
use Rattle.static_errors.proofs.runs_back.Goals as goal

pub bounds-table-k : goal.bounds-table-k
bounds-table-k c = forms.first-in c.args.table.now c.args.k c.requires

pub bounds-table-k-in-Range : goal.bounds-table-k-in-Range
bounds-table-k-in-Range c = omega (arith, forms.sized c.args.table.now c.args.k c.requires 4 5 c.in-Range.ensures (forms.length-range 4 _ refl))

pub bounds-table-k-in-Range-2 : goal.bounds-table-k-in-Range-2
bounds-table-k-in-Range-2 c = omega (arith, forms.sized c.args.table.now c.args.k c.requires 4 5 c.in-Range.ensures (forms.length-range 4 _ refl))

pub returns-in-Range : goal.returns-in-Range
returns-in-Range c = sym (ap backward (law.is-range c.args.table.now c.args.k 4 c.in-Range.ensures refl))

pub returns-in_default : goal.returns-in_default
returns-in_default c =
    law.not-range c.args.table.now c.args.k (form_number c.of.result) c.of.ensures (λ z. c.in_default.not-Range (forms.form_one _ Range z))
