use mathlib.Core.Path.{refl}
use Rattle.tokens.specs.declared.Form.TheVariants.{Head}
use Rattle.tokens.specs.Lengths.{form_number}
use Rattle.tokens.proofs.Forms as forms
use Rattle.static_errors.proofs.Leaf as law
use Rattle.locate.proofs.faults.heads_of.Goals as goal

pub bounds-table-k : goal.bounds-table-k
bounds-table-k c = forms.first-in c.args.table.now c.args.k c.requires

pub returns-in-Head : goal.returns-in-Head
returns-in-Head c = rw (law.is-headed c.args.table.now c.args.k 1 c.in-Head.ensures refl)

pub returns-in_default : goal.returns-in_default
returns-in_default c =
    rw (law.not-headed c.args.table.now c.args.k (form_number c.of.result) c.of.ensures (λ z. c.in_default.not-Head (forms.form_one _ Head z)))
