use Prim.Native.Nat.{◌+◌}
use lib.ListN.{get_or}
use mathlib.Core.Path.{refl, sym, ◌∙◌, ap}
use native.Mathlib.Omega.{arith}
use Rattle.static_errors.specs.Parts.{classless}
use Rattle.tokens.specs.declared.Form.TheVariants.{Class}
use Rattle.tokens.specs.Lengths.{form_number}
use Rattle.tokens.proofs.Forms as forms
use Rattle.static_errors.proofs.Leaf as law
use Rattle.static_errors.proofs.Classes.{unlisted}
use Rattle.static_errors.proofs.no_class.Goals as goal

pub bounds-table-k : goal.bounds-table-k
bounds-table-k c = forms.first-in c.args.table.now c.args.k c.requires

pub bounds-table-k-in-Class : goal.bounds-table-k-in-Class
bounds-table-k-in-Class c = omega (arith, forms.sized c.args.table.now c.args.k c.requires 5 3 c.in-Class.ensures (forms.length-class 5 _ refl))

pub bounds-table-k-in-Class-2 : goal.bounds-table-k-in-Class-2
bounds-table-k-in-Class-2 c = omega (arith, forms.sized c.args.table.now c.args.k c.requires 5 3 c.in-Class.ensures (forms.length-class 5 _ refl))

pub returns-in-Class : goal.returns-in-Class
returns-in-Class c =
    unlisted (get_or c.args.table.now (c.args.k + 1) 0) (get_or c.args.table.now (c.args.k + 2) 0)
    c.class_of-class.result c.class_of-class.ensures ∙ sym
    (ap classless (law.is-class c.args.table.now c.args.k 5 c.in-Class.ensures refl))

pub returns-in_default : goal.returns-in_default
returns-in_default c =
    law.not-class c.args.table.now c.args.k (form_number c.of.result) c.of.ensures (λ z. c.in_default.not-Class (forms.form_one _ Class z))
