use Prim.Native.Nat.{◌+◌}
use mathlib.Core.Path.{refl}
use native.Mathlib.Omega.{arith}
use lib.ListN.{get_or, take}
use Rattle.tokens.specs.declared.Form.TheVariants.{Head}
use Rattle.tokens.specs.Lengths.{form_number}
use Rattle.tokens.proofs.Forms as forms
use Rattle.static_errors.specs.Scan.{names_at}
use Rattle.locate.proofs.AtToken.{repeats-none, repeats-it}
use Rattle.locate.proofs.faults.repeats.Goals as goal

pub bounds-table-k : goal.bounds-table-k
bounds-table-k c = forms.first-in c.args.table.now c.args.k c.requires.fits

pub found-requires : goal.found-requires
found-requires c =
    let t = c.args.table.now in
    let second = get_or t (c.args.k + 1) 0 in record {
      name = omega (arith, forms.sized t c.args.k c.requires.fits 1 (second + 2) c.in-Head.ensures (forms.length-text 1 second (omega arith)));
      listing = c.requires.listing;
      low = omega arith;
    }

pub returns-in-Head : goal.returns-in-Head
returns-in-Head c =
    repeats-it c.args.table.now c.args.k 1 c.in-Head.ensures
    (names_at c.args.table.now (take c.args.before c.args.index.now)) c.found.result refl c.found.ensures

pub returns-in_default : goal.returns-in_default
returns-in_default c =
    repeats-none c.args.table.now c.args.k (form_number c.of.result) c.of.ensures
    (names_at c.args.table.now (take c.args.before c.args.index.now)) (λ z. c.in_default.not-Head (forms.form_one _ Head z))
