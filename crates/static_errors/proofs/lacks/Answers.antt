use mathlib.Core.Bool.{true, not}
use mathlib.Core.Path.{refl, sym, ap, ◌∙◌}
use native.Mathlib.Omega.{arith}
use lib.ListN.{take}
use Rattle.static_errors.specs.Scan.{names_at}
use Rattle.tokens.specs.declared.Form.TheVariants.{Name}
use Rattle.tokens.specs.Lengths.{form_number}
use Rattle.tokens.proofs.Forms as forms
use Rattle.static_errors.proofs.Leaf as law
use Rattle.static_errors.proofs.lacks.Goals as goal

pub bounds-table-k : goal.bounds-table-k
bounds-table-k c = forms.first-in c.args.table.now c.args.k c.requires.fits

pub guessed-requires : goal.guessed-requires
guessed-requires c =
    record { name = law.name-here c.args.table.now c.args.k c.requires.fits 0 c.in-Name.ensures refl; listing = c.requires.listing; low = omega arith }

pub found-requires : goal.found-requires
found-requires c =
    record { name = law.name-here c.args.table.now c.args.k c.requires.fits 0 c.in-Name.ensures refl; listing = c.requires.listing; low = omega arith }

pub returns-then-not-guessed : goal.returns-then-not-guessed
returns-then-not-guessed c =
    law.lacks-it c.args.table.now c.args.k 0 c.in-Name.ensures refl (names_at c.args.table.now (take c.args.n c.args.index.now)) c.found.result c.found.ensures

pub returns-else-not-guessed : goal.returns-else-not-guessed
returns-else-not-guessed c =
    ap not c.if-not-guessed.false
    ∙ law.lacks-it c.args.table.now c.args.k 0 c.in-Name.ensures refl
    (names_at c.args.table.now (take c.args.n c.args.index.now)) true (sym (c.guessed.ensures c.if-not-guessed.false))

pub returns-in_default : goal.returns-in_default
returns-in_default c =
    rw (law.not-used c.args.table.now c.args.k (form_number c.of.result) c.of.ensures (λ z. c.in_default.not-Name (forms.form_one _ Name z)))
