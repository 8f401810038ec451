use mathlib.Core.Path.{sym, ◌∙◌}
use borrow.Author.Tests.{eq-eqb, eqb-true}
use Rattle.text.proofs.Tests.{clash}
use Rattle.static_errors.proofs.Names as law
use Rattle.static_errors.proofs.is_one.Goals.{then-table-eq-ONE_LENGTH, else-table-eq-ONE_LENGTH, then-table-eq49, else-table-eq49}
use Rattle.static_errors.proofs.is_one.Goals as goal

pub returns-else-table-eq46 : goal.returns-else-table-eq46
returns-else-table-eq46 c =
    let t = c.args.table.now in
    c.if-table-eq46.false ∙ elim c.if-table-eq49.branch [
      | then-table-eq49 w ↦ elim c.if-table-eq-ONE_LENGTH.branch [
        | then-table-eq-ONE_LENGTH v ↦ law.other-second t c.requires v.if-table-eq-ONE_LENGTH.true (eqb-true _ _ (sym v.value-is ∙ w.if-table-eq49.true))
            (λ z. clash (sym w.value-is ∙ c.if-table-eq46.false) (eq-eqb _ _ z))
        | else-table-eq-ONE_LENGTH v ↦ law.other_length t c.requires v.if-table-eq-ONE_LENGTH.false
      ]
      | else-table-eq49 w ↦ elim c.if-table-eq-ONE_LENGTH.branch [
        | then-table-eq-ONE_LENGTH v ↦ law.other-first t c.requires v.if-table-eq-ONE_LENGTH.true (λ z. clash (sym v.value-is ∙ w.if-table-eq49.false) (eq-eqb _ _ z))
        | else-table-eq-ONE_LENGTH v ↦ law.other_length t c.requires v.if-table-eq-ONE_LENGTH.false
      ]
    ]
