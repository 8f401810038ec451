use mathlib.Core.Path.{◌≡◌, sym, ◌∙◌}
use mathlib.Core.Bool.{false, ◌||◌}
use native.Mathlib.Omega.{arith}
use lib.ListN.{take}
use Rattle.static_errors.specs.Parts.{part_at, bad_codes, backward}
use Rattle.static_errors.specs.Scan.{names_at}
use Rattle.tokens.specs.Lengths.{form_number}
use Rattle.tokens.proofs.Forms as forms
use Rattle.static_errors.proofs.Leaf as law
use Rattle.static_errors.proofs.breaks_any.Goals.{then-bad_codes, else-bad_codes, then-bad_codes-2, else-bad_codes-2}
use Rattle.static_errors.proofs.breaks_any.Goals as goal

pub bounds-table-k : goal.bounds-table-k
bounds-table-k c = forms.first-in c.args.table.now c.args.k c.requires.fits

pub returns-in-Bare : goal.returns-in-Bare
returns-in-Bare c =
    let hs = names_at c.args.table.now (take c.args.n c.args.index.now) in
    law.uncoded c.args.table.now c.args.k 6 c.in-Bare.ensures hs false (λ z. omega arith) (λ z. omega arith) (λ z. omega arith)
    (sym (law.unused c.args.table.now c.args.k 6 c.in-Bare.ensures (λ z. omega arith) hs))

pub returns-in-Name : goal.returns-in-Name
returns-in-Name c =
    let hs = names_at c.args.table.now (take c.args.n c.args.index.now) in
    let h = forms.has_characters c.in-Name.is in
    law.uncoded c.args.table.now c.args.k (form_number c.of.result) c.of.ensures hs c.lacks.result
    (λ z. omega (arith, h)) (λ z. omega (arith, h)) (λ z. omega (arith, h)) c.lacks.ensures

pub returns-then-runs_back : goal.returns-then-runs_back
returns-then-runs_back c =
    let p = part_at c.args.table.now c.args.k in
    let hexes : c.if-bad_codes.value ≡ bad_codes 7 p || bad_codes 8 p = elim c.if-bad_codes.branch [
      | then-bad_codes w ↦ w.value-is ∙ c.bad_codes.ensures ∙ law.either_left _ _ (sym c.bad_codes.ensures ∙ w.if-bad_codes.true)
      | else-bad_codes w ↦ w.value-is ∙ w.bad_codes-else-bad_codes.ensures ∙ law.either-right _ _ (sym c.bad_codes.ensures ∙ w.if-bad_codes.false)
    ] in
    let ranges : c.if-bad_codes-2.value ≡ (bad_codes 7 p || bad_codes 8 p) || backward p = rw (← hexes) (elim c.if-bad_codes-2.branch [
      | then-bad_codes-2 w ↦ w.value-is ∙ law.either_left _ _ w.if-bad_codes-2.true
      | else-bad_codes-2 w ↦ w.value-is ∙ w.runs_back.ensures ∙ law.either-right _ _ w.if-bad_codes-2.false
    ]) in
    let unnamed : form_number c.of.result ≡ 0 → ⊥ = forms.no_characters c.in-Code.is in
    law.coded c.args.table.now c.args.k (form_number c.of.result) c.of.ensures unnamed
    (names_at c.args.table.now (take c.args.n c.args.index.now)) _ _ ranges (law.either_left _ _ c.if-runs_back.true)

pub returns-else-runs_back : goal.returns-else-runs_back
returns-else-runs_back c =
    let p = part_at c.args.table.now c.args.k in
    let hexes : c.if-bad_codes.value ≡ bad_codes 7 p || bad_codes 8 p = elim c.if-bad_codes.branch [
      | then-bad_codes w ↦ w.value-is ∙ c.bad_codes.ensures ∙ law.either_left _ _ (sym c.bad_codes.ensures ∙ w.if-bad_codes.true)
      | else-bad_codes w ↦ w.value-is ∙ w.bad_codes-else-bad_codes.ensures ∙ law.either-right _ _ (sym c.bad_codes.ensures ∙ w.if-bad_codes.false)
    ] in
    let ranges : c.if-bad_codes-2.value ≡ (bad_codes 7 p || bad_codes 8 p) || backward p = rw (← hexes) (elim c.if-bad_codes-2.branch [
      | then-bad_codes-2 w ↦ w.value-is ∙ law.either_left _ _ w.if-bad_codes-2.true
      | else-bad_codes-2 w ↦ w.value-is ∙ w.runs_back.ensures ∙ law.either-right _ _ w.if-bad_codes-2.false
    ]) in
    let unnamed : form_number c.of.result ≡ 0 → ⊥ = forms.no_characters c.in-Code.is in
    law.coded c.args.table.now c.args.k (form_number c.of.result) c.of.ensures unnamed
    (names_at c.args.table.now (take c.args.n c.args.index.now)) _ _ ranges (c.no_class.ensures ∙ law.either-right _ _ c.if-runs_back.false)
