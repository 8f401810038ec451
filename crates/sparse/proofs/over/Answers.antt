use mathlib.Core.Path.{sym, ap, ◌∙◌}
use Prim.Native.Nat.{ℕ, max}
use Rattle.heights.specs.Table.{up_of}
use Rattle.sparse.specs.Cells.{empty_in}
use Rattle.sparse.proofs.Rows.{flagged, unflagged, over-away, over-terminal, over-misfit, over-taking, over-symbol, over-other}
use Rattle.sparse.proofs.over.Goals as goal

pub returns-then-not-reached : goal.returns-then-not-reached
returns-then-not-reached c =
    let a = c.args in
    let w = unflagged _ _ c.reached.ensures c.if-not-reached.true in
    sym (over-away a.code.now a.marks.now a.notes.now a.p a.i.0 a.v w)

pub returns-then-code-p-ne0 : goal.returns-then-code-p-ne0
returns-then-code-p-ne0 c =
    let a = c.args in
    let w = flagged _ _ c.reached.ensures c.if-not-reached.false in
    sym (over-taking a.code.now a.marks.now a.notes.now a.p a.i.0 a.v w c.if-kind-eq-AT_TERMINAL.true c.if-code-p-ne0.true)

pub returns-then-fits : goal.returns-then-fits
returns-then-fits c =
    let a = c.args in
    let w = flagged _ _ c.reached.ensures c.if-not-reached.false in
    let f = flagged _ _ c.fits.ensures c.if-fits.true in
    sym (over-terminal a.code.now a.marks.now a.notes.now a.p a.i.0 a.v w c.if-kind-eq-AT_TERMINAL.true c.if-code-p-ne0.false f)

pub returns-then-kind-eq-AT_TERMINAL : goal.returns-then-kind-eq-AT_TERMINAL
returns-then-kind-eq-AT_TERMINAL c =
    let a = c.args in
    let w = flagged _ _ c.reached.ensures c.if-not-reached.false in
    let f = unflagged _ _ c.fits.ensures c.if-fits.false in
    sym (over-misfit a.code.now a.marks.now a.notes.now a.p a.i.0 a.v w c.if-kind-eq-AT_TERMINAL.true c.if-code-p-ne0.false f)

pub returns-then-kind-ne-AT_SYMBOL : goal.returns-then-kind-ne-AT_SYMBOL
returns-then-kind-ne-AT_SYMBOL c =
    let a = c.args in
    let w = flagged _ _ c.reached.ensures c.if-not-reached.false in
    sym (over-other a.code.now a.marks.now a.notes.now a.p a.i.0 a.v w c.if-kind-eq-AT_TERMINAL.false c.if-kind-ne-AT_SYMBOL.true)

pub returns : goal.returns
returns c =
    let a = c.args in
    let w = flagged _ _ c.reached.ensures c.if-not-reached.false in
    c.max.ensures
    ∙ ap (λ (x : ℕ). max x a.v) (c.up.ensures ∙ ap (λ (x : ℕ). up_of (empty_in a.notes.now x)) c.wide-rule.ensures)
    ∙ sym (over-symbol a.code.now a.marks.now a.notes.now a.p a.i.0 a.v w c.if-kind-ne-AT_SYMBOL.false)
