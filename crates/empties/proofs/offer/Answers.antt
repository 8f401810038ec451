use mathlib.Core.Path.{sym, ap, ◌∙◌}
use Prim.Native.Nat.{ℕ, max}
use Rattle.heights.specs.Table.{up_of}
use Rattle.sparse.specs.Cells.{empty_in}
use Rattle.empties.proofs.Offers.{offer-end, offer-terminal, offer-taking, offer-symbol, offer-other}
use Rattle.empties.proofs.offer.Goals as goal

pub returns-then-kind-eq-AT_END : goal.returns-then-kind-eq-AT_END
returns-then-kind-eq-AT_END c =
    let a = c.args in
    sym (offer-end a.code.now a.notes.now a.p c.if-kind-eq-AT_END.true)

pub returns-then-code-p-eq0 : goal.returns-then-code-p-eq0
returns-then-code-p-eq0 c =
    let a = c.args in
    c.empty_rest-b.ensures ∙ sym (offer-terminal a.code.now a.notes.now a.p c.if-kind-eq-AT_TERMINAL.true c.if-code-p-eq0.true)

pub returns-then-kind-eq-AT_TERMINAL : goal.returns-then-kind-eq-AT_TERMINAL
returns-then-kind-eq-AT_TERMINAL c =
    let a = c.args in
    sym (offer-taking a.code.now a.notes.now a.p c.if-kind-eq-AT_TERMINAL.true c.if-code-p-eq0.false)

pub returns-then-kind-ne-AT_SYMBOL : goal.returns-then-kind-ne-AT_SYMBOL
returns-then-kind-ne-AT_SYMBOL c =
    let a = c.args in
    sym (offer-other a.code.now a.notes.now a.p c.if-kind-eq-AT_END.false c.if-kind-eq-AT_TERMINAL.false c.if-kind-ne-AT_SYMBOL.true)

pub returns : goal.returns
returns c =
    let a = c.args in
    let e = c.up.ensures ∙ ap (λ (x : ℕ). up_of (empty_in a.notes.now x)) c.wide-rule.ensures in
    let d = c.empty_rest-b.ensures in
    c.max.ensures ∙ (λ ι. max (e ι) (d ι)) ∙ sym (offer-symbol a.code.now a.notes.now a.p c.if-kind-ne-AT_SYMBOL.false)
