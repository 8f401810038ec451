use native.Mathlib.Omega.{arith}
use Rattle.stands.proofs.Laws.{fit-yes, fit-no, follow-end, follow-misfit, follow-fit, follow-symbol}
use Rattle.stands.proofs.follow.Goals as goal

pub returns-then-fits : goal.returns-then-fits
returns-then-fits c =
    let pre = c.requires in
    let shape = pre.standing.ground.tables.shape in
    let fit = fit-yes _ c.fits.ensures c.if-fits.true in
    let room = pre.standing.ground.within _ _ pre.inside pre.standing.on c.if-kind-eq-AT_TERMINAL.true fit in
    let next = shape.nexts _ pre.inside (λ z. omega (arith, c.if-kind-eq-AT_TERMINAL.true)) in
    follow-fit (omega (arith, next, shape.small)) c.if-kind-eq-AT_TERMINAL.true fit (rw c.wide-width.ensures at c.set_out.ensures)

pub returns-else-fits : goal.returns-else-fits
returns-else-fits c = follow-misfit c.if-kind-eq-AT_TERMINAL.true (fit-no _ c.fits.ensures c.if-fits.false)

pub returns-then-kind-ne-AT_SYMBOL : goal.returns-then-kind-ne-AT_SYMBOL
returns-then-kind-ne-AT_SYMBOL c = follow-end c.if-kind-eq-AT_TERMINAL.false c.if-kind-ne-AT_SYMBOL.true

pub returns : goal.returns
returns c =
    let pre = c.requires in
    let shape = pre.standing.ground.tables.shape in
    let next = shape.nexts _ pre.inside (λ z. omega (arith, c.if-kind-ne-AT_SYMBOL.false)) in
    follow-symbol (omega (arith, next, shape.small)) c.if-kind-ne-AT_SYMBOL.false (rw c.wide-rule.ensures at c.pass.ensures)
    (rw c.wide-rule.ensures at c.enter.ensures)
