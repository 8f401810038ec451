use Rattle.spacing.proofs.Spacing.{inner_start, inner-end, inner-char, inner-shut, inner-deep, inner-bad, inner-on, inner-less}
use Rattle.spacing.proofs.+comment.Goals as goal

pub loop-at-init : goal.loop-at-init
loop-at-init t c = inner_start _ _ _ c.requires

pub returns-then-c-eq-CLOSE_BRACE : goal.returns-then-c-eq-CLOSE_BRACE
returns-then-c-eq-CLOSE_BRACE t c = rw c.after.ensures (inner-shut _ _ _ _ c.loop-at.invariant c.loop-at-test.true c.if-c-eq-CLOSE_BRACE.true)

pub returns-then-d-eq0 : goal.returns-then-d-eq0
returns-then-d-eq0 t c = inner-deep _ _ _ _ c.loop-at.invariant c.loop-at-test.true c.if-c-eq-OPEN_BRACE.true c.if-d-eq0.true

pub returns-in_err-at : goal.returns-in_err-at
returns-in_err-at t c =
    rw c.from_residual.ensures (inner-bad _ _ _ _ c.loop-at.invariant c.loop-at-test.true c.if-c-eq-OPEN_BRACE.true c.if-d-eq0.false
    (rw c.after-then-c-eq-OPEN_BRACE.ensures at c.in_err-at.ensures))

pub loop-at-smaller-then-c-eq-OPEN_BRACE : goal.loop-at-smaller-then-c-eq-OPEN_BRACE
loop-at-smaller-then-c-eq-OPEN_BRACE t c =
    inner-less _ _ _ _ c.loop-at-test.true (rw c.after-then-c-eq-OPEN_BRACE.ensures at c.in_ok-at.ensures)

pub loop-at-preserved-then-c-eq-OPEN_BRACE : goal.loop-at-preserved-then-c-eq-OPEN_BRACE
loop-at-preserved-then-c-eq-OPEN_BRACE t c =
    inner-on _ _ _ _ c.loop-at.invariant c.loop-at-test.true c.if-c-eq-OPEN_BRACE.true c.if-d-eq0.false _
    (rw c.after-then-c-eq-OPEN_BRACE.ensures at c.in_ok-at.ensures)

pub loop-at-preserved : goal.loop-at-preserved
loop-at-preserved t c =
    rw c.after-at.ensures (inner-char _ _ _ _ c.loop-at.invariant c.loop-at-test.true c.if-c-eq-CLOSE_BRACE.false c.if-c-eq-OPEN_BRACE.false)

pub returns : goal.returns
returns t c = inner-end _ _ _ _ c.loop-at.invariant c.loop-at-test.false
