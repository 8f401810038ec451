use mathlib.Core.Path.{sym, ◌∙◌}
use Rattle.spacing.proofs.Spacing.{inner-less, outer_start, outer-end, outer-white, outer-stop, outer-bad, outer-on}
use Rattle.spacing.proofs.skip.Goals as goal

pub loop-at-init : goal.loop-at-init
loop-at-init c = outer_start _ _ c.requires

pub returns-in_err-at : goal.returns-in_err-at
returns-in_err-at c =
    rw c.from_residual.ensures (outer-bad _ _ _ c.loop-at.invariant c.loop-at-test.true c.if-c-eq-OPEN_BRACE.true
    (rw c.after.ensures at c.in_err-at.ensures))

pub loop-at-smaller-then-c-eq-OPEN_BRACE : goal.loop-at-smaller-then-c-eq-OPEN_BRACE
loop-at-smaller-then-c-eq-OPEN_BRACE c = inner-less _ _ _ _ c.loop-at-test.true (rw c.after.ensures at c.in_ok-at.ensures)

pub loop-at-preserved-then-c-eq-OPEN_BRACE : goal.loop-at-preserved-then-c-eq-OPEN_BRACE
loop-at-preserved-then-c-eq-OPEN_BRACE c =
    outer-on _ _ _ c.loop-at.invariant c.loop-at-test.true c.if-c-eq-OPEN_BRACE.true _ (rw c.after.ensures at c.in_ok-at.ensures)

pub returns-then-not-whitespace : goal.returns-then-not-whitespace
returns-then-not-whitespace c =
    outer-stop _ _ _ c.loop-at.invariant c.loop-at-test.true
    c.if-c-eq-OPEN_BRACE.false (sym c.whitespace.ensures ∙ c.if-not-whitespace.true)

pub loop-at-preserved : goal.loop-at-preserved
loop-at-preserved c =
    rw c.after-at.ensures (outer-white _ _ _ c.loop-at.invariant c.loop-at-test.true (sym
    c.whitespace.ensures ∙ c.if-not-whitespace.false))

pub returns : goal.returns
returns c = outer-end _ _ _ c.loop-at.invariant c.loop-at-test.false
