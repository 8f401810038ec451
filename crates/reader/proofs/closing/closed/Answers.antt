use Rattle.reader.proofs.Closings.{one-of-end, closed-unspaced, closed-no, closed-bad, closed-got}
use native.Mathlib.Omega.{arith}
use mathlib.Core.Path.{sym, ◌∙◌}
use Rattle.spacing.proofs.Places.{tested, in-text}
use Rattle.reader.specs.Answers.{one_of}
use Rattle.reader.proofs.closing.closed.Goals as goal

pub returns-in_err-w : goal.returns-in_err-w
returns-in_err-w c =
    let args = c.args in
    rw c.from_residual.ensures (closed-unspaced (one_of args.first args.second) args.text.now args.word c.in_err-w.ensures)

pub returns-then-not-one_of : goal.returns-then-not-one_of
returns-then-not-one_of c =
    let args = c.args in
    closed-no (one_of args.first args.second) args.text.now _ _ args.word c.in_ok-w.ensures
    (tested c.peek.ensures (one_of args.first args.second) (sym c.one_of.ensures ∙ c.if-not-one_of.true))

pub after-requires : goal.after-requires
after-requires c =
    let args = c.args in
    let pre = c.requires in
    let h = in-text args.text.now c.in_ok-w.w.0 (one_of args.first args.second) (one-of-end _ _ pre.1.0 pre.1.1)
    (tested c.peek.ensures (one_of args.first args.second) (sym c.one_of.ensures ∙ c.if-not-one_of.false)) in
    omega (arith, h, c.well_formed.0)

pub skip-requires : goal.skip-requires
skip-requires c =
    let args = c.args in
    let pre = c.requires in
    let h = in-text args.text.now c.in_ok-w.w.0 (one_of args.first args.second) (one-of-end _ _ pre.1.0 pre.1.1)
    (tested c.peek.ensures (one_of args.first args.second) (sym c.one_of.ensures ∙ c.if-not-one_of.false)) in
    omega (arith, h, c.after.ensures)

pub returns-in_err-y : goal.returns-in_err-y
returns-in_err-y c =
    let args = c.args in
    rw c.from_residual-in_err-y.ensures (closed-bad (one_of args.first args.second) args.text.now _ _ args.word c.in_ok-w.ensures
    (tested c.peek.ensures (one_of args.first args.second) (sym c.one_of.ensures ∙ c.if-not-one_of.false))
    (rw c.after.ensures at c.in_err-y.ensures))

pub returns : goal.returns
returns c =
    let args = c.args in
    closed-got (one_of args.first args.second) args.text.now _ _ args.word c.in_ok-w.ensures
    (tested c.peek.ensures (one_of args.first args.second) (sym c.one_of.ensures ∙ c.if-not-one_of.false)) _
    (rw c.after.ensures at c.in_ok-y.ensures)
