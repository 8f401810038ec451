use mathlib.Core.Path.{sym, ◌∙◌}
use native.Mathlib.Omega.{arith}
use Rattle.lexical.proofs.Words.{no-mark, mark-in, mark-bad, mark-read}
use Rattle.lexical.proofs.mark.Goals as goal

pub returns-then-not-is_mark : goal.returns-then-not-is_mark
returns-then-not-is_mark c =
    let pre = c.requires in
    no-mark _ _ _ c.peek-c.ensures (sym c.is_mark.ensures ∙ c.if-not-is_mark.true) (pre)

pub skip-requires : goal.skip-requires
skip-requires c =
    let args = c.args in
    let h = mark-in args.text.now args.p.0 _ c.peek-c.ensures (sym c.is_mark.ensures ∙ c.if-not-is_mark.false) in
    omega (arith, c.after.ensures)

pub returns-in_err-q : goal.returns-in_err-q
returns-in_err-q c =
    let args = c.args in
    rw c.from_residual.ensures (mark-bad args.text.now args.p.0 _ c.peek-c.ensures (sym c.is_mark.ensures ∙ c.if-not-is_mark.false)
    (rw c.after.ensures at c.in_err-q.ensures))

pub returns : goal.returns
returns c =
    let args = c.args in
    mark-read args.text.now args.p.0 _ c.peek-c.ensures (sym c.is_mark.ensures ∙ c.if-not-is_mark.false) _ _
    (rw c.after.ensures at c.in_ok-q.ensures) c.mark_number.ensures
