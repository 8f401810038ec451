use mathlib.Core.Path.{sym, ◌∙◌}
use Rattle.syntax.specs.Syntax.{quote}
use Rattle.spacing.proofs.Places.{tested}
use Rattle.lexical.proofs.Words.{string-none, string-space, string-bad, string-empty, string-read}
use Rattle.lexical.proofs.strings.string.Goals as goal

pub returns-then-not-quote : goal.returns-then-not-quote
returns-then-not-quote c =
    let args = c.args in
    string-none args.text.now args.p.0 (tested c.peek-q.ensures quote (sym c.quote.ensures ∙ c.if-not-quote.true))

pub copy_quoted-requires : goal.copy_quoted-requires
copy_quoted-requires c =
    let pre = c.requires in (
      rw c.after.ensures (string-space _ _ _ c.peek-q.ensures (sym c.quote.ensures ∙ c.if-not-quote.false) _ _ (pre)),
      sym c.quote.ensures ∙ c.if-not-quote.false,
    )

pub returns-in_err-u : goal.returns-in_err-u
returns-in_err-u c =
    let args = c.args in
    rw c.from_residual.ensures (string-bad args.text.now args.p.0 _ c.peek-q.ensures (sym c.quote.ensures ∙ c.if-not-quote.false)
    (rw c.after.ensures at c.in_err-u.ensures))

pub returns-then-b-at : goal.returns-then-b-at
returns-then-b-at c =
    let args = c.args in
    string-empty args.text.now args.p.0 _ c.peek-q.ensures (sym c.quote.ensures ∙ c.if-not-quote.false) _ _ _ _ _
    (rw c.after.ensures at c.in_ok-u.ensures) c.if-b-at.true

pub returns : goal.returns
returns c =
    let args = c.args in
    string-read args.text.now args.p.0 _ c.peek-q.ensures (sym c.quote.ensures ∙ c.if-not-quote.false) _ _ _ _ _
    (rw c.after.ensures at c.in_ok-u.ensures) c.if-b-at.false
