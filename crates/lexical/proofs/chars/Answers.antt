use Rattle.syntax.specs.Result.{map}
use Rattle.syntax.specs.Lexical.{read-string, read-chars}
use Rattle.tree.specs.Tree.{string}
use mathlib.Core.Path.{◌≡◌}
use lib.ListN.{drop}
use Rattle.spacing.proofs.Places.{is-ch, not-ch}
use Rattle.lexical.proofs.Copies.{recopy}
use Rattle.lexical.proofs.Words.{chars-string, chars-no-hex, chars-no-string, coding}
use Rattle.lexical.proofs.chars.Goals as goal

pub hex-requires : goal.hex-requires
hex-requires c = is-ch c.peek.ensures 0x23 c.if-peek-eq-NUMBER_SIGN.true

pub returns-in_err-q : goal.returns-in_err-q
returns-in_err-q c =
    let args = c.args in
    rw c.from_residual.ensures (chars-no-hex args.text.now args.p.0 (is-ch c.peek.ensures 0x23 c.if-peek-eq-NUMBER_SIGN.true) c.in_err-q.ensures)

pub returns-then-peek-eq-NUMBER_SIGN : goal.returns-then-peek-eq-NUMBER_SIGN
returns-then-peek-eq-NUMBER_SIGN c =
    coding _ _ _ _ _ (is-ch c.peek.ensures 0x23 c.if-peek-eq-NUMBER_SIGN.true) c.in_ok-q.ensures

pub returns-in_err-q-2 : goal.returns-in_err-q-2
returns-in_err-q-2 c =
    let args = c.args in
    rw c.from_residual-in_err-q-2.ensures (chars-no-string args.text.now args.p.0 (not-ch c.peek.ensures 0x23 c.if-peek-eq-NUMBER_SIGN.false) c.in_err-q-2.ensures)

pub returns : goal.returns
returns c =
    let args = c.args in
    recopy (λ x. read-string (drop args.p.0 args.text.now) ≡ x) (λ x. read-chars (drop args.p.0 args.text.now) ≡ map string x)
    (λ x e. chars-string args.text.now args.p.0 (not-ch c.peek.ensures 0x23 c.if-peek-eq-NUMBER_SIGN.false) x e)
    c.in_ok-q-2.ensures
