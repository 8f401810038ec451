use mathlib.Core.Path.{◌≡◌}
use lib.ListN.{drop}
use Rattle.text.specs.Lists.{chars}
use Rattle.syntax.specs.Spacing as spacing
use Rattle.syntax.specs.Lexical.{read_word}
use Rattle.reader.specs.Answers.{Passed}
use Rattle.reader.proofs.PrologParts.{heading-no-ixml, heading-no-space, heading-word}
use Rattle.reader.proofs.prolog.heading.Goals as goal

pub returns-in_err-u : goal.returns-in_err-u
returns-in_err-u c =
    let args = c.args in
    rw c.from_residual.ensures (heading-no-ixml args.text.now args.p.0 c.in_err-u.ensures)

pub required-requires : goal.required-requires
required-requires c =
    let args = c.args in
    let a : Passed (λ x. read_word (chars "ixml") (drop args.p.0 args.text.now) ≡ x) args.text.now args.p.0
    c.in_ok-u.u.0 = c.in_ok-u.ensures in
    a.onward.within

pub returns-in_err-v : goal.returns-in_err-v
returns-in_err-v c =
    let args = c.args in
    rw c.from_residual-in_err-v.ensures (let a : Passed (λ x. read_word (chars "ixml") (drop args.p.0 args.text.now) ≡ x) args.text.now args.p.0 c.in_ok-u.u.0 =
    c.in_ok-u.ensures in
    heading-no-space args.text.now args.p.0 c.in_ok-u.u.0 a c.in_err-v.ensures)

pub word-requires-2 : goal.word-requires-2
word-requires-2 c =
    let args = c.args in
    let b : Passed (λ x. spacing.required (drop c.in_ok-u.u.0 args.text.now) ≡ x) args.text.now c.in_ok-u.u.0
    c.in_ok-v.v.0 = c.in_ok-v.ensures in
    b.onward.within

pub returns : goal.returns
returns c =
    let args = c.args in
    let a : Passed (λ x. read_word (chars "ixml") (drop args.p.0 args.text.now) ≡ x) args.text.now args.p.0 c.in_ok-u.u.0 =
    c.in_ok-u.ensures in
    let b : Passed (λ x. spacing.required (drop c.in_ok-u.u.0 args.text.now) ≡ x) args.text.now c.in_ok-u.u.0
    c.in_ok-v.v.0 = c.in_ok-v.ensures in
    heading-word args.text.now args.p.0 c.in_ok-u.u.0 a c.in_ok-v.v.0 b c.word-2.result c.word-2.ensures
