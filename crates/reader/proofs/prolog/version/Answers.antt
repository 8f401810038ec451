use mathlib.Core.Path.{◌≡◌}
use native.Mathlib.Omega.{arith}
use lib.ListN.{drop}
use Rattle.syntax.specs.Spacing as spacing
use Rattle.syntax.specs.Lexical.{read-string}
use Rattle.reader.specs.Answers.{Passed}
use Rattle.reader.proofs.RulesHead.{room-on, word_in}
use Rattle.reader.proofs.PrologParts.{version-no-space, version-closed}
use Rattle.reader.proofs.prolog.version.Goals as goal

pub returns-in_err-v : goal.returns-in_err-v
returns-in_err-v c =
    let args' = c.args in
    let args = args' in
    rw c.from_residual.ensures (version-no-space args.text.now args.p.0 c.in_err-v.ensures)

pub read_string-string-requires : goal.read_string-string-requires
read_string-string-requires c =
    let args' = c.args in
    let pre' = c.requires in
    let args = args' in
    let pre = pre' in
    let k : Passed (λ x. spacing.required (drop args.p.0 args.text.now) ≡ x) args.text.now args.p.0 c.in_ok-v.v.0 = c.in_ok-v.ensures in
    room-on _ _ _ _ _ (pre) k.onward

pub closed-requires : goal.closed-requires
closed-requires c =
    let args' = c.args in
    let args = args' in (
      word_in read-string 40 args.text.now c.in_ok-v.v.0 args.out.now args.at.0 c.read_string-string.result
          c.read_string-string.new.out c.read_string-string.ensures,
      (omega arith, omega arith),
    )

pub returns : goal.returns
returns c =
    let args' = c.args in
    let args = args' in
    let k : Passed (λ x. spacing.required (drop args.p.0 args.text.now) ≡ x) args.text.now args.p.0 c.in_ok-v.v.0 = c.in_ok-v.ensures in
    version-closed _ _ _ k args.out.now args.at.0 c.read_string-string.result c.read_string-string.new.out c.closed.result
    c.read_string-string.ensures c.closed.ensures
