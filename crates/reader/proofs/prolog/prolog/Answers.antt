use mathlib.Core.Path.{◌≡◌}
use lib.ListN.{drop}
use Rattle.syntax.specs.Parser as parser
use Rattle.reader.specs.Answers.{Passed}
use Rattle.reader.proofs.RulesHead.{room-on}
use Rattle.reader.proofs.PrologParts.{prolog-none, prolog-some}
use Rattle.reader.proofs.prolog.prolog.Goals as goal

pub returns-in_default : goal.returns-in_default
returns-in_default c =
    let args = c.args in
    let pre = c.requires in
    prolog-none args.text.now args.p.0 args.out.now args.at.0 pre.place (rw c.in_default.is at c.heading.ensures)

pub version-requires : goal.version-requires
version-requires c =
    let args = c.args in
    let pre = c.requires in
    let a : Passed (λ x. parser.heading (drop args.p.0 args.text.now) ≡ x) args.text.now args.p.0 c.in-Some.u.0 = c.in-Some.ensures in
    room-on args.text.now args.p.0 c.in-Some.u.0 args.out.now args.at.0 (pre) a.onward

pub returns : goal.returns
returns c =
    let args = c.args in
    let a : Passed (λ x. parser.heading (drop args.p.0 args.text.now) ≡ x) args.text.now args.p.0 c.in-Some.u.0 = c.in-Some.ensures in
    prolog-some args.text.now args.p.0 c.in-Some.u.0 a args.out.now args.at.0 c.version.result c.version.new.out
    c.version.ensures
