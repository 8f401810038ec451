use Rattle.spacing.specs.Answers.{Skipped}
use Rattle.reader.proofs.RulesLoop.{required-bad, required-still, required-moved}
use Rattle.reader.proofs.prolog.required.Goals as goal

pub returns-in_err-q : goal.returns-in_err-q
returns-in_err-q c =
    let args = c.args in
    rw c.from_residual.ensures (required-bad args.text.now args.p.0 c.in_err-q.ensures)

pub returns-then-q-p : goal.returns-then-q-p
returns-then-q-p c =
    let args = c.args in
    let k : Skipped args.text.now args.p.0 c.in_ok-q.q.0 = c.in_ok-q.ensures in
    required-still args.text.now args.p.0 c.in_ok-q.q.0 k c.if-q-p.true

pub returns : goal.returns
returns c =
    let args = c.args in
    let k : Skipped args.text.now args.p.0 c.in_ok-q.q.0 = c.in_ok-q.ensures in
    required-moved args.text.now args.p.0 c.in_ok-q.q.0 k c.if-q-p.false
