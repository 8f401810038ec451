use mathlib.Core.Path.{sym, subst}
use lib.ListN.{length}
use Rattle.std.proofs.lemmas.Result.{err_from_is_err_and}
use Rattle.answer.specs.Answer.{job}
use Rattle.job.specs.Parses.{Parses}
use Rattle.job.proofs.Readings.{parses-of}
use Rattle.job.proofs.Parsed.{ended}
use Rattle.job.proofs.parse_record.Goals as goal

pub returns-in_err-start : goal.returns-in_err-start
returns-in_err-start c =
    let j = job c.args.grammar.now c.args.record.now (length c.args.main.now) c.args.lending.second in
    let p = err_from_is_err_and c.from_residual.result c.from_residual.ensures.1 in
    rw (p.1, p.2) (ended j c.begin.new.space.table c.begin.new.space.text c.in_err-start.field-0.0 c.in_err-start.ensures)

pub returns : goal.returns
returns c =
    let j = job c.args.grammar.now c.args.record.now (length c.args.main.now) c.args.lending.second in
    let s = c.in_ok-start.ensures in
    subst (Parses j _ _ _) (sym c.parse_of.ensures)
    (parses-of j _ _ _ s _ c.choose_by-chosen.result (c.choose_by-chosen.ensures s.grammar.tree s.grammar.ready))
