use mathlib.Core.List.{[]}
use Rattle.std.proofs.lemmas.Result.{err_from_is_err_and}
use Rattle.opening.proofs.Starts.{opens-grammar, opens-record, opens_at}
use Rattle.opening.proofs.open_job.Goals as goal

pub returns-in_err-rules : goal.returns-in_err-rules
returns-in_err-rules c =
    let p = err_from_is_err_and c.from_residual.result c.from_residual.ensures.1 in
    rw (p.1, p.2) (opens-grammar _ c.args.record.now c.accept_grammar.new.table [] c.in_err-rules.field-0.0 c.in_err-rules.ensures)

pub returns-in_err-chars : goal.returns-in_err-chars
returns-in_err-chars c =
    let p = err_from_is_err_and c.from_residual-in_err-chars.result c.from_residual-in_err-chars.ensures.1 in
    rw (p.1, p.2) (opens-record c.args.grammar.now c.args.record.now c.accept_grammar.new.table c.take_record.new.text _ c.in_ok-rules.ensures _ c.in_err-chars.ensures)

pub returns : goal.returns
returns c = opens_at _ _ _ _ _ c.in_ok-rules.ensures _ c.in_ok-chars.ensures
