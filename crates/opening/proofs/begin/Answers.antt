use mathlib.Core.Path.{refl}
use Rattle.std.proofs.lemmas.Result.{err_from_is_err_and}
use Rattle.answer.specs.Answer.{job, main_need}
use Rattle.opening.proofs.Starts.{small, lent_at, need-is}
use Rattle.opening.proofs.begin.Goals as goal

pub returns-in_err-start : goal.returns-in_err-start
returns-in_err-start c =
    let a = c.args in
    let p = err_from_is_err_and c.from_residual.result c.from_residual.ensures.1 in
    rw (p.1, p.2) (c.in_err-start.ensures main_need (job a.grammar.now a.record.now a.main a.second) refl refl)

pub lend_main-requires : goal.lend_main-requires
lend_main-requires c = small _ c.in_ok-start.ensures

pub returns : goal.returns
returns c =
    let a = c.args in
    let j = job a.grammar.now a.record.now a.main a.second in
    let o = c.in_ok-start.ensures in
    rw c.lend_main.ensures (lent_at main_need j _ _ _ c.in_ok-start.start o (need-is c.in_ok-start.start o))
