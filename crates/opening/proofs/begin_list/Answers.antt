use mathlib.Core.Path.{refl}
use Rattle.std.proofs.lemmas.Result.{err_from_is_err_and}
use Prim.Native.Nat.{◌*◌}
use Rattle.answer.specs.Answer.{job}
use Rattle.opening.proofs.Starts.{lent_at}
use Rattle.opening.proofs.begin_list.Goals as goal

pub returns-in_err-start : goal.returns-in_err-start
returns-in_err-start c =
    let a = c.args in
    let p = err_from_is_err_and c.from_residual.result c.from_residual.ensures.1 in
    rw (p.1, p.2) (c.in_err-start.ensures (λ g r. 2 * a.numbers) (job a.grammar.now a.record.now a.scratch a.second) refl refl)

pub returns : goal.returns
returns c =
    let a = c.args in
    let j = job a.grammar.now a.record.now a.scratch a.second in
    rw c.lend.ensures (lent_at (λ g r. 2 * a.numbers) j _ _ (2 * a.numbers) c.in_ok-start.start c.in_ok-start.ensures refl)
