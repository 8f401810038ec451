use borrow.Author.Tests.{ne_eqb}
use Rattle.std.proofs.lemmas.Result.{err_from_is_err_and}
use Rattle.static_errors.specs.Scan.{refusal_of}
use Rattle.static_errors.proofs.Rulings.{some-rule}
use Rattle.static_errors.proofs.first_refusal.Goals as goal

pub returns-in_err-name_refusal : goal.returns-in_err-name_refusal
unfolding refusal_of
returns-in_err-name_refusal c =
    let p = err_from_is_err_and c.from_residual.result c.from_residual.ensures.1 in
    rw (p.1, p.2) (λ ts h. rw (← c.in_err-name_refusal.ensures ts h, ne_eqb _ 0 (some-rule c.in_err-name_refusal.field-0.0)))

pub returns : goal.returns
unfolding refusal_of
returns c = λ ts h. rw (← c.in_ok-name_refusal.ensures ts h) (c.code_refusal.ensures ts h)
