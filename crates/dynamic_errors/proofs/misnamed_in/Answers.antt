use mathlib.Core.Path.{sym, ap, ◌∙◌}
use mathlib.Core.Bool.{Bool, ◌||◌}
use Rattle.dynamic_errors.specs.Judgment.{misnamed_in}
use Rattle.dynamic_errors.proofs.misnamed_in.Goals as goal

pub returns-then-deleted : goal.returns-then-deleted
returns-then-deleted c = λ k n N. ap (λ (b : Bool). misnamed_in b n c.args.found) (sym c.if-deleted.true)

pub returns : goal.returns
returns c =
    λ k n N. c.either.ensures ∙ ap (λ (b : Bool). b || c.args.found) (c.bad_name-bad.ensures k n N)
    ∙ ap (λ (b : Bool). misnamed_in b n c.args.found) (sym c.if-deleted.false)
