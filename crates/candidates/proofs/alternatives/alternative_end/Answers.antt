use mathlib.Core.Path.{sym, ◌∙◌}
use native.Mathlib.Omega.{arith}
use Rattle.candidates.proofs.Searches.{unmet, unmet-next, end-ahead, end-found}
use Rattle.candidates.proofs.alternatives.alternative_end.Goals as goal

pub loop-p-init : goal.loop-p-init
loop-p-init c = unmet c.args.q

pub overflow_mul-p : goal.overflow_mul-p
overflow_mul-p c = omega (arith, end-ahead c.requires.1 c.loop-p.invariant, c.requires.1.inside)

pub number_at-requires : goal.number_at-requires
number_at-requires c = omega (arith, end-ahead c.requires.1 c.loop-p.invariant, c.requires.1.inside)

pub overflow_add-p : goal.overflow_add-p
overflow_add-p c =
    let pre = c.requires in
    omega (arith, end-ahead pre.1 c.loop-p.invariant, pre.1.inside)

pub loop-p-smaller : goal.loop-p-smaller
loop-p-smaller c =
    let pre = c.requires in
    omega (arith, end-ahead pre.1 c.loop-p.invariant, pre.1.inside)

pub loop-p-preserved : goal.loop-p-preserved
loop-p-preserved c = unmet-next c.loop-p.invariant (λ e. c.loop-p-test.true (c.number_at.ensures.0 ∙ e))

pub returns : goal.returns
returns c =
    let pre = c.requires in
    end-found pre.1 c.loop-p.invariant (sym c.number_at.ensures.0 ∙ c.loop-p-test.false)
