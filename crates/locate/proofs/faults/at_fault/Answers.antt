use mathlib.Core.Path.{ap}
use Rattle.static_errors.specs.declared.StaticError.TheVariants.{RepeatedRule}
use Rattle.static_errors.specs.Held.{rule_number}
use Rattle.static_errors.proofs.Rulings.{rule_one}
use Rattle.locate.proofs.AtToken.{narrow, at-6, at_other}
use Rattle.locate.proofs.faults.at_fault.Goals as goal

pub repeats-requires : goal.repeats-requires
repeats-requires c = narrow c.requires

pub returns-in-RepeatedRule : goal.returns-in-RepeatedRule
returns-in-RepeatedRule c = at-6 _ _ _ _ c.repeats.result (ap rule_number c.in-RepeatedRule.is) c.repeats.ensures

pub returns-in_default : goal.returns-in_default
returns-in_default c =
    at_other _ _ _ _ c.breaks.result (λ z. c.in_default.not-RepeatedRule (rule_one c.args.rule RepeatedRule z)) (rw (← c.number.ensures) c.breaks.ensures)
