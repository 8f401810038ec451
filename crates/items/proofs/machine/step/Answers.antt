use native.Mathlib.Omega.{arith}
use mathlib.Core.Path.{sym, ◌∙◌, subst}
use Rattle.items.specs.Machine.{Abs, Rep}
use Rattle.items.proofs.Reps.{ready-as, act-as}
use Rattle.items.proofs.machine.step.Goals as goal

pub operate-requires : goal.operate-requires
operate-requires c =
    ready-as (sym c.action_of.ensures ∙ c.in-Operator.is) c.requires (omega (arith, c.requires.place)) (λ a b act. act)

pub close-requires : goal.close-requires
close-requires c =
    ready-as (sym c.action_of.ensures ∙ c.in-Close.is) c.requires (omega (arith, c.requires.place)) (λ a b act. act)

pub finish-requires : goal.finish-requires
finish-requires c =
    ready-as (sym c.action_of.ensures ∙ c.in-Finish.is) c.requires (omega (arith, c.requires.place)) (λ a b act. act)

pub returns-in-Skip : goal.returns-in-Skip
returns-in-Skip c =
    λ a b rep act fit. let e = act-as c.args.at a b (sym c.action_of.ensures ∙ c.in-Skip.is) act in
    subst (λ (z : Abs). Rep c.args.table.now c.args.s z) (sym e) rep

pub returns-in-Push : goal.returns-in-Push
returns-in-Push c =
    λ a b rep act fit. c.push.ensures a b rep (act-as c.args.at a b (sym c.action_of.ensures ∙ c.in-Push.is) act) fit

pub returns-in-Open : goal.returns-in-Open
returns-in-Open c =
    λ a b rep act fit. c.open.ensures a b rep (act-as c.args.at a b (sym c.action_of.ensures ∙ c.in-Open.is) act) fit

pub returns-in-Operator : goal.returns-in-Operator
returns-in-Operator c =
    λ a b rep act fit. c.operate.ensures a b rep (act-as c.args.at a b (sym c.action_of.ensures ∙ c.in-Operator.is) act) fit

pub returns-in-Close : goal.returns-in-Close
returns-in-Close c =
    λ a b rep act fit. c.close.ensures a b rep (act-as c.args.at a b (sym c.action_of.ensures ∙ c.in-Close.is) act) fit

pub returns-in-Finish : goal.returns-in-Finish
returns-in-Finish c =
    λ a b rep act fit. c.finish.ensures a b rep (act-as c.args.at a b (sym c.action_of.ensures ∙ c.in-Finish.is) act) fit
