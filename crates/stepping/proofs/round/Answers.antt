use Rattle.answer.specs.Answer.{job}
use lib.ListN.{length}
use Prim.Native.Nat.{◌+◌}
use mathlib.Core.Path.{refl, ap, ◌∙◌}
use Rattle.opening.proofs.Texts.{got-part}
use Rattle.tells.proofs.Tells.{not_so}
use Rattle.stepping.proofs.Calls.{rounded-refused, rounded-over, rounded-on, readable}
use borrow.Author.Rules.{rules}
use native.Mathlib.Omega.{arith}
use Rattle.stepping.proofs.round.Goals as goal

pub resume-begun-requires : goal.resume-begun-requires
resume-begun-requires c =
    c.requires

pub returns-in-Err : goal.returns-in-Err
returns-in-Err c =
    let j = job c.args.grammar.now c.args.record.now (length c.args.main.now) c.args.second in
    rounded-refused j c.resume-begun.new.space.table c.resume-begun.new.space.text _ _ c.in-Err.why _ c.in-Err.ensures c.refuse.ensures

pub rounds-done-requires : goal.rounds-done-requires
rounds-done-requires c =
    c.requires

pub finished-requires : goal.finished-requires
finished-requires c =
    c.requires

pub returns-then-finished : goal.returns-then-finished
returns-then-finished c =
    let j = job c.args.grammar.now c.args.record.now (length c.args.main.now) c.args.second in
    let w = c.in-Ok.ensures in
    rounded-over j _ _ _ _ _ w _ c.answered-answer.ensures _ (c.wide-rounds.ensures ∙ c.rounds-done.ensures) (c.finished.ensures.yes c.if-finished.true)

pub slice_bounds-round-end-2 : goal.slice_bounds-round-end-2
slice_bounds-round-end-2 c =
    let j = job c.args.grammar.now c.args.record.now (length c.args.main.now) c.args.second in
    got-part c.in-Ok.ensures.started.input

pub round-last-requires : goal.round-last-requires
round-last-requires c =
    let j = job c.args.grammar.now c.args.record.now (length c.args.main.now) c.args.second in
    readable j c.resume-begun.new.space.table c.resume-begun.new.space.text c.args.main.now _ _
    c.in-Ok.ensures refl (search rules)

pub overflow_add-done : goal.overflow_add-done
overflow_add-done c =
    let j = job c.args.grammar.now c.args.record.now (length c.args.main.now) c.args.second in
    omega (arith, c.rounds-done.ensures, c.in-Ok.ensures.keeps.head.few)

pub count-requires : goal.count-requires
count-requires c =
    c.requires

pub overflow_add-result : goal.overflow_add-result
overflow_add-result c =
    let j = job c.args.grammar.now c.args.record.now (length c.args.main.now) c.args.second in
    omega (arith, c.wide-rounds.ensures, c.rounds-done.ensures, c.in-Ok.ensures.keeps.head.few)

pub returns : goal.returns
returns c =
    let j = job c.args.grammar.now c.args.record.now (length c.args.main.now) c.args.second in
    let w = c.in-Ok.ensures in
    rounded-on j _ _ _ _ _ w _ c.answered-answer.ensures _ (c.wide-rounds.ensures ∙ c.rounds-done.ensures) (not_so c.finished.ensures c.if-finished.false) _ _
    c.round-last.result _ _ (ap (λ x. x + 1) c.rounds-done.ensures) c.from.ensures c.count.ensures c.round-last.ensures
