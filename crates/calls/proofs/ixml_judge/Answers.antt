use lib.ListN.{length}
use mathlib.Core.List.{[]}
use native.Mathlib.Omega.{arith}
use mathlib.Core.Path.{refl}
use Rattle.opening.proofs.Texts.{got-part}
use Rattle.answer.specs.Answer.{job}
use Rattle.calls.proofs.JudgesAs.{judge-ended, judgeable, judge-concluded}
use borrow.Author.Rules.{rules}
use Rattle.calls.proofs.ixml_judge.Goals as goal

pub returns-in-Err : goal.returns-in-Err
returns-in-Err c =
    let a = c.args in
    let j = job a.grammar.now a.record.now (length a.scratch.now) (length a.second.now) in
    judge-ended a.list.now j _ c.begin_list-begun.new.space.table c.begin_list-begun.new.space.text c.in-Err.why _ c.in-Err.ensures (rw c.from.ensures at c.refuse.ensures)

pub slice_bounds-conclude_list-end-2 : goal.slice_bounds-conclude_list-end-2
slice_bounds-conclude_list-end-2 c = got-part c.in-Ok.ensures.input

pub conclude_list-requires : goal.conclude_list-requires
conclude_list-requires c =
    let a = c.args in
    let j = job a.grammar.now a.record.now (length a.scratch.now) (length a.second.now) in
    judgeable a.list.now j [] c.begin_list-begun.new.space.table c.begin_list-begun.new.space.text c.in-Ok.start c.in-Ok.ensures (search rules) _ refl (omega (arith, c.well_formed))

pub returns : goal.returns
returns c =
    let a = c.args in
    let j = job a.grammar.now a.record.now (length a.scratch.now) (length a.second.now) in
    judge-concluded a.list.now j _ _ _ c.in-Ok.start c.in-Ok.ensures _ _ c.conclude_list.ensures
