use mathlib.Core.Path.{◌∙◌}
use Rattle.opening.proofs.Texts.{got-part}
use Rattle.job.proofs.Readings.{choosable}
use Rattle.tells.proofs.Tells.{not_so}
use Rattle.ending.proofs.Ended.{not-resumed, not_yet, other-table, parsed, resumed-at, refused-at, readable}
use borrow.Author.Rules.{rules}
use Rattle.ending.proofs.end_read.Goals as goal

pub returns-in-Err : goal.returns-in-Err
returns-in-Err c = λ j w. not-resumed j _ _ _ _ _ _ c.in-Err.why (refused-at j _ _ _ c.in-Err.is w) c.refused.ensures

pub rounds-requires : goal.rounds-requires
rounds-requires c = c.requires.1

pub finished-requires : goal.finished-requires
finished-requires c = c.requires.1

pub returns-then-not-finished : goal.returns-then-not-finished
returns-then-not-finished c =
    λ j w. not_yet j _ _ _ _ _ _ _ (resumed-at c.in-Ok.is w) (not_so c.finished.ensures c.if-not-finished.true)
    _ (c.wide-rounds.ensures ∙ c.rounds.ensures) _ c.plain.ensures c.refused-then-not-finished.ensures

pub slice_bounds-finish-end-2 : goal.slice_bounds-finish-end-2
slice_bounds-finish-end-2 c = got-part (readable c.in-Ok.is c.requires.0).started.input

pub finish-finished-requires : goal.finish-finished-requires
finish-finished-requires c =
    let ready = readable c.in-Ok.is c.requires.0 in
    choosable _ _ _ _ ready.started _ _ ready.lent (search rules) ready.room

pub returns-in_default : goal.returns-in_default
returns-in_default c =
    λ j w. (let s = resumed-at c.in-Ok.is w in
    other-table j _ _ _ _ _ _ _ s (c.finished.ensures.yes c.if-not-finished.false) _
    (c.finish-finished.ensures s.started.grammar.tree s.started.grammar.ready)
    c.in_default.is _ c.plain-in_default.ensures c.refused-in_default.ensures)

pub returns : goal.returns
returns c =
    λ j w. (let s = resumed-at c.in-Ok.is w in
    parsed j _ _ _ _ _ _ _ s (c.finished.ensures.yes c.if-not-finished.false) _
    (c.finish-finished.ensures s.started.grammar.tree s.started.grammar.ready)
    _ c.in-Some.is c.parse_of-read.ensures (c.wide-rounds.ensures ∙ c.rounds.ensures))
