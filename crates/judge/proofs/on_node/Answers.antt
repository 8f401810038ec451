use Rattle.judge.proofs.Tracks.{enters}
use Rattle.judge.proofs.Moves.{moved-node, refuted-number, refuted-end}
use Rattle.judge.proofs.on_node.Goals as goal

pub enter-requires : goal.enter-requires
enter-requires c = enters c.requires.2 c.if-h-list.true

pub returns-then-has_alternative : goal.returns-then-has_alternative
returns-then-has_alternative c =
    let w = c.requires in
    moved-node w.0 w.1 c.look-a.ensures.0 c.target_at-x.ensures c.has_alternative.ensures w.2.lent.room c.if-h-list.true c.enter.ensures w.2 c.if-has_alternative.true

pub returns-else-has_alternative : goal.returns-else-has_alternative
returns-else-has_alternative c =
    let w = c.requires in
    refuted-number w.0 w.1 c.look-a.ensures.0 c.target_at-x.ensures c.has_alternative.ensures c.if-has_alternative.false

pub returns-else-h-list : goal.returns-else-h-list
returns-else-h-list c = let w = c.requires in refuted-end w.0 w.1 c.if-h-list.false
