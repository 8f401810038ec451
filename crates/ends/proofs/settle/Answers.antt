use Rattle.ends.proofs.Laws.{settled-start, settled-join, settling-as}
use Rattle.ends.proofs.settle.Goals as goal

pub returns-then-size-le-FEW : goal.returns-then-size-le-FEW
returns-then-size-le-FEW c = settled-start c.requires.0

pub loop-init : goal.loop-init
loop-init c = settled-start c.requires.0

pub shape_of-main-then-size-rule : goal.shape_of-main-then-size-rule
shape_of-main-then-size-rule c = c.loop.invariant.long

pub returns-then-size-rule : goal.returns-then-size-rule
returns-then-size-rule c = c.loop.invariant

pub turn-requires : goal.turn-requires
turn-requires c =
    (settling-as c.requires.0 c.loop.invariant, c.if-size-rule.false, c.requires.1)

pub loop-preserved : goal.loop-preserved
loop-preserved c = settled-join c.loop.invariant c.turn.ensures

pub shape_of-main : goal.shape_of-main
shape_of-main c = c.loop.invariant.long

pub returns : goal.returns
returns c = c.loop.invariant
