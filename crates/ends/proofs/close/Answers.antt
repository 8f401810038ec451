use mathlib.Core.Path.{◌∙◌}
use Rattle.ends.proofs.Laws.{settled-start, settled-join, settling-as}
use Rattle.ends.proofs.Rounds.{closing_end}
use Rattle.ends.proofs.close.Goals as goal

pub loop-s-init : goal.loop-s-init
loop-s-init c =
    settled-start c.requires

pub round-requires : goal.round-requires
round-requires c =
    settling-as c.requires c.loop-s.invariant

pub loop-s-smaller : goal.loop-s-smaller
loop-s-smaller c =
    c.round.ensures.grows.less c.loop-s-test.true

pub loop-s-preserved : goal.loop-s-preserved
loop-s-preserved c =
    settled-join c.loop-s.invariant c.round.ensures.settled

pub shape_of-main : goal.shape_of-main
shape_of-main c =
    c.round.ensures.settled.long ∙ c.loop-s.invariant.long

pub returns : goal.returns
returns c =
    closing_end c.loop-s-test.false c.loop-s.invariant c.round.ensures
