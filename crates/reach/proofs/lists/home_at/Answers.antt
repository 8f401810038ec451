use Rattle.reach.proofs.Keys.{home_same, home-new}
use Rattle.reach.proofs.lists.home_at.Goals as goal

pub returns-then-owner-eq0 : goal.returns-then-owner-eq0
returns-then-owner-eq0 c = home_same _ _ _ c.requires.2 c.requires.3 c.if-owner-eq0.true

pub returns : goal.returns
returns c = home-new _ _ _ c.requires.2 c.requires.3 c.if-owner-eq0.false
