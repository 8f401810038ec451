use Rattle.reach.proofs.Queue.{wake-spreads}
use Rattle.reach.proofs.work.wake.Goals as goal

pub spread-requires : goal.spread-requires
spread-requires c = wake-spreads c.requires
    c.if-marks-x.false c.raise.ensures
