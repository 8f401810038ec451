use Rattle.heights.proofs.Cells.{at_room, rule-place}
use Rattle.sweeps.proofs.split.Goals as goal

pub bounds-main-x : goal.bounds-main-x
bounds-main-x c =
    at_room c.requires.0.cells (rule-place c.requires.0 c.requires.1 c.args.m c.requires.4 c.requires.2 c.requires.3) c.cell-x.ensures
