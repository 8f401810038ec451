use mathlib.Core.Path.{refl}
use Rattle.bits.proofs.Laws.{put-adds}
use Rattle.bits.proofs.put.Goals as goal

pub returns : goal.returns
returns c =
    let pre = c.requires in
    put-adds c.args.set.now pre refl (rw c.power.ensures at c.join.ensures)
