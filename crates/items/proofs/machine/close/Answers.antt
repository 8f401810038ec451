use mathlib.Core.Path.{refl}
use Rattle.items.proofs.Reps.{rep-closed, block-bounds, closed-items}
use Rattle.items.proofs.machine.close.Goals as goal

pub block-next-requires : goal.block-next-requires
block-next-requires c =
    block-bounds c.requires.act.block (closed-items c.requires.act c.requires.fit) c.requires.rep.has.fit.depth _ _ _ _
    c.requires.rep.has.size c.requires.rep.items c.requires.rep.base c.requires.rep.depth

pub returns : goal.returns
returns c = λ a b rep act fit. rep-closed rep fit act c.block-next.ensures c.renew.ensures refl refl refl refl
