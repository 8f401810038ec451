use Rattle.settle.proofs.Carrying.{left-offer-at, left-carried}
use Rattle.settle.proofs.carry_left.Goals as goal

-- src/lib.rt:111:5
pub carry-requires : goal.carry-requires
carry-requires c =
    let a = c.args in let s = a.s in let p = c.requires in (
      p.0,
      left-offer-at a.code.now a.marks.now a.notes.now s.size s.n.0 s.i.0 s.j.0 p.0.tables.shape p.0.wide p.0.stop p.1
          c.if-x-eq0.false c.over-height.result c.over-height.ensures c.if-height.false,
    )

-- src/lib.rt:91:1
pub returns : goal.returns
returns c =
    let a = c.args in let s = a.s in let p = c.requires in left-carried a.code.now a.marks.now a.notes.now s.size s.n.0 s.i.0 s.j.0
    p.0.tables.shape p.0.wide p.0.stop p.1 c.if-x-eq0.false c.over-height.result c.over-height.ensures c.carry.ensures
