use Rattle.splits.proofs.Values.{sought-from, sought-over, sought-next}
use Rattle.splits.proofs.least_split.Goals as goal

pub loop-m-init : goal.loop-m-init
loop-m-init c =
    let a = c.args in
    sought-from a.code.now a.marks.now a.notes.now a.s.n.0 a.main.now a.p a.s.i.0 a.s.j.0 c.first_end-m.result.0 c.requires.0.order
    c.first_end-m.ensures

pub loop-m-preserved : goal.loop-m-preserved
loop-m-preserved c =
    let a = c.args in
    let b = c.next_end-e.ensures in
    let s = sought-over a.code.now a.marks.now a.notes.now a.s.n.0 a.main.now c.rest_cells-x.ensures.0 b c.loop-m.invariant in
    sought-next a.code.now a.marks.now a.notes.now a.s.n.0 a.main.now c.split-w.result c.min-v.result s b.to c.split-w.ensures
    c.min-v.ensures
