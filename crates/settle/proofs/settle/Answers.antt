use Rattle.settle.proofs.Waking.{settling-from, settling-again, settled}
use Rattle.settle.proofs.settle.Goals as goal

-- src/lib.rt:243:5
pub loop-queue-preserved : goal.loop-queue-preserved
loop-queue-preserved c =
    let a = c.args in let s = a.s in let p = c.requires in let x = p.0.tables in settling-again a.code.now a.marks.now a.notes.now s.size s.n.0 s.i.0
    s.j.0 p.0.tables.shape p.0.wide p.0.stop c.loop-queue.invariant c.dequeue-rule.ensures c.revisit.ensures

-- src/lib.rt:230:1
pub returns : goal.returns
returns c =
    let a = c.args in let s = a.s in let p = c.requires in let x = p.0.tables in settled a.code.now a.marks.now a.notes.now s.size s.n.0 s.i.0 s.j.0
    p.0.tables.shape p.0.wide p.0.stop
    (settling-from a.code.now a.marks.now a.notes.now s.size s.n.0 s.i.0 s.j.0 p.0.tables.shape p.0.wide p.0.stop
    c.wake_all.ensures.moved.fell c.loop-queue.invariant) c.loop-queue-test.false
