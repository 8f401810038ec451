use mathlib.Core.Path.{sym, ◌∙◌}
use Rattle.sparse.proofs.Rows.{flagged, unflagged}
use Rattle.settle.proofs.Waking.{wake-rest, wake-rule, wake-carried, wake-away}
use Rattle.settle.proofs.wake.Goals as goal

pub returns-then-code-x-eq-AT_END : goal.returns-then-code-x-eq-AT_END
returns-then-code-x-eq-AT_END c =
    let a = c.args in
    let s = a.s in
    let p = c.requires in
    wake-rule a.code.now a.marks.now a.notes.now s.size s.n.0 s.i.0 s.j.0 p.0.tables.shape
    p.0.wide p.0.stop a.x.dot p.0.queued c.if-code-x-eq-AT_END.true c.enqueue.ensures

pub carry_left-requires : goal.carry_left-requires
carry_left-requires c =
    let a = c.args in
    let s = a.s in
    let p = c.requires in
    let kind = c.if-code-x-eq-AT_END.false in (
      p.0,
      record {
        inside = p.1.inside;
        kind = kind;
        inner = (p.1.dot kind).0;
        live = p.1.live;
        is = p.2 ∙ sym (wake-rest a.code.now a.marks.now a.notes.now s.size s.n.0 s.i.0 s.j.0 p.0.tables.shape p.0.wide p.0.stop
            a.main.now a.x.dot p.1 kind (flagged _ _ c.reached.ensures c.if-reached.true));
        some = p.3;
      },
    )

pub returns-then-reached : goal.returns-then-reached
returns-then-reached c =
    let a = c.args in
    let s = a.s in
    let p = c.requires in
    let kind = c.if-code-x-eq-AT_END.false in
    wake-carried a.code.now a.marks.now a.notes.now s.size s.n.0 s.i.0 s.j.0 p.0.tables.shape
    p.0.wide p.0.stop a.x.dot p.0.queued kind (p.1.dot kind).1 c.carry_left.ensures

pub returns-else-reached : goal.returns-else-reached
returns-else-reached c =
    let a = c.args in
    let s = a.s in
    let p = c.requires in
    wake-away a.code.now a.marks.now a.notes.now s.size s.n.0 s.i.0 s.j.0 p.0.tables.shape
    p.0.wide p.0.stop a.x.dot p.0.queued p.1 c.if-code-x-eq-AT_END.false (unflagged _ _ c.reached.ensures c.if-reached.false)
