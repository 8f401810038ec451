use mathlib.Core.Path.{refl}
use native.Mathlib.Omega.{arith}
use Rattle.cursor.specs.Events.{s-text, s-close, s-end}
use Rattle.cursor.proofs.Laws.{none_above, above-none, decide-zero}
use Rattle.cursor.proofs.Steps.{ahead_small, ahead-kind, ahead-enters, ahead-leaves}
use Rattle.cursor.proofs.Turns.{turn-empty, turn-into, turn-out, came-begin, came-on, came-settled, came-some}
use Rattle.cursor.proofs.pass.Goals as goal

pub loop-p-init : goal.loop-p-init
loop-p-init c = (refl, c.requires, came-begin)

pub shape_of-scratch-then-p-gt0 : goal.shape_of-scratch-then-p-gt0
shape_of-scratch-then-p-gt0 c = c.loop-p.invariant.0

pub returns-then-p-gt0 : goal.returns-then-p-gt0
returns-then-p-gt0 c =
    came-settled c.loop-p.invariant.2 (s-text (c.kind_in-k.ensures.text c.if-k-eq-TERMINAL.true) _
    (rw c.token_at.ensures.0 at c.piece_of-p.ensures) (above-none c.if-p-gt0.true))

pub skip-n-requires : goal.skip-n-requires
skip-n-requires c = ahead_small c.loop-p.invariant.1.ahead

pub loop-p-smaller-then-k-eq-TERMINAL : goal.loop-p-smaller-then-k-eq-TERMINAL
loop-p-smaller-then-k-eq-TERMINAL c =
    (turn-empty c.loop-p.invariant.1 (c.kind_in-k.ensures.text c.if-k-eq-TERMINAL.true)
    (rw c.token_at.ensures.0 at c.piece_of-p.ensures) (none_above c.if-p-gt0.false)
    c.skip-n.ensures).falls

pub loop-p-preserved-then-k-eq-TERMINAL : goal.loop-p-preserved-then-k-eq-TERMINAL
loop-p-preserved-then-k-eq-TERMINAL c =
    let M = turn-empty c.loop-p.invariant.1 (c.kind_in-k.ensures.text c.if-k-eq-TERMINAL.true)
    (rw c.token_at.ensures.0 at c.piece_of-p.ensures) (none_above c.if-p-gt0.false)
    c.skip-n.ensures in
    (c.loop-p.invariant.0, came-some c.loop-p.invariant.1 M, came-on c.loop-p.invariant.2 M)

pub enter-n-requires : goal.enter-n-requires
enter-n-requires c =
    let n = c.kind_in-k.ensures.into c.if-k-eq-DELETED.true in
    ahead-enters c.loop-p.invariant.1.ahead n.0 n.1

pub loop-p-smaller-then-k-eq-DELETED : goal.loop-p-smaller-then-k-eq-DELETED
loop-p-smaller-then-k-eq-DELETED c =
    let n = c.kind_in-k.ensures.into c.if-k-eq-DELETED.true in
    (turn-into c.loop-p.invariant.1 n.0 n.1 n.2 c.enter-n.ensures).falls

pub loop-p-preserved-then-k-eq-DELETED : goal.loop-p-preserved-then-k-eq-DELETED
loop-p-preserved-then-k-eq-DELETED c =
    let n = c.kind_in-k.ensures.into c.if-k-eq-DELETED.true in
    let M = turn-into c.loop-p.invariant.1 n.0 n.1 n.2 c.enter-n.ensures in
    (omega (arith, c.loop-p.invariant.0), came-some c.loop-p.invariant.1 M, came-on c.loop-p.invariant.2 M)

pub shape_of-scratch-then-h-eq0 : goal.shape_of-scratch-then-h-eq0
shape_of-scratch-then-h-eq0 c = c.loop-p.invariant.0

pub returns-then-h-eq0 : goal.returns-then-h-eq0
returns-then-h-eq0 c =
    came-settled c.loop-p.invariant.2 (s-end (c.kind_in-k.ensures.ends c.if-k-eq-TERMINAL.false c.if-k-eq-ATTRIBUTE.false.0
    c.if-k-eq-ATTRIBUTE.false.1 c.if-k-eq-DELETED.false (ahead-kind c.loop-p.invariant.1.ahead)) c.if-h-eq0.true)

pub shape_of-scratch-then-closes : goal.shape_of-scratch-then-closes
shape_of-scratch-then-closes c = c.loop-p.invariant.0

pub returns-then-closes : goal.returns-then-closes
returns-then-closes c =
    let five = c.kind_in-k.ensures.ends c.if-k-eq-TERMINAL.false c.if-k-eq-ATTRIBUTE.false.0 c.if-k-eq-ATTRIBUTE.false.1 c.if-k-eq-DELETED.false (ahead-kind c.loop-p.invariant.1.ahead) in
    came-settled c.loop-p.invariant.2 (s-close five (decide-zero _ c.if-h-eq0.false) _ c.note_at-item.ensures (c.closes.ensures.yes c.if-closes.true))

pub leave-n-requires : goal.leave-n-requires
leave-n-requires c =
    ahead-leaves c.loop-p.invariant.1.ahead (decide-zero _ c.if-h-eq0.false)

pub loop-p-smaller : goal.loop-p-smaller
loop-p-smaller c =
    let five = c.kind_in-k.ensures.ends c.if-k-eq-TERMINAL.false c.if-k-eq-ATTRIBUTE.false.0 c.if-k-eq-ATTRIBUTE.false.1 c.if-k-eq-DELETED.false (ahead-kind c.loop-p.invariant.1.ahead) in
    let n = c.closes.ensures.no c.if-closes.false in
    (turn-out c.loop-p.invariant.1 five (decide-zero _ c.if-h-eq0.false) c.leave-n.ensures c.note_at-item.ensures n.0 n.1).falls

pub loop-p-preserved : goal.loop-p-preserved
loop-p-preserved c =
    let five = c.kind_in-k.ensures.ends c.if-k-eq-TERMINAL.false c.if-k-eq-ATTRIBUTE.false.0 c.if-k-eq-ATTRIBUTE.false.1 c.if-k-eq-DELETED.false (ahead-kind c.loop-p.invariant.1.ahead) in
    let n = c.closes.ensures.no c.if-closes.false in
    let M = turn-out c.loop-p.invariant.1 five (decide-zero _ c.if-h-eq0.false) c.leave-n.ensures c.note_at-item.ensures n.0 n.1 in
    (omega (arith, c.loop-p.invariant.0), came-some c.loop-p.invariant.1 M, came-on c.loop-p.invariant.2 M)
