use native.Mathlib.Omega.{arith}
use lib.ListN.{length-set}
use Rattle.judge.proofs.Turns.{turn-begin, turn_on, turn-falls, walked-stuck, walked-list, walked-record, walked_whole}
use Rattle.judge.proofs.walk.Goals as goal

pub loop-scratch-init : goal.loop-scratch-init
loop-scratch-init c = turn-begin c.requires.1

pub more-requires : goal.more-requires
more-requires c = tt

pub step-requires : goal.step-requires
step-requires c = (c.more.ensures.0 c.loop-scratch-test.true, c.loop-scratch.invariant.some)

pub shape_of-scratch-in_default : goal.shape_of-scratch-in_default
shape_of-scratch-in_default c = omega (arith, c.loop-scratch.invariant.long, c.step.auto.scratch)

pub returns-in_default : goal.returns-in_default
returns-in_default c = walked-stuck c.loop-scratch.invariant c.step.ensures c.in_default.is

pub loop-scratch-smaller : goal.loop-scratch-smaller
loop-scratch-smaller c =
    (turn-falls c.loop-scratch.invariant c.step.ensures c.in-Some.is).falls

pub loop-scratch-preserved : goal.loop-scratch-preserved
loop-scratch-preserved c =
    turn_on c.loop-scratch.invariant c.step.ensures c.in-Some.is (omega (arith, c.step.auto.scratch))

pub shape_of-scratch-then-list-h : goal.shape_of-scratch-then-list-h
shape_of-scratch-then-list-h c = c.loop-scratch.invariant.long

pub returns-then-list-h : goal.returns-then-list-h
returns-then-list-h c = walked-list c.loop-scratch.invariant (c.more.ensures.1 c.loop-scratch-test.false) c.if-list-h.true

pub shape_of-scratch-then-end-record : goal.shape_of-scratch-then-end-record
shape_of-scratch-then-end-record c = c.loop-scratch.invariant.long

pub returns-then-end-record : goal.returns-then-end-record
returns-then-end-record c =
    walked-record c.loop-scratch.invariant (c.more.ensures.1 c.loop-scratch-test.false) c.if-end-record.true

pub bounds-scratch-0 : goal.bounds-scratch-0
bounds-scratch-0 c =
    omega (
      arith,
      c.loop-scratch.invariant.some.lent.room,
      c.requires.0,
    )

pub bounds-scratch-1 : goal.bounds-scratch-1
bounds-scratch-1 c =
    simp length-set (omega (
      arith,
      c.loop-scratch.invariant.some.lent.room,
      c.requires.0,
    ))

pub shape_of-scratch : goal.shape_of-scratch
shape_of-scratch c = simp length-set c.loop-scratch.invariant.long

pub returns : goal.returns
returns c =
    walked_whole c.loop-scratch.invariant (c.more.ensures.1 c.loop-scratch-test.false) c.if-list-h.false c.if-end-record.false
