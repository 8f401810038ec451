use Rattle.state.proofs.Cells.{upto_next, bytes-differ, bytes-all}
use native.Mathlib.Omega.{arith}
use Rattle.state.proofs.bytes_at.Goals as goal

pub loop-i-init : goal.loop-i-init
loop-i-init c = (omega arith, λ j l. absurd (omega arith))

pub overflow_add-at : goal.overflow_add-at
overflow_add-at c =
    omega (arith, c.loop-i-test.true, c.requires.0, c.requires.1)

pub offset_bounds-state-at : goal.offset_bounds-state-at
offset_bounds-state-at c =
    omega (arith, c.loop-i-test.true, c.requires.0, c.requires.1)

pub bounds-state-at : goal.bounds-state-at
bounds-state-at c =
    omega (arith, c.loop-i-test.true, c.requires.0)

pub returns-then-state-at : goal.returns-then-state-at
returns-then-state-at c =
    bytes-differ c.args.state.now c.args.bytes.now c.args.at c.loop-i.i c.wide_byte.result c.loop-i-test.true
    c.wide_byte.ensures c.if-state-at.true

pub loop-i-smaller : goal.loop-i-smaller
loop-i-smaller c =
    omega (arith, c.loop-i-test.true)

pub loop-i-preserved : goal.loop-i-preserved
loop-i-preserved c = (
  omega (arith, c.loop-i-test.true),
  upto_next c.args.state.now c.args.bytes.now c.args.at c.loop-i.i c.wide_byte.result
      c.loop-i.invariant.1 c.wide_byte.ensures c.if-state-at.false,
)

pub returns : goal.returns
returns c =
    bytes-all c.args.state.now c.args.bytes.now c.args.at c.loop-i.i (omega (arith, c.loop-i-test.false)) c.loop-i.invariant.1
