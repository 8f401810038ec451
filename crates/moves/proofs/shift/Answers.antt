use native.Mathlib.Omega.{arith}
use Rattle.moves.proofs.Cells.{shifted_start, shifted_next, shifted_end}
use Rattle.moves.proofs.shift.Goals as goal

pub loop-v-init : goal.loop-v-init
loop-v-init c = shifted_start

pub shift_word-requires : goal.shift_word-requires
shift_word-requires c = (c.requires, omega (arith, c.loop-v-test.true, c.requires.short))

pub loop-v-preserved : goal.loop-v-preserved
loop-v-preserved c =
    shifted_next c.args.cur.now c.loop-v.invariant c.shift_word.ensures

pub returns : goal.returns
returns c = shifted_end c.args.cur.now (omega (arith, c.loop-v-test.false)) c.loop-v.invariant
