use native.Mathlib.Omega.{arith}
use Rattle.moves.proofs.Cells.{passed_start, passed-next, passed-end}
use Rattle.moves.proofs.pass.Goals as goal

pub loop-v-init : goal.loop-v-init
loop-v-init c = passed_start

pub add_word-requires : goal.add_word-requires
add_word-requires c = (c.requires, (omega (arith, c.loop-v-test.true)))

pub loop-v-preserved : goal.loop-v-preserved
loop-v-preserved c =
    passed-next c.args.cur.now c.loop-v.invariant c.add_word.ensures

pub returns : goal.returns
returns c = passed-end c.args.cur.now (omega (arith, c.loop-v-test.false)) c.loop-v.invariant
