use native.Mathlib.Omega.{arith}
use Rattle.reader.proofs.PrologParts.{spelled-end, spelled-no, spelled-on}
use Rattle.reader.proofs.prolog.word.Goals as goal

pub returns-then-peek-b : goal.returns-then-peek-b
returns-then-peek-b c =
    spelled-no c.args.w.now c.args.text.now c.args.p.0 c.loop-b.at.0 c.loop-b.b-index c.loop-b.invariant c.loop-b-test.true _ c.peek.ensures c.if-peek-b.true

pub loop-b-preserved : goal.loop-b-preserved
loop-b-preserved c =
    rw c.after-at.ensures
    (spelled-on c.args.w.now c.args.text.now c.args.p.0 c.loop-b.at.0 c.loop-b.b-index c.loop-b.invariant c.loop-b-test.true _ c.peek.ensures
    c.if-peek-b.false (omega (arith, c.type_inv.w c.loop-b.b-index)))

pub returns : goal.returns
returns c = spelled-end c.args.w.now c.args.text.now c.args.p.0 c.loop-b.at.0 c.loop-b.b-index c.loop-b.invariant c.loop-b-test.false
