use mathlib.Core.Path.{refl}
use Rattle.encode.specs.Out.{state, puts}
use Rattle.encode.proofs.Puts.{puts-on}
use Rattle.encode.proofs.put_all.Goals as goal

pub loop-b-init : goal.loop-b-init
unfolding puts
loop-b-init c = refl

pub loop-b-preserved : goal.loop-b-preserved
loop-b-preserved c =
    let args = c.args in
    puts-on args.limit.0 (state args.pos.0 args.out.now) args.s.now c.loop-b.b-index c.loop-b-test.true c.loop-b.invariant c.put-at.ensures
