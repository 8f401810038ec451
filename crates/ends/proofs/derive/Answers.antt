use native.Mathlib.Omega.{arith}
use mathlib.Core.Path.{refl}
use Rattle.ends.proofs.Reach.{link_here, link-less, link-next}
use Rattle.ends.proofs.Laws.{ground-as}
use Rattle.ends.proofs.Rounds.{trials-start, trials-next, trials-end}
use Rattle.ends.proofs.derive.Goals as goal

pub overflow_mul-rule : goal.overflow_mul-rule
overflow_mul-rule c = omega (arith, c.requires.1, c.requires.0.ground.shape.small)

pub offset_bounds-firsts-rule : goal.offset_bounds-firsts-rule
offset_bounds-firsts-rule c = omega (arith, c.requires.1, c.requires.0.ground.shape.small)

pub bounds-firsts-rule : goal.bounds-firsts-rule
bounds-firsts-rule c = omega (arith, c.requires.1, c.requires.0.ground.linked.room)

pub loop-x-init : goal.loop-x-init
loop-x-init c =
    rw c.wide-x.ensures (c.requires.0.ground.linked.last _ c.requires.1, λ u z. z, trials-start refl c.requires.0)

pub overflow_sub-x : goal.overflow_sub-x
overflow_sub-x c = omega (arith, c.loop-x-test.true)

pub alternative-more-requires : goal.alternative-more-requires
alternative-more-requires c =
    record {
      lists = c.args.firsts.now;
      ground = ground-as c.loop-x.invariant.2.settled.long c.requires.0.ground;
      sound = c.loop-x.invariant.2.settled.sound;
      listed = link_here c.requires.0.ground.linked c.requires.1 c.loop-x-test.true c.loop-x.invariant.1;
      on = c.requires.0.on;
      inside = c.requires.1;
      begins = c.requires.2;
    }

pub overflow_mul-x : goal.overflow_mul-x
overflow_mul-x c =
    omega (arith, c.loop-x.invariant.0, c.requires.0.ground.shape.small)

pub overflow_sub-x-in-loop-x : goal.overflow_sub-x-in-loop-x
overflow_sub-x-in-loop-x c = omega (arith, c.loop-x-test.true)

pub offset_bounds-firsts-x : goal.offset_bounds-firsts-x
offset_bounds-firsts-x c =
    omega (arith, c.loop-x.invariant.0, c.requires.0.ground.shape.small)

pub bounds-firsts-x : goal.bounds-firsts-x
bounds-firsts-x c =
    omega (arith, c.loop-x.invariant.0, c.loop-x-test.true, c.requires.0.ground.linked.room)

pub loop-x-smaller : goal.loop-x-smaller
loop-x-smaller c =
    omega (arith, c.wide-x-in-loop-x.ensures, link-less c.requires.0.ground.linked c.requires.1 c.loop-x-test.true c.loop-x.invariant.1)

pub loop-x-preserved : goal.loop-x-preserved
loop-x-preserved c =
    rw c.wide-x-in-loop-x.ensures (
      omega (arith, c.loop-x.invariant.0, link-less c.requires.0.ground.linked c.requires.1 c.loop-x-test.true c.loop-x.invariant.1),
      link-next c.requires.0.ground.linked c.requires.1 c.loop-x-test.true c.loop-x.invariant.1,
      trials-next c.loop-x.grew c.alternative-more.result c.requires.0.ground
          (link_here c.requires.0.ground.linked c.requires.1 c.loop-x-test.true c.loop-x.invariant.1) c.loop-x-test.true refl c.loop-x.invariant.2
          c.alternative-more.ensures refl,
    )

pub shape_of-main : goal.shape_of-main
shape_of-main c = c.loop-x.invariant.2.settled.long

pub returns : goal.returns
returns c = trials-end (omega (arith, c.loop-x-test.false)) c.loop-x.invariant.2
