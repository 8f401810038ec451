use native.Mathlib.Omega.{arith}
use Rattle.ends.proofs.Reach.{list_inside, link_here, link-less, link-next}
use Rattle.standing.proofs.Laws.{ran-start, ran-one}
use Rattle.standing.proofs.follow_all.Goals as goal

pub overflow_mul-rule : goal.overflow_mul-rule
overflow_mul-rule c = omega (arith, c.requires.1, c.requires.0.shape.small)

pub offset_bounds-firsts-rule : goal.offset_bounds-firsts-rule
offset_bounds-firsts-rule c = omega (arith, c.requires.1, c.requires.0.shape.small)

pub bounds-firsts-rule : goal.bounds-firsts-rule
bounds-firsts-rule c = omega (arith, c.requires.1, c.requires.0.linked.room)

pub loop-x-init : goal.loop-x-init
loop-x-init c =
    rw c.wide-x.ensures (c.requires.0.linked.last _ c.requires.1, λ u z. z, ran-start)

pub overflow_sub-x : goal.overflow_sub-x
overflow_sub-x c = omega (arith, c.loop-x-test.true)

pub follow-requires : goal.follow-requires
follow-requires c =
    record {
      lists = c.args.firsts.now;
      ground = c.requires.0;
      inside = list_inside c.requires.0.linked c.requires.1 _ (link_here c.requires.0.linked c.requires.1 c.loop-x-test.true c.loop-x.invariant.1);
      rule-inside = omega (arith, c.requires.1, c.requires.0.shape.small);
    }

pub overflow_mul-x : goal.overflow_mul-x
overflow_mul-x c =
    omega (arith, c.loop-x.invariant.0, c.requires.0.shape.small)

pub overflow_sub-x-in-loop-x : goal.overflow_sub-x-in-loop-x
overflow_sub-x-in-loop-x c = omega (arith, c.loop-x-test.true)

pub offset_bounds-firsts-x : goal.offset_bounds-firsts-x
offset_bounds-firsts-x c =
    omega (arith, c.loop-x.invariant.0, c.requires.0.shape.small)

pub bounds-firsts-x : goal.bounds-firsts-x
bounds-firsts-x c =
    omega (arith, c.loop-x.invariant.0, c.loop-x-test.true, c.requires.0.linked.room)

pub loop-x-smaller : goal.loop-x-smaller
loop-x-smaller c =
    omega (arith, c.wide-x-in-loop-x.ensures, link-less c.requires.0.linked c.requires.1 c.loop-x-test.true c.loop-x.invariant.1)

pub loop-x-preserved : goal.loop-x-preserved
loop-x-preserved c =
    rw c.wide-x-in-loop-x.ensures (
      omega (arith, c.loop-x.invariant.0, link-less c.requires.0.linked c.requires.1 c.loop-x-test.true c.loop-x.invariant.1),
      link-next c.requires.0.linked c.requires.1 c.loop-x-test.true c.loop-x.invariant.1,
      ran-one (link_here c.requires.0.linked c.requires.1 c.loop-x-test.true c.loop-x.invariant.1) c.loop-x.invariant.2 c.follow.ensures,
    )

pub returns : goal.returns
returns c = c.loop-x.invariant.2
