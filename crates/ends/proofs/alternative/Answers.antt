use native.Mathlib.Omega.{arith}
use mathlib.Core.Path.{refl, sym, subst}
use mathlib.Core.Logic.{⊎_elim}
use Prim.Native.Nat.{ℕ}
use lib.ListN.{length-replicate}
use Rattle.ends.specs.Spans.{Steps}
use Rattle.ends.proofs.Reach.{list_inside}
use Rattle.moves.proofs.Cells.{row_of, none_has}
use Rattle.ends.proofs.Laws.{moved-steps}
use Rattle.ends.proofs.Rounds.{leads-start, leads-step, tried-nowhere, tried-none, tried-end}
use Rattle.ends.proofs.alternative.Goals as goal

pub lead-spot-requires : goal.lead-spot-requires
lead-spot-requires c =
    record {
      shape = c.requires.ground.shape;
      short = c.requires.ground.short;
      marks-long = c.requires.ground.marks-long;
      on = c.requires.on;
      inside = list_inside c.requires.ground.linked c.requires.inside _ c.requires.listed;
    }

pub returns-then-n-x : goal.returns-then-n-x
returns-then-n-x c = tried-nowhere c.lead-spot.ensures c.if-n-x.true

pub put-requires : goal.put-requires
put-requires c =
    omega (arith, c.if-n-x.false, c.requires.ground.short)

pub loop-p-init : goal.loop-p-init
loop-p-init c = (
  c.lead-spot.ensures.inside,
  λ L g o s x h. ⊎_elim (λ z. absurd (none_has x z))
      (λ e. subst (λ (y : ℕ). Steps c.args.code.now L c.args.marks.now c.args.s.n c.args.q c.args.s.m c.lead-spot.result.p y) (sym e)
      (c.lead-spot.ensures.steps c.if-n-x.false L)) (c.put.ensures.is x h),
  leads-start c.lead-spot.ensures (c.put.ensures.all (length-replicate {A = ℕ} 8 0) _ refl),
)

pub bounds-code-p : goal.bounds-code-p
bounds-code-p c =
    omega (arith, c.loop-p.invariant.0, c.requires.ground.shape.room)

pub step-requires : goal.step-requires
step-requires c = (
  record {
    shape = c.requires.ground.shape;
    short = c.requires.ground.short;
    marks-long = c.requires.ground.marks-long;
    room = c.requires.ground.room;
    inside = c.loop-p.invariant.0;
  },
  none_has,
  length-replicate {A = ℕ} 8 0,
)

pub shape_of-main-then-none : goal.shape_of-main-then-none
shape_of-main-then-none c = refl

pub returns-then-none : goal.returns-then-none
returns-then-none c =
    tried-none c.requires (c.loop-p.invariant.1 c.requires.lists c.requires.ground c.requires.listed c.requires.sound) c.loop-p-test.true c.step.ensures
    (c.none.ensures c.if-none.true) c.loop-p.invariant.2

pub loop-p-smaller : goal.loop-p-smaller
loop-p-smaller c =
    omega (arith, c.loop-p.invariant.0)

pub loop-p-preserved : goal.loop-p-preserved
loop-p-preserved c = (
  c.requires.ground.shape.nexts _ c.loop-p.invariant.0 c.loop-p-test.true,
  λ L g o s x h. moved-steps g c.requires.on c.requires.inside o c.requires.begins s
      (c.loop-p.invariant.1 L g o s) x (c.step.ensures.is x h),
  leads-step c.loop-p-test.true c.step.ensures c.loop-p.invariant.2,
)

pub finish-requires : goal.finish-requires
finish-requires c =
    (row_of c.requires.ground.shape.small c.requires.inside c.requires.ground.short c.requires.ground.room, c.requires.on)

pub shape_of-main : goal.shape_of-main
shape_of-main c = c.finish.ensures.long

pub returns : goal.returns
returns c =
    tried-end c.requires c.loop-p.invariant.1 c.loop-p-test.false c.finish.ensures c.loop-p.invariant.2
