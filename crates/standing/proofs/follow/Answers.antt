use native.Mathlib.Omega.{arith}
use mathlib.Core.Path.{refl, ◌∙◌}
use Prim.Native.Nat.{ℕ}
use lib.ListN.{length-replicate}
use Rattle.moves.proofs.Cells.{none_has}
use Rattle.standing.proofs.Laws.{moved-stood}
use Rattle.standing.proofs.follow.Goals as goal

pub overflow_add-t : goal.overflow_add-t
overflow_add-t c = omega (arith, c.requires.rule-inside)

pub take_row-requires : goal.take_row-requires
take_row-requires c = omega (arith, c.requires.rule-inside)

pub loop-cur-init : goal.loop-cur-init
loop-cur-init c = (c.requires.inside, λ L top b s a. (s, a), refl)

pub visit-requires : goal.visit-requires
visit-requires c =
    record { shape = c.requires.ground.shape; inside = c.loop-cur.invariant.0 }

pub step-requires : goal.step-requires
step-requires c = (
  record {
    shape = c.requires.ground.shape;
    short = c.requires.ground.short;
    marks-long = c.requires.ground.marks-long;
    room = c.requires.ground.room;
    inside = c.loop-cur.invariant.0;
  },
  none_has,
  length-replicate {A = ℕ} 8 0,
)

pub overflow_add-p : goal.overflow_add-p
overflow_add-p c =
    omega (arith, c.loop-cur.invariant.0, c.requires.ground.shape.small)

pub loop-cur-smaller : goal.loop-cur-smaller
loop-cur-smaller c = omega (arith, c.loop-cur.invariant.0)

pub loop-cur-preserved : goal.loop-cur-preserved
loop-cur-preserved c = (
  c.requires.ground.shape.nexts _ c.loop-cur.invariant.0 (c.visit.ensures.more c.loop-cur-test.true),
  λ L top b s a. let z = c.loop-cur.invariant.1 L top b s a in
      (c.visit.ensures.told L _ _ top z.0 z.1, λ x h y. moved-stood b (λ u l v. z.1 u l (c.visit.ensures.less u v)) x (c.step.ensures.is x y)),
  c.visit.ensures.long ∙ c.loop-cur.invariant.2,
)

pub returns : goal.returns
returns c =
    record {
      long = c.visit.ensures.long ∙ c.loop-cur.invariant.2;
      told = λ L top b o s. let z = c.loop-cur.invariant.1 L top b s (λ x h y. s.rules _ x c.requires.rule-inside
          (c.take_row.ensures.is x h y) _ o) in c.visit.ensures.told L _ _ top z.0 z.1;
    }
