use native.Mathlib.Omega.{arith}
use mathlib.Core.Path.{refl, sym, subst, ◌∙◌}
use Prim.Native.Nat.{ℕ, ◌*◌, ◌≤◌}
use Rattle.chart.specs.Heights.{stretches}
use Rattle.ends.proofs.Laws.{ground-as}
use Rattle.ends.proofs.Rounds.{exact_none, opened-sound, exact-closed, exact-empty, exact-filled}
use Rattle.ends.proofs.fill.Goals as goal

pub loop-m-init : goal.loop-m-init
loop-m-init c = (omega arith, refl, exact_none)

pub begin-requires : goal.begin-requires
begin-requires c = (
  c.requires.0.marks-long,
  c.requires.0.shape.small,
  c.requires.0.short,
  omega (arith, c.loop-m.invariant.0, c.loop-m-test.true),
  subst (λ (k : ℕ). c.args.size * stretches c.args.n ≤ k) (sym c.loop-m.invariant.1) c.requires.0.room,
)

pub settle-requires : goal.settle-requires
settle-requires c = (
  record {
    ground = ground-as (c.begin.ensures.long ∙ c.loop-m.invariant.1) c.requires.0;
    sound = opened-sound (omega (arith, c.loop-m-test.true)) c.loop-m.invariant.2 c.begin.ensures;
    on = omega (arith, c.loop-m.invariant.0, c.loop-m-test.true);
  },
  c.requires.1,
)

pub close-requires : goal.close-requires
close-requires c =
    record {
      ground = ground-as (c.settle.ensures.long ∙ c.begin.ensures.long ∙ c.loop-m.invariant.1) c.requires.0;
      sound = c.settle.ensures.sound;
      on = omega (arith, c.loop-m.invariant.0, c.loop-m-test.true);
    }

pub loop-m-smaller-then-begin : goal.loop-m-smaller-then-begin
loop-m-smaller-then-begin c =
    omega (arith, c.loop-m-test.true)

pub loop-m-preserved-then-begin : goal.loop-m-preserved-then-begin
loop-m-preserved-then-begin c = (
  omega (arith, c.loop-m.invariant.0),
  c.close.ensures.settled.long ∙ c.settle.ensures.long ∙ c.begin.ensures.long ∙ c.loop-m.invariant.1,
  exact-closed c.requires.0 (omega (arith, c.loop-m-test.true)) c.loop-m.invariant.2 c.begin.ensures c.settle.ensures c.close.ensures,
)

pub loop-m-smaller : goal.loop-m-smaller
loop-m-smaller c =
    omega (arith, c.loop-m-test.true)

pub loop-m-preserved : goal.loop-m-preserved
loop-m-preserved c = (
  omega (arith, c.loop-m.invariant.0),
  c.begin.ensures.long ∙ c.loop-m.invariant.1,
  exact-empty c.requires.0 (omega (arith, c.loop-m-test.true)) c.loop-m.invariant.2 c.begin.ensures c.if-begin.false,
)

pub shape_of-main : goal.shape_of-main
shape_of-main c = c.loop-m.invariant.1

pub returns : goal.returns
returns c = exact-filled c.loop-m.invariant.1 (omega (arith, c.loop-m-test.false)) c.loop-m.invariant.2
