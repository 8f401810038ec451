use native.Mathlib.Omega.{arith}
use mathlib.Core.Path.{refl, sym, subst}
use Prim.Native.Nat.{ℕ, ◌*◌, ◌≤◌}
use Rattle.chart.specs.Heights.{stretches}
use Rattle.ends.specs.Table.{Opened}
use Rattle.moves.proofs.Cells.{row_of}
use Rattle.ends.proofs.Laws.{opened-start, opened-join}
use Rattle.ends.proofs.begin.Goals as goal

pub loop-rule-init : goal.loop-rule-init
loop-rule-init c = (omega arith, opened-start)

pub begin_at-one-requires : goal.begin_at-one-requires
begin_at-one-requires c =
    record {
      row = row_of c.requires.1 c.loop-rule-test.true c.requires.2
          (subst (λ (k : ℕ). c.args.s.size * stretches c.args.s.n ≤ k) (sym c.loop-rule.invariant.1.long) c.requires.4);
      long = c.requires.0;
      on = c.requires.3;
    }

pub loop-rule-smaller : goal.loop-rule-smaller
loop-rule-smaller c =
    omega (arith, c.loop-rule-test.true)

pub loop-rule-preserved : goal.loop-rule-preserved
loop-rule-preserved c =
    (omega (arith, c.loop-rule-test.true), opened-join c.loop-rule.some c.begin_at-one.result c.loop-rule.invariant.1 c.begin_at-one.ensures refl)

pub shape_of-main : goal.shape_of-main
shape_of-main c = c.loop-rule.invariant.1.long

pub returns : goal.returns
returns c =
    subst (λ (k : ℕ). Opened c.args.marks.now c.args.s.size c.args.s.n c.args.s.m 0 k c.args.main.now c.loop-rule.main c.loop-rule.some)
    (omega (arith, c.loop-rule.invariant.0, c.loop-rule-test.false)) c.loop-rule.invariant.1
