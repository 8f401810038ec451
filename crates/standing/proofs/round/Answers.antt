use native.Mathlib.Omega.{arith}
use mathlib.Core.Path.{refl, subst}
use Prim.Native.Nat.{ℕ}
use Rattle.standing.specs.Sets.{Rounded}
use Rattle.standing.proofs.Closing.{rounded-start, rounded-next}
use Rattle.standing.proofs.round.Goals as goal

pub loop-p-init : goal.loop-p-init
loop-p-init c = (omega arith, rounded-start)

pub redo_dot-dots-requires : goal.redo_dot-dots-requires
redo_dot-dots-requires c =
    record {
      shape = c.requires.shape;
      short = c.requires.short;
      marks-long = c.requires.marks-long;
      room = c.requires.room;
      inside = c.loop-p-test.true;
    }

pub redo_rule-rules-requires : goal.redo_rule-rules-requires
redo_rule-rules-requires c =
    (c.requires.linked, c.requires.shape.small, c.loop-p-test.true)

pub loop-p-smaller : goal.loop-p-smaller
loop-p-smaller c =
    omega (arith, c.loop-p-test.true)

pub loop-p-preserved : goal.loop-p-preserved
loop-p-preserved c = (
  omega (arith, c.loop-p-test.true),
  rounded-next c.loop-p.grew c.redo_dot-dots.result c.redo_rule-rules.result c.loop-p.invariant.1 c.redo_dot-dots.ensures c.redo_rule-rules.ensures
      refl refl,
)

pub returns : goal.returns
returns c =
    subst (λ (k : ℕ). Rounded c.args.code.now c.args.firsts.now c.args.marks.now c.args.t.size c.args.t.n k
    c.args.main.now
    c.args.sets.now c.loop-p.sets c.loop-p.grew) (omega (arith, c.loop-p.invariant.0, c.loop-p-test.false)) c.loop-p.invariant.1
