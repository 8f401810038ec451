use native.Mathlib.Omega.{arith}
use mathlib.Core.Path.{subst}
use Prim.Native.Nat.{ℕ}
use Rattle.moves.specs.Moves.{Gathered}
use Rattle.moves.proofs.Cells.{gathered_none, gathered_next}
use Rattle.moves.proofs.gather.Goals as goal

pub loop-b-init : goal.loop-b-init
loop-b-init c = (omega arith, gathered_none)

pub loop-b-preserved : goal.loop-b-preserved
loop-b-preserved c = (omega (arith, c.loop-b-test.true), gathered_next c.loop-b.invariant.1 c.join_by-acc.ensures)

pub returns : goal.returns
returns c = subst (λ (k : ℕ). Gathered c.args.main.now c.args.at c.args.on.now k
    c.loop-b.acc) (omega (arith, c.loop-b.invariant.0, c.loop-b-test.false)) c.loop-b.invariant.1
