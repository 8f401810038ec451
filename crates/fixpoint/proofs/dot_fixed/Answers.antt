use mathlib.Core.Path.{ap}
use Prim.Native.Nat.{ℕ}
use lib.ListN.{get_or}
use Rattle.tells.proofs.Tells.{not_so}
use Rattle.fixpoint.proofs.Tests.{dot-lower, dot-none, dot-given, most-by}
use Rattle.fixpoint.proofs.dot_fixed.Goals as goal

pub returns-then-below : goal.returns-then-below
returns-then-below c =
    dot-lower _ _ _ _ _ c.requires.0.shape _ _ _ _ _ (ap (λ (z : ℕ). get_or c.args.main.now z 0) c.cell-x.ensures)
    (most-by (c.type_inv.main c.cell-x.result)) (c.below.ensures.yes c.if-below.true)

pub returns-then-height-2 : goal.returns-then-height-2
returns-then-height-2 c =
    dot-none _ _ _ _ _ c.requires.0.shape _ _ _ _ _ (ap (λ (z : ℕ). get_or c.args.main.now z 0) c.cell-x.ensures)
    (most-by (c.type_inv.main c.cell-x.result)) (not_so c.below.ensures c.if-below.false) c.if-height-2.true

pub returns : goal.returns
returns c =
    dot-given _ _ _ _ _ c.requires.0.shape _ _ _ _ _ (ap (λ (z : ℕ). get_or c.args.main.now z 0) c.cell-x.ensures)
    (most-by (c.type_inv.main c.cell-x.result)) (not_so c.below.ensures c.if-below.false) c.if-height.false c.if-height-2.false
    c.below-2.ensures
