use mathlib.Core.Path.{refl}
use native.Mathlib.Omega.{arith}
use Prim.Native.Nat.{ℕ}
use lib.ListN.{length-replicate}
use Rattle.standing.proofs.Closing.{redot-none, redot-by}
use Rattle.standing.proofs.redo_dot.Goals as goal

pub take_row-requires : goal.take_row-requires
take_row-requires c =
    omega (arith, c.requires.inside, c.requires.shape.small)

pub returns-then-none : goal.returns-then-none
returns-then-none c =
    redot-none (length-replicate {A = ℕ} 8 0) c.take_row.ensures (c.none.ensures c.if-none.true)

pub enter-entered-requires : goal.enter-entered-requires
enter-entered-requires c =
    record { shape = c.requires.shape; inside = c.requires.inside }

pub advance-moved-requires : goal.advance-moved-requires
advance-moved-requires c =
    c.requires

pub returns : goal.returns
returns c =
    redot-by c.enter-entered.result c.advance-moved.result (omega (arith, c.requires.inside, c.requires.shape.small))
    (length-replicate {A = ℕ} 8 0) c.take_row.ensures c.enter-entered.ensures c.advance-moved.ensures refl
