use native.Mathlib.Omega.{arith}
use Prim.Native.Nat.{ℕ}
use lib.ListN.{length-replicate}
use Rattle.moves.proofs.Cells.{none_has}
use Rattle.standing.proofs.Closing.{advanced-none, advanced-by}
use Rattle.standing.proofs.advance.Goals as goal

pub overflow_mul-p : goal.overflow_mul-p
overflow_mul-p c =
    omega (arith, c.requires.inside, c.requires.shape.small)

pub offset_bounds-code-p : goal.offset_bounds-code-p
offset_bounds-code-p c =
    omega (arith, c.requires.inside, c.requires.shape.small)

pub bounds-code-p : goal.bounds-code-p
bounds-code-p c =
    omega (arith, c.requires.inside, c.requires.shape.room)

pub returns-then-code-p-eq-AT_END : goal.returns-then-code-p-eq-AT_END
returns-then-code-p-eq-AT_END c = advanced-none c.if-code-p-eq-AT_END.true

pub step-requires : goal.step-requires
step-requires c =
    (c.requires, none_has, length-replicate {A = ℕ} 8 0)

pub overflow_add-p : goal.overflow_add-p
overflow_add-p c =
    omega (arith, c.requires.inside, c.requires.shape.small)

pub join_row-requires : goal.join_row-requires
join_row-requires c =
    omega (arith, c.requires.inside, c.requires.shape.small)

pub returns : goal.returns
returns c =
    advanced-by c.requires.short (omega (arith, c.requires.shape.nexts _ c.requires.inside c.if-code-p-eq-AT_END.false, c.requires.shape.small)) c.step.ensures c.join_row.ensures
