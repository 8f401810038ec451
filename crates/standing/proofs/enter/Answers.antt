use native.Mathlib.Omega.{arith}
use mathlib.Core.Path.{ap}
use Prim.Native.Nat.{ℕ, ◌+◌}
use Rattle.standing.proofs.Closing.{entered-none, entered_by}
use Rattle.standing.proofs.enter.Goals as goal

pub overflow_mul-p : goal.overflow_mul-p
overflow_mul-p c = omega (arith, c.requires.inside, c.requires.shape.small)

pub offset_bounds-code-p : goal.offset_bounds-code-p
offset_bounds-code-p c = omega (arith, c.requires.inside, c.requires.shape.small)

pub bounds-code-p : goal.bounds-code-p
bounds-code-p c =
    omega (arith, c.requires.inside, c.requires.shape.room)

pub returns-then-code-p-ne-AT_SYMBOL : goal.returns-then-code-p-ne-AT_SYMBOL
returns-then-code-p-ne-AT_SYMBOL c = entered-none c.if-code-p-ne-AT_SYMBOL.true

pub overflow_mul-p-2 : goal.overflow_mul-p-2
overflow_mul-p-2 c =
    omega (arith, c.requires.inside, c.requires.shape.small)

pub overflow_add-p : goal.overflow_add-p
overflow_add-p c =
    omega (arith, c.requires.inside, c.requires.shape.small)

pub offset_bounds-code-p-2 : goal.offset_bounds-code-p-2
offset_bounds-code-p-2 c =
    omega (arith, c.requires.inside, c.requires.shape.small)

pub bounds-code-p-2 : goal.bounds-code-p-2
bounds-code-p-2 c =
    omega (arith, c.requires.inside, c.requires.shape.room)

pub overflow_add-rule : goal.overflow_add-rule
overflow_add-rule c =
    omega (arith, c.wide-rule.ensures, c.requires.shape.small, (c.requires.shape.names _ c.requires.inside c.if-code-p-ne-AT_SYMBOL.false).0)

pub join_row-requires : goal.join_row-requires
join_row-requires c =
    omega (arith, c.wide-rule.ensures, c.requires.shape.small, (c.requires.shape.names _ c.requires.inside c.if-code-p-ne-AT_SYMBOL.false).0)

pub returns : goal.returns
returns c =
    entered_by c.if-code-p-ne-AT_SYMBOL.false (ap (λ (y : ℕ). 512 + y) c.wide-rule.ensures) c.join_row.ensures
