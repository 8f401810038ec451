use native.Mathlib.Omega.{arith}
use Rattle.fault.proofs.Alike.{agrees-end, agrees-over, agrees-by}
use Rattle.fault.proofs.agrees.Goals as goal

pub returns-then-count-k : goal.returns-then-count-k
returns-then-count-k c = agrees-end c.if-count-k.true

pub overflow_add-i : goal.overflow_add-i
overflow_add-i c = omega (arith, c.requires.0.small, c.requires.0.inside, c.requires.0.short, c.requires.0.on, c.requires.1, c.requires.2, c.if-count-k.false)

pub returns-then-text-i : goal.returns-then-text-i
returns-then-text-i c = agrees-over c.if-text-i.true

pub overflow_add-result : goal.overflow_add-result
overflow_add-result c =
    omega (arith, c.requires.0.small, c.requires.0.inside, c.requires.0.short, c.requires.0.on, c.requires.1, c.requires.2, c.if-count-k.false, c.if-text-i.false)

pub offset_bounds-table-at : goal.offset_bounds-table-at
offset_bounds-table-at c =
    omega (arith, c.requires.0.small, c.requires.0.inside, c.requires.0.short, c.requires.0.on, c.requires.1, c.requires.2, c.if-count-k.false, c.if-text-i.false)

pub bounds-table-at : goal.bounds-table-at
bounds-table-at c =
    omega (arith, c.requires.0.small, c.requires.0.inside, c.requires.0.short, c.requires.0.on, c.requires.1, c.requires.2, c.if-count-k.false, c.if-text-i.false)

pub overflow_add-result-2 : goal.overflow_add-result-2
overflow_add-result-2 c =
    omega (arith, c.requires.0.small, c.requires.0.inside, c.requires.0.short, c.requires.0.on, c.requires.1, c.requires.2, c.if-count-k.false, c.if-text-i.false)

pub offset_bounds-text-i : goal.offset_bounds-text-i
offset_bounds-text-i c =
    omega (arith, c.requires.0.small, c.requires.0.inside, c.requires.0.short, c.requires.0.on, c.requires.1, c.requires.2, c.if-count-k.false, c.if-text-i.false)

pub bounds-text-i : goal.bounds-text-i
bounds-text-i c =
    omega (
      arith,
      c.requires.0.small,
      c.requires.0.inside,
      c.requires.0.short,
      c.requires.0.on,
      c.requires.1,
      c.requires.2,
      c.if-count-k.false,
      c.if-text-i.false,
    )

pub returns : goal.returns
returns c = agrees-by c.if-count-k.false c.if-text-i.false
