use native.Mathlib.Omega.{arith}
use Rattle.fault.proofs.Keys.{tells-end, tells-other, tells-terminal}
use Rattle.fault.proofs.finishes.Goals as goal

pub overflow_mul-kind : goal.overflow_mul-kind
overflow_mul-kind c = omega (arith, c.requires.0.long, c.requires.0.shape.small, c.requires.0.shape.room, c.requires.1)

pub offset_bounds-code-p : goal.offset_bounds-code-p
offset_bounds-code-p c = omega (arith, c.requires.0.long, c.requires.0.shape.small, c.requires.0.shape.room, c.requires.1)

pub bounds-code-p : goal.bounds-code-p
bounds-code-p c =
    omega (arith, c.requires.0.long, c.requires.0.shape.small, c.requires.0.shape.room, c.requires.1)

pub returns-then-kind-eq-AT_END : goal.returns-then-kind-eq-AT_END
returns-then-kind-eq-AT_END c = tells-end c.if-kind-eq-AT_END.true

pub returns-then-kind-ne-AT_TERMINAL : goal.returns-then-kind-ne-AT_TERMINAL
returns-then-kind-ne-AT_TERMINAL c = tells-other c.if-kind-eq-AT_END.false c.if-kind-ne-AT_TERMINAL.true (c.requires.2 c.if-kind-eq-AT_END.false)

pub overflow_mul-p : goal.overflow_mul-p
overflow_mul-p c =
    omega (arith, c.requires.0.long, c.requires.0.shape.small, c.requires.0.shape.room, c.requires.1)

pub overflow_add-p : goal.overflow_add-p
overflow_add-p c =
    omega (arith, c.requires.0.long, c.requires.0.shape.small, c.requires.0.shape.room, c.requires.1)

pub offset_bounds-table-p : goal.offset_bounds-table-p
offset_bounds-table-p c =
    omega (arith, c.requires.0.long, c.requires.0.shape.small, c.requires.0.shape.room, c.requires.1)

pub bounds-table-p : goal.bounds-table-p
bounds-table-p c =
    omega (arith, c.requires.0.long, c.requires.0.shape.small, c.requires.0.shape.room, c.requires.1)

pub is_live-requires : goal.is_live-requires
is_live-requires c =
    record { small = omega (arith, c.requires.0.long); here = rw c.wide-token.ensures (c.requires.0.here c.args.p c.requires.1 c.if-kind-ne-AT_TERMINAL.false) }

pub returns : goal.returns
returns c =
    tells-terminal c.if-kind-ne-AT_TERMINAL.false (λ y v. c.is_live.ensures y (rw c.wide-token.ensures v.1)) c.both.ensures (c.requires.2 c.if-kind-eq-AT_END.false)
