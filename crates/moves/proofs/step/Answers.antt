use native.Mathlib.Omega.{arith}
use Rattle.moves.proofs.Cells.{row_of, stepped-terminal, stepped-symbol, stepped-end}
use Rattle.moves.proofs.step.Goals as goal

pub bounds-code-p : goal.bounds-code-p
bounds-code-p c = omega (arith, c.requires.0.inside, c.requires.0.shape.room)

pub bounds-code-p-then-kind-eq-AT_TERMINAL : goal.bounds-code-p-then-kind-eq-AT_TERMINAL
bounds-code-p-then-kind-eq-AT_TERMINAL c = omega (arith, c.requires.0.inside, c.requires.0.shape.room)

pub shift-requires : goal.shift-requires
shift-requires c =
    record { long = c.requires.0.marks-long; small = omega (arith, c.requires.0.inside, c.requires.0.shape.small); short = c.requires.0.short }

pub returns-then-kind-eq-AT_TERMINAL : goal.returns-then-kind-eq-AT_TERMINAL
returns-then-kind-eq-AT_TERMINAL c =
    stepped-terminal c.requires.2 c.requires.1 c.if-kind-eq-AT_TERMINAL.true c.wide-width.ensures c.shift.ensures

pub bounds-code-p-then-kind-eq-AT_SYMBOL : goal.bounds-code-p-then-kind-eq-AT_SYMBOL
bounds-code-p-then-kind-eq-AT_SYMBOL c =
    omega (arith, c.requires.0.inside, c.requires.0.shape.room)

pub pass-requires : goal.pass-requires
pass-requires c =
    rw c.wide-rule.ensures (row_of c.requires.0.shape.small (c.requires.0.shape.names _ c.requires.0.inside c.if-kind-eq-AT_SYMBOL.true).0 c.requires.0.short
    c.requires.0.room)

pub returns-then-kind-eq-AT_SYMBOL : goal.returns-then-kind-eq-AT_SYMBOL
returns-then-kind-eq-AT_SYMBOL c =
    stepped-symbol c.requires.2 c.requires.1 c.if-kind-eq-AT_SYMBOL.true c.wide-rule.ensures c.pass.ensures

pub returns-else-kind-eq-AT_SYMBOL : goal.returns-else-kind-eq-AT_SYMBOL
returns-else-kind-eq-AT_SYMBOL c =
    stepped-end c.requires.2 c.requires.1 c.if-kind-eq-AT_TERMINAL.false c.if-kind-eq-AT_SYMBOL.false
