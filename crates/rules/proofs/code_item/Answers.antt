use mathlib.Core.Path.{refl, ◌∙◌, ap}
use Prim.Native.Nat.{ℕ, ◌-◌}
use Rattle.chart.specs.Code.{owner_at}
use Rattle.rules.proofs.Arrays.{item-terminal, item-symbol, item-end, item-last}
use Rattle.rules.proofs.code_item.Goals as goal

pub returns-then-kind-eq-TERMINAL : goal.returns-then-kind-eq-TERMINAL
returns-then-kind-eq-TERMINAL c =
    item-terminal c.args.table.now c.put_item.ensures c.if-kind-eq-TERMINAL.true (rw (← c.wide-token.ensures) c.terminal_width-width.ensures.0)

pub returns-then-kind-lt-ALTERNATIVE_END : goal.returns-then-kind-lt-ALTERNATIVE_END
returns-then-kind-lt-ALTERNATIVE_END c =
    item-symbol c.args.table.now c.put_item-then-kind-lt-ALTERNATIVE_END.ensures c.if-kind-eq-TERMINAL.false c.if-kind-lt-ALTERNATIVE_END.true refl
    (c.saturating_sub-rule.ensures ∙ ap (λ (n : ℕ). owner_at c.args.code.now n - 1) c.wide.ensures)

pub returns-then-kind-eq-ALTERNATIVE_END : goal.returns-then-kind-eq-ALTERNATIVE_END
returns-then-kind-eq-ALTERNATIVE_END c =
    item-end c.args.table.now c.put_item-then-kind-eq-ALTERNATIVE_END.ensures c.if-kind-eq-TERMINAL.false c.if-kind-lt-ALTERNATIVE_END.false c.if-kind-eq-ALTERNATIVE_END.true

pub returns : goal.returns
returns c =
    item-last c.args.table.now c.put_item-2.ensures c.if-kind-eq-TERMINAL.false c.if-kind-lt-ALTERNATIVE_END.false c.if-kind-eq-ALTERNATIVE_END.false
