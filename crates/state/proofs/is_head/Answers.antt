use mathlib.Core.Path.{sym, ◌∙◌}
use Rattle.tells.proofs.Tells.{miss}
use Rattle.state.proofs.Cells.{head-by}
use native.Mathlib.Omega.{arith}
use Rattle.state.proofs.is_head.Goals as goal

pub returns-then-grammar-gt-GRAMMAR_BYTES : goal.returns-then-grammar-gt-GRAMMAR_BYTES
returns-then-grammar-gt-GRAMMAR_BYTES c =
    miss (λ w. omega (arith, c.if-grammar-gt-GRAMMAR_BYTES.true, w.grammar-short))

pub returns-then-record-gt-RECORD_BYTES : goal.returns-then-record-gt-RECORD_BYTES
returns-then-record-gt-RECORD_BYTES c =
    miss (λ w. omega (arith, c.if-record-gt-RECORD_BYTES.true, w.input-short))

pub bounds-state-0 : goal.bounds-state-0
bounds-state-0 c =
    omega (arith, c.requires)

pub returns-then-state-ne-STARTED : goal.returns-then-state-ne-STARTED
returns-then-state-ne-STARTED c =
    miss (λ w. c.if-state-ne-STARTED.true w.tag)

pub bounds-state-1 : goal.bounds-state-1
bounds-state-1 c =
    omega (arith, c.requires)

pub returns-then-state-gt-MOST_ROUNDS : goal.returns-then-state-gt-MOST_ROUNDS
returns-then-state-gt-MOST_ROUNDS c =
    miss (λ w. omega (arith, c.if-state-gt-MOST_ROUNDS.true, w.few))

pub bounds-state-2 : goal.bounds-state-2
bounds-state-2 c =
    omega (arith, c.requires)

pub returns-then-state-gt1 : goal.returns-then-state-gt1
returns-then-state-gt1 c =
    miss (λ w. omega (arith, c.if-state-gt1.true, w.told))

pub bounds-state-3 : goal.bounds-state-3
bounds-state-3 c =
    omega (arith, c.requires)

pub returns-then-wide-grammar : goal.returns-then-wide-grammar
returns-then-wide-grammar c =
    miss (λ w. c.if-wide-grammar.true (c.wide.ensures ∙ w.grammar))

pub bounds-state-4 : goal.bounds-state-4
bounds-state-4 c =
    omega (arith, c.requires)

pub returns : goal.returns
returns c =
    head-by _ _ _ c.wide-2.result c.wide-2.ensures c.if-state-ne-STARTED.false (omega (arith, c.if-state-gt-MOST_ROUNDS.false)) (omega (arith, c.if-state-gt1.false))
    (sym c.wide.ensures ∙ c.if-wide-grammar.false) (omega (arith, c.if-grammar-gt-GRAMMAR_BYTES.false)) (omega (arith, c.if-record-gt-RECORD_BYTES.false))
