use mathlib.Core.Path.{sym, ◌∙◌}
use native.Mathlib.Omega.{arith}
use Rattle.cursor.proofs.Laws.{decide-zero}
use Rattle.cursor.proofs.Steps.{ahead-leaves, ahead-over}
use Rattle.cursor.proofs.Turns.{turn-text, turn-close, turn-open, turn-attribute, shown-text, shown-node, shown-end, shown-close}
use Rattle.cursor.proofs.event_at.Goals as goal

pub returns-then-k-eq-TERMINAL : goal.returns-then-k-eq-TERMINAL
returns-then-k-eq-TERMINAL c =
    let s = shown-text c.kind_at-k.ensures c.requires.1 c.if-k-eq-TERMINAL.true in
    record { is = turn-text c.requires.0 (sym c.kind_at-k.ensures ∙ c.if-k-eq-TERMINAL.true) s.0 s.1 s.2 }

pub returns-then-k-eq-ELEMENT : goal.returns-then-k-eq-ELEMENT
returns-then-k-eq-ELEMENT c =
    let v = shown-node c.kind_at-k.ensures c.requires.1 (omega (arith, c.if-k-eq-ELEMENT.true)) (omega (arith, c.if-k-eq-ELEMENT.true)) in
    record { is = turn-open c.requires.0 v c.token_at.ensures.0 c.token_at.ensures.1 (sym c.kind_at-k.ensures ∙ c.if-k-eq-ELEMENT.true) }

pub returns-then-k-eq-ATTRIBUTE : goal.returns-then-k-eq-ATTRIBUTE
returns-then-k-eq-ATTRIBUTE c =
    let v = shown-node c.kind_at-k.ensures c.requires.1 (omega (arith, c.if-k-eq-ATTRIBUTE.true)) (omega (arith, c.if-k-eq-ATTRIBUTE.true)) in
    record { is = turn-attribute c.requires.0 v c.token_at-then-k-eq-ATTRIBUTE.ensures.0 c.token_at-then-k-eq-ATTRIBUTE.ensures.1 (sym c.kind_at-k.ensures ∙ c.if-k-eq-ATTRIBUTE.true) }

pub returns-then-h-eq0 : goal.returns-then-h-eq0
returns-then-h-eq0 c =
    let five = shown-end c.kind_at-k.ensures c.requires.1 c.if-k-eq-TERMINAL.false c.if-k-eq-ELEMENT.false c.if-k-eq-ATTRIBUTE.false in
    record { is = λ r S₀ k A. ahead-over A five c.if-h-eq0.true }

pub leave-n-requires : goal.leave-n-requires
leave-n-requires c =
    ahead-leaves c.requires.0.ahead (decide-zero _ c.if-h-eq0.false)

pub returns : goal.returns
returns c =
    let five = shown-end c.kind_at-k.ensures c.requires.1 c.if-k-eq-TERMINAL.false c.if-k-eq-ELEMENT.false c.if-k-eq-ATTRIBUTE.false in
    let x = shown-close c.kind_at-k.ensures c.requires.1 c.if-k-eq-TERMINAL.false c.if-k-eq-ELEMENT.false c.if-k-eq-ATTRIBUTE.false c.if-h-eq0.false c.note_at-item.ensures in
    record { is = turn-close c.requires.0 five (decide-zero _ c.if-h-eq0.false) c.leave-n.ensures c.note_at-item.ensures x }
