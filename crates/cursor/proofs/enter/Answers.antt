use mathlib.Core.Path.{refl, ◌∙◌}
use Rattle.cursor.proofs.Nodes.{node-enters}
use Rattle.cursor.proofs.Turns.{entered}
use Rattle.cursor.proofs.Laws.{not-two}
use Rattle.cursor.proofs.enter.Goals as goal

pub enter-n-requires : goal.enter-n-requires
enter-n-requires c = node-enters c.requires.1.node

pub returns-then-kind_at-eq-ATTRIBUTE : goal.returns-then-kind_at-eq-ATTRIBUTE
returns-then-kind_at-eq-ATTRIBUTE c =
    entered c.requires.1 c.enter-n.ensures _ (λ e. absurd (not-two c.kind_at.ensures c.if-kind_at-eq-ATTRIBUTE.true e)) (λ e. refl)

pub returns : goal.returns
returns c =
    entered c.requires.1 c.enter-n.ensures 0 (λ e. refl) (λ e. absurd (c.if-kind_at-eq-ATTRIBUTE.false (c.kind_at.ensures ∙ e)))
