use mathlib.Core.Path.{sym, ◌∙◌}
use Rattle.tokens.proofs.same_if_named.Goals.{then-is_named, else-is_named}
use Rattle.tokens.proofs.same_if_named.Goals as goal

pub returns-else-is_named-2 : goal.returns-else-is_named-2
returns-else-is_named-2 c = λ x y h k. absurd (elim c.if-is_named.branch [
  | then-is_named w ↦ w.is_named-then-is_named.ensures.1 (sym w.value-is ∙ c.if-is_named-2.false) y k
  | else-is_named w ↦ c.is_named.ensures.1 w.if-is_named.false x h
])
