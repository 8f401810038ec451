use mathlib.Core.Bool.{true≢false}
use mathlib.Core.Path.{refl, sym, ◌∙◌}
use Rattle.bits.proofs.mask.Goals as goal

pub returns-then-lit : goal.returns-then-lit
returns-then-lit c = (λ _. c.lit.ensures.0 c.if-lit.true, λ _. refl)

pub returns : goal.returns
returns c = (λ n. absurd (n refl), λ l. absurd (true≢false (sym (c.lit.ensures.1 l) ∙ c.if-lit.false)))
