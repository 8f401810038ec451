use Rattle.bits.proofs.Laws.{lit-shifted, shifted-lit}
use borrow.Author.Tests.{eqb-true, eq-eqb}
use Rattle.bits.proofs.lit.Goals as goal

pub returns : goal.returns
returns c = (λ e. lit-shifted _ _ (eqb-true _ _ e), λ l. eq-eqb _ _ (shifted-lit _ _ l))
