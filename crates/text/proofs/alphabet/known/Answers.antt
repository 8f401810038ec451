use mathlib.Core.Path.{ap, ◌∙◌}
use Prim.Native.Nat.{ℕ}
use lib.Dec.{ltb}
use Rattle.text.proofs.Spans.{known-place}
use Rattle.text.proofs.alphabet.known.Goals as goal

pub returns : goal.returns
returns c = ap (λ (p : ℕ). ltb p 498) c.place.ensures ∙ known-place c.args.code
