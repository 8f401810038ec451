use native.Mathlib.Omega.{arith}
use mathlib.Core.Path.{ap, ◌∙◌}
use Prim.Native.Nat.{ℕ, ◌+◌, ◌*◌}
use Rattle.markup.proofs.Pieces.{named_count}
use Rattle.extent.proofs.tag_room.Goals as goal

pub returns : goal.returns
returns c = (
  omega (arith, c.look-count.ensures.1),
  λ k n N. ap (λ (m : ℕ). 8 * m + 5) (c.look-count.ensures.0 ∙ named_count N),
)
