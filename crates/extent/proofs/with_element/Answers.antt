use native.Mathlib.Omega.{arith}
use mathlib.Core.Path.{refl}
use Rattle.extent.proofs.with_element.Goals as goal

pub returns : goal.returns
returns c = (λ k n N. record { is = λ l. omega (arith, c.grown-most.ensures l, c.tag_room-by.ensures.1 k n N) }, refl)
