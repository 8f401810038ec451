use native.Mathlib.Omega.{arith}
use mathlib.Core.Path.{refl}
use Rattle.extent.proofs.with_text.Goals as goal

pub returns : goal.returns
returns c =
    let by = c.text_room-by.ensures.1 in
    (record { is = λ l. let g = c.grown-most.ensures l in omega (arith, by (omega arith)) }, refl)
