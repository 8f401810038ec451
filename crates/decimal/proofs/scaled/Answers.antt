use mathlib.Core.Path.{ap}
use lib.Ieee.{binary64, div}
use Prim.Native.Nat.{ℕ}
use Rattle.decimal.specs.Value.{num}
use Rattle.decimal.proofs.scaled.Goals as goal

pub returns : goal.returns
returns c = ap (λ (p : ℕ). div binary64 c.args.digits (num p)) c.power_of_ten.ensures
