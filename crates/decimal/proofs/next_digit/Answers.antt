use mathlib.Core.Path.{ap, ◌∙◌}
use Prim.Native.Nat.{ℕ}
use lib.Ieee.{Float, binary64, add, mul}
use Rattle.decimal.specs.Value.{num, next_digit}
use Rattle.decimal.proofs.Constants.{ten}
use Rattle.decimal.proofs.next_digit.Goals as goal

pub returns : goal.returns
unfolding next_digit
returns c =
    let v = c.args.value in
    ap (λ (t : Float). add binary64 (mul binary64 t v) (num c.digit_of.result)) ten ∙ ap (λ (d : ℕ). add binary64 (mul binary64 (num 10) v) (num d)) c.digit_of.ensures
