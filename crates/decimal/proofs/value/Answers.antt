use mathlib.Core.Path.{ap, sym, ◌∙◌}
use Prim.Native.Nat.{◌^◌}
use lib.Ieee.{Float, binary64, div}
use lib.ListN.{length}
use Rattle.decimal.specs.Value.{num, digits_from, signed, size_of}
use Rattle.decimal.proofs.Constants.{nought}
use Rattle.decimal.proofs.Leading.{fold-digits, digits_append}
use Rattle.decimal.proofs.value.Goals as goal

pub returns : goal.returns
unfolding size_of
returns c =
    let args = c.args in
    let w = args.whole.now in
    let f = args.fraction.now in
    let units = c.accumulate-units.ensures ∙ fold-digits _ w ∙ ap (λ (x : Float). digits_from x w) nought in
    let digits = c.accumulate-digits.ensures ∙ fold-digits _ f ∙ ap (λ (x : Float). digits_from x f) units ∙ sym (digits_append (num 0) w f) in
    c.signed.ensures ∙ ap (signed args.minus) (c.scaled.ensures ∙ ap (λ (x : Float). div binary64 x (num (10 ^ length f))) digits)
