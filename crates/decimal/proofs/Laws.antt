-- The laws of specs/Laws.antt.
use mathlib.Core.Path.{◌≡◌, refl, sym, ap, ◌∙◌}
use lib.Ieee.{Float}
use Rattle.std.specs.Prelude.{Option, Some, None}
use Rattle.text.specs.Lists.{Text}
use Rattle.decimal.specs.Number.{Decimal, Spells}
use Rattle.decimal.specs.Value.{signed, Says}
use Rattle.decimal.specs.Compute.{decimal_of, number_of}
use Rattle.decimal.specs.Laws.{Laws}
use Rattle.decimal.proofs.Reading.{no_number, complete, sound}
use Rattle.decimal.proofs.Correct.{size-rounded, size-nearest}

pub once : (t : Text) (d e : Decimal) → Spells t d → Spells t e → d ≡ e
once t d e p q = let a = complete t d p in let b = complete t e q in cc

pub says : (t : Text) → Says t (number_of (decimal_of t))
says t = go (decimal_of t) refl
  where
    go : (x : Option Decimal) → decimal_of t ≡ x → Says t (number_of x)
    go (Some d) e = (d, sound t d e, refl)
    go None e = λ p. no_number (sym e ∙ complete t p.0 p.1)

pub settled : (t : Text) (n : Option Float) → Says t n → n ≡ number_of (decimal_of t)
settled t (Some x) p = ap Some p.2 ∙ ap number_of (sym (complete t p.0 p.1))
settled t None p = go (decimal_of t) refl
  where
    go : (x : Option Decimal) → decimal_of t ≡ x → None ≡ number_of x
    go (Some d) e = absurd (p (d, sound t d e))
    go None e = refl

pub laws-hold : Laws
laws-hold = record {
  once = once;
  says = says;
  settled = settled;
  rounded = λ t d s. ap (signed d.minus) (size-rounded t d s);
  nearest = size-nearest;
}
