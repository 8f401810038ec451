-- The computed ruling is the one that the definition gives, and the only one.
use mathlib.Core.Bool.{Bool, true, false, not}
use mathlib.Core.Path.{◌≡◌, refl, sym, ap, subst, ◌∙◌}
use lib.Dec.{T}
use lib.Ieee.{Float}
use Rattle.std.specs.Prelude.{Option, Some, None, Ok, Err}
use Rattle.text.specs.Lists.{Text, pick}
use Rattle.decimal.specs.Value.{Valued, Says}
use Rattle.decimal.specs.Compute.{decimal_of, number_of}
use Rattle.decimal.proofs.Laws.{says, settled}
use Rattle.gate.specs.Gate.{position, sound, out_of_range, verdict_of, Ruling, Rules, unsound, no_number, too_far, judged}
use Rattle.gate.specs.Compute.{placed, of_numbers, ruling_of}
use Rattle.gate.specs.declared.Gate.{Gate}
use Rattle.gate.specs.declared.GateRefusal.TheVariants.{UnsoundGate, NoNumber, OutOfRange}

-- 1. What the computed ruling comes to at each of the code's answers.
module _ (g : Gate) (lat lon : Text) where
  pub unsound-is : sound g ≡ false → Err UnsoundGate ≡ ruling_of g lat lon
  unsound-is e = rw e

  of-sound : sound g ≡ true → of_numbers g (number_of (decimal_of lat)) (number_of (decimal_of lon)) ≡ ruling_of g lat lon
  of-sound e = rw e

  pub no-latitude : sound g ≡ true → number_of (decimal_of lat) ≡ None → Err NoNumber ≡ ruling_of g lat lon
  no-latitude e a = sym (ap (λ (n : Option Float). of_numbers g n (number_of (decimal_of lon))) a) ∙ of-sound e

  pub no-longitude : {x : Float} → sound g ≡ true → number_of (decimal_of lat) ≡ Some x → number_of (decimal_of lon) ≡ None → Err NoNumber ≡ ruling_of g lat lon
  no-longitude {x} e a b = sym (ap (λ (n : Option Float). of_numbers g n (number_of (decimal_of lon))) a ∙ ap (of_numbers g (Some x)) b) ∙ of-sound e

  pub placed-is : {x y : Float} → sound g ≡ true → number_of (decimal_of lat) ≡ Some x → number_of (decimal_of lon) ≡ Some y → placed g (position x y) ≡ ruling_of g lat lon
  placed-is {x} e a b = sym (ap (λ (n : Option Float). of_numbers g n (number_of (decimal_of lon))) a ∙ ap (of_numbers g (Some x)) b) ∙ of-sound e

  -- 2. The definition holds of it.

  at_place : {x y : Float} → T (sound g) → Valued lat x → Valued lon y → Rules g lat lon (placed g (position x y))
  at_place {x} {y} s a b = go (out_of_range (position x y)) refl
    where
      go : (far : Bool) → out_of_range (position x y) ≡ far → Rules g lat lon (pick far (Err OutOfRange) (Ok (verdict_of g (position x y))))
      go true e = too_far s a b (subst T (sym e) tt)
      go false e = judged s a b (subst (λ (t : Bool). T (not t)) (sym e) tt)

  with-numbers : T (sound g) → (a b : Option Float) → Says lat a → Says lon b → Rules g lat lon (of_numbers g a b)
  with-numbers s (Some x) (Some y) p q = at_place s p q
  with-numbers s (Some x) None p q = no_number s (λ both. q both.1)
  with-numbers s None n p q = no_number s (λ both. p both.0)

  pub rules : Rules g lat lon (ruling_of g lat lon)
  rules = go (sound g) refl
    where
      go : (fair : Bool) → sound g ≡ fair → Rules g lat lon (pick fair (of_numbers g (number_of (decimal_of lat)) (number_of (decimal_of lon))) (Err UnsoundGate))
      go true e = with-numbers (subst T (sym e) tt) (number_of (decimal_of lat)) (number_of (decimal_of lon)) (says lat) (says lon)
      go false e = unsound (subst (λ (t : Bool). T (not t)) (sym e) tt)

  -- 3. It is the only one.
  T_true : (b : Bool) → T b → b ≡ true
  T_true true h = refl
  T_true false h = absurd h

  not-true : (b : Bool) → T (not b) → b ≡ false
  not-true true h = absurd h
  not-true false h = refl

  value-of : {t : Text} {x : Float} → Valued t x → number_of (decimal_of t) ≡ Some x
  value-of {t} {x} p = sym (settled t (Some x) p)

  pub one-ruling : (r : Ruling) → Rules g lat lon r → r ≡ ruling_of g lat lon
  one-ruling r (unsound u) = unsound-is (not-true (sound g) u)
  one-ruling r (no_number s none) = go (number_of (decimal_of lat)) refl (says lat)
    where
      second : (x : Float) → number_of (decimal_of lat) ≡ Some x → Valued lat x → (b : Option Float) → number_of (decimal_of lon) ≡ b → Says lon b → Err NoNumber ≡ ruling_of g lat lon
      second x a p (Some y) e q = absurd (none ((p.0, p.1), (q.0, q.1)))
      second x a p None e q = no-longitude (T_true (sound g) s) a e

      go : (a : Option Float) → number_of (decimal_of lat) ≡ a → Says lat a → Err NoNumber ≡ ruling_of g lat lon
      go (Some x) e p = second x e p (number_of (decimal_of lon)) refl (says lon)
      go None e p = no-latitude (T_true (sound g) s) e
  one-ruling r (too_far {x} {y} s a b far) =
      rw (T_true (out_of_range (position x y)) far) at (placed-is {x = x} {y = y} (T_true (sound g) s) (value-of a) (value-of b))
  one-ruling r (judged {x} {y} s a b near) =
      rw (not-true (out_of_range (position x y)) near) at (placed-is {x = x} {y = y} (T_true (sound g) s) (value-of a) (value-of b))
