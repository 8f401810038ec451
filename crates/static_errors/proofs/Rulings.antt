-- The numbers of the rules, by which the definitions tell them apart.
use mathlib.Core.Path.{◌≡◌, refl, sym, ap, ◌∙◌}
use mathlib.Core.Logic.{◌⊎◌, inl, inr}
use Prim.Native.Nat.{ℕ, ◌<◌, ◌≤◌}
use native.Mathlib.Omega.{arith}
use lib.Dec.{eqb}
use Rattle.text.specs.Lists.{pick}
use Rattle.static_errors.specs.declared.StaticError.{StaticError}
use Rattle.static_errors.specs.declared.StaticError.TheVariants.{UndefinedName, RepeatedRule, HexTooLarge, HexNoCharacter, BackwardRange, UnknownClass}
use Rattle.static_errors.specs.Held.{rule_number}

-- each has one
pub some-rule : (e : StaticError) → rule_number e ≡ 0 → ⊥
some-rule UndefinedName z = omega arith
some-rule RepeatedRule z = omega arith
some-rule HexTooLarge z = omega arith
some-rule HexNoCharacter z = omega arith
some-rule BackwardRange z = omega arith
some-rule UnknownClass z = omega arith

-- those that no hex number breaks, and the others
pub late : {e : StaticError} → (e ≡ BackwardRange) ⊎ (e ≡ UnknownClass) → 8 < rule_number e
late (inl q) = rw q (omega arith)
late (inr q) = rw q (omega arith)

pub early : {e : StaticError} → (e ≡ BackwardRange → ⊥) → (e ≡ UnknownClass → ⊥) → rule_number e ≤ 8
early {e = UndefinedName} f g = omega arith
early {e = RepeatedRule} f g = omega arith
early {e = HexTooLarge} f g = omega arith
early {e = HexNoCharacter} f g = omega arith
early {e = BackwardRange} f g = absurd (f refl)
early {e = UnknownClass} f g = absurd (g refl)

-- a rule is known by its number
rule_at : ℕ → StaticError
rule_at n =
    pick (eqb n 5) UndefinedName (pick (eqb n 6) RepeatedRule (pick (eqb n 7) HexTooLarge (pick (eqb n 8) HexNoCharacter (pick (eqb n 9) BackwardRange UnknownClass))))

at_number : (e : StaticError) → rule_at (rule_number e) ≡ e
unfolding rule_at
at_number UndefinedName = refl
at_number RepeatedRule = refl
at_number HexTooLarge = refl
at_number HexNoCharacter = refl
at_number BackwardRange = refl
at_number UnknownClass = refl

pub rule_one : (d e : StaticError) → rule_number d ≡ rule_number e → d ≡ e
rule_one d e q = sym (at_number d) ∙ ap rule_at q ∙ at_number e
