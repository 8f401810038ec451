-- The digits that a text begins with, and their value, a step at a time.
use mathlib.Core.Bool.{Bool, true, false}
use mathlib.Core.Path.{◌≡◌, refl}
use mathlib.Core.List.{[], ◌∷◌, ◌++◌}
use Prim.Native.Nat.{ℕ, ◌+◌, ◌≤◌}
use native.Mathlib.Omega.{arith}
use lib.ListN.{length}
use lib.Ieee.{Float}
use Rattle.std.specs.Prelude.{cond}
use Rattle.std.specs.List.{prefix_len, fold}
use Rattle.text.specs.Lists.{Text, pick}
use Rattle.decimal.specs.Number.{digit}
use Rattle.decimal.specs.Value.{next_digit, digits_from}
use Rattle.decimal.specs.Compute.{leading}

pub leading-digit : (c : ℕ) (cs : Text) → digit c ≡ true → leading (c ∷ cs) ≡ leading cs + 1
unfolding leading
leading-digit c cs h = rw h

pub leading-other : (c : ℕ) (cs : Text) → digit c ≡ false → leading (c ∷ cs) ≡ 0
unfolding leading
leading-other c cs h = rw h

pub leading-nil : leading [] ≡ 0
unfolding leading
leading-nil = refl

-- how many digits come first, in the kit's words
pub prefix-leading : (t : Text) → prefix_len digit t ≡ leading t
unfolding leading
prefix-leading [] = refl
prefix-leading (c ∷ cs) = go (digit c) (prefix-leading cs)
  where
    go : (b : Bool) → prefix_len digit cs ≡ leading cs → cond b (1 + prefix_len digit cs) 0 ≡ pick b (leading cs + 1) 0
    go true e = omega arith
    go false e = refl

pub leading-within : (t : Text) → leading t ≤ length t
leading-within [] = rw leading-nil (omega arith)
leading-within (c ∷ cs) = go (digit c) refl (leading-within cs)
  where
    go : (b : Bool) → digit c ≡ b → leading cs ≤ length cs → leading (c ∷ cs) ≤ length (c ∷ cs)
    go true e h = omega (arith, leading-digit c cs e)
    go false e h = omega (arith, leading-other c cs e)

pub fold-digits : (x : Float) (t : Text) → fold next_digit x t ≡ digits_from x t
unfolding digits_from
fold-digits x [] = refl
fold-digits x (c ∷ t) = fold-digits (next_digit x c) t

pub digits_append : (x : Float) (s t : Text) → digits_from x (s ++ t) ≡ digits_from (digits_from x s) t
unfolding digits_from
digits_append x [] t = refl
digits_append x (c ∷ s) t = digits_append (next_digit x c) s t
