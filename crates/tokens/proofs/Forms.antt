-- How many numbers a token takes, by its form.
use mathlib.Core.Bool.{Bool, true, false}
use mathlib.Core.List.{List}
use mathlib.Core.Logic.{◌⊎◌, inl, inr}
use mathlib.Core.Path.{◌≡◌, refl, sym, ap, ◌∙◌}
use Prim.Native.Nat.{ℕ, ◌+◌, ◌≤◌, ◌<◌}
use native.Mathlib.Omega.{arith}
use lib.Dec.{eqb, ltb}
use lib.ListN.{length, get_or}
use borrow.Author.Tests.{lt-ltb, le-ltb, ne_eqb}
use Rattle.text.specs.Lists.{pick}
use Rattle.tokens.specs.declared.Form.{Form}
use Rattle.tokens.specs.declared.Form.TheVariants.{Name, Head, Text, Code, Range, Class, Bare}
use Rattle.tokens.specs.Lengths.{form_number, form_of, length_of, length_at}

pub length_some : (s c : ℕ) → 0 < length_of s c
unfolding length_of
length_some s c = go (ltb s 3) (eqb s 3) (eqb s 4) (eqb s 5)
  where
    go : (w x y z : Bool) → 0 < pick w (c + 2) (pick x 2 (pick y 5 (pick z 3 1)))
    go true x y z = omega arith
    go false true y z = omega arith
    go false false true z = omega arith
    go false false false true = omega arith
    go false false false false = omega arith

pub length-text : (s c : ℕ) → s < 3 → length_of s c ≡ c + 2
unfolding length_of
length-text s c h = rw (lt-ltb s 3 h)

pub length-code : (s c : ℕ) → s ≡ 3 → length_of s c ≡ 2
unfolding length_of
length-code s c e = rw e

pub length-range : (s c : ℕ) → s ≡ 4 → length_of s c ≡ 5
unfolding length_of
length-range s c e = rw e

pub length-class : (s c : ℕ) → s ≡ 5 → length_of s c ≡ 3
unfolding length_of
length-class s c e = rw e

pub length-bare : (s c : ℕ) → 3 ≤ s → (s ≡ 3 → ⊥) → (s ≡ 4 → ⊥) → (s ≡ 5 → ⊥) → length_of s c ≡ 1
unfolding length_of
length-bare s c h e f g = rw (le-ltb s 3 h, ne_eqb s 3 e, ne_eqb s 4 f, ne_eqb s 5 g)

-- the forms with characters
pub has_characters : {f : Form} → (f ≡ Name) ⊎ ((f ≡ Head) ⊎ (f ≡ Text)) → form_number f < 3
has_characters (inl e) = rw e (omega arith)
has_characters (inr (inl e)) = rw e (omega arith)
has_characters (inr (inr e)) = rw e (omega arith)

-- and those with hex numbers or letters
pub no_characters : {f : Form} → (f ≡ Code) ⊎ ((f ≡ Range) ⊎ (f ≡ Class)) → form_number f ≡ 0 → ⊥
no_characters (inl e) = rw e (λ z. omega arith)
no_characters (inr (inl e)) = rw e (λ z. omega arith)
no_characters (inr (inr e)) = rw e (λ z. omega arith)

-- a form is known by its number
form_at : ℕ → Form
form_at n = pick (eqb n 0) Name (pick (eqb n 1) Head (pick (eqb n 2) Text (pick (eqb n 3) Code (pick (eqb n 4) Range (pick (eqb n 5) Class Bare)))))

at_number : (f : Form) → form_at (form_number f) ≡ f
unfolding form_at
at_number Name = refl
at_number Head = refl
at_number Text = refl
at_number Code = refl
at_number Range = refl
at_number Class = refl
at_number Bare = refl

pub form_one : (f g : Form) → form_number f ≡ form_number g → f ≡ g
form_one f g e = sym (at_number f) ∙ ap form_at e ∙ at_number g

module _ (t : List ℕ) (k : ℕ) (h : k + length_at t k ≤ length t) where
  pub first-in : k < length t
  first-in = omega (arith, length_some (form_of (get_or t k 0)) (get_or t (k + 1) 0))

  pub sized : (s m : ℕ) → s ≡ form_of (get_or t k 0) → length_of s (get_or t (k + 1) 0) ≡ m → k + m ≤ length t
  sized s m e f = let g : length_at t k ≡ m = sym (ap (λ (x : ℕ). length_of x (get_or t (k + 1) 0)) e) ∙ f in omega arith
