-- A place of the text, and the text from there on.
use mathlib.Core.Bool.{Bool, true, false}
use mathlib.Core.Path.{◌≡◌, sym, ap, ◌∙◌}
use mathlib.Core.List.{[], ◌∷◌}
use Prim.Native.Nat.{ℕ, ◌+◌, ◌<◌, ◌≤◌}
use native.Mathlib.Numerals.{add-one}
use native.Mathlib.Decide.{dec_lt}
use native.Mathlib.Omega.{arith}
use lib.ListN.{length, get_or, drop, drop_of_length-le, length-drop}
use lib.Seq.{drop-cons}
use borrow.Author.Tests.{eq-eqb, ne_eqb}
use Rattle.text.specs.Lists.{Text}
use Rattle.syntax.specs.Syntax.{ch}
use Rattle.syntax.specs.Result.{hd, tl}
use Rattle.syntax.proofs.Classes.{clash}

pub at-char : (s : Text) (p : ℕ) → p < length s → drop p s ≡ get_or s p 0 ∷ drop (p + 1) s
at-char s p h = rw (add-one, drop-cons s p 0)

pub at-end : (s : Text) (p : ℕ) → length s ≤ p → drop p s ≡ []
at-end s p h = drop_of_length-le s h

pub hd-char : (s : Text) (p : ℕ) → p < length s → hd (drop p s) ≡ get_or s p 0
hd-char s p h = rw (at-char s p h)

pub hd-end : (s : Text) (p : ℕ) → length s ≤ p → hd (drop p s) ≡ 0x110000
hd-end s p h = rw (at-end s p h)

pub tl-at : (s : Text) (p : ℕ) → tl (drop p s) ≡ drop (p + 1) s
tl-at s p = go (dec_lt p (length s))
  where
    go : Dec (p < length s) → tl (drop p s) ≡ drop (p + 1) s
    go (yes h) = rw (at-char s p h)
    go (no h) = let l : length s ≤ p = omega arith in let m : length s ≤ p + 1 = omega arith in rw (at-end s p l, at-end s (p + 1) m)

-- a test that fails past the end shows that a character is there
pub in-text : (s : Text) (p : ℕ) (f : ℕ → Bool) → f 0x110000 ≡ false → f (hd (drop p s)) ≡ true → p < length s
in-text s p f z e = go (dec_lt p (length s))
  where
    go : Dec (p < length s) → p < length s
    go (yes h) = h
    go (no h) = let l : length s ≤ p = omega arith in absurd (clash z (ap f (sym (hd-end s p l)) ∙ e))

-- a number below the end mark is a character
pub in-char : (s : Text) (p c : ℕ) → c ≡ hd (drop p s) → c < 0x110000 → p < length s
in-char s p c u h = go (dec_lt p (length s))
  where
    go : Dec (p < length s) → p < length s
    go (yes i) = i
    go (no i) = let l : length s ≤ p = omega arith in let k : c ≡ 0x110000 = u ∙ hd-end s p l in absurd (omega arith)

pub shorter : (s : Text) (p w : ℕ) → p < w → w ≤ length s → length (drop w s) < length (drop p s)
shorter s p w h l = simp length-drop (omega arith)

-- the place after the next one
pub twice : (a : ℕ) {b c : ℕ} → b ≡ a + 1 → c ≡ b + 1 → c ≡ a + 2
twice a p q = omega arith

-- what a test says of a character that was seen
module _ {c e : ℕ} (u : c ≡ e) where
  pub tested : (f : ℕ → Bool) {b : Bool} → f c ≡ b → f e ≡ b
  tested f g = ap f (sym u) ∙ g

  pub is-ch : (k : ℕ) → c ≡ k → ch k e ≡ true
  unfolding ch
  is-ch k g = tested (ch k) (eq-eqb _ _ g)

  pub not-ch : (k : ℕ) → (c ≡ k → ⊥) → ch k e ≡ false
  unfolding ch
  not-ch k g = tested (ch k) (ne_eqb _ _ g)
