-- The steps of the cycle at any sufficient bound. `again` stands for the call on a shorter text.
use native.Mathlib.Omega.{arith}
use mathlib.Core.Bool.{true, false}
use mathlib.Core.Path.{◌≡◌}
use Prim.Native.Nat.{ℕ, zero, suc}
use Rattle.text.specs.Lists.{Text}
use Rattle.syntax.specs.Syntax.{ch, bar}
use Rattle.syntax.specs.Result.{hd, tl, Result, ok, when, then, expect}
use Rattle.syntax.specs.Spacing.{skip, spaced}
use Rattle.tree.specs.Tree.{Symbol, Alternative, Body, group, cons, one, also, nil}
use Rattle.syntax.specs.Lexical.{separated}
use Rattle.syntax.specs.Parser.{read_plain, suffix, under, starts, single, alts, terms, factor, Alts=, Alt=, Terms=, Term=, Factor=, Agrees}

module _ (d : ℕ) (t : Text) where
  pub alt-none= : starts (hd t) ≡ false → Alt= d t (ok nil t)
  unfolding when
  alt-none= e n h = rw e

  pub alt-some= : (x : Result Alternative) → starts (hd t) ≡ true → Terms= d t x → Alt= d t x
  unfolding when
  alt-some= x e f n h = rw e (f n h)

  pub alts-step : (x : Result Alternative) (y : Result Body) → Alt= d t x
      → ((again : Text → Result Body) → Agrees (Alts= d) t again → then x (λ a u. separated bar also one again a u) ≡ y) → Alts= d t y
  unfolding alts
  alts-step x y f g zero h = absurd (omega arith)
  alts-step x y f g (suc n) h = rw (f n (omega arith)) (g (λ w. alts n d w) (λ u z l e. e n (omega arith)))

  pub terms-step : (x : Result Symbol) (y : Result Alternative) → Term= d t x
      → ((again : Text → Result Alternative) → Agrees (Terms= d) t again → then x (λ f u. separated (ch 0x2c) cons single again f u) ≡ y) → Terms= d t y
  unfolding alts
  terms-step x y f g zero h = absurd (omega arith)
  terms-step x y f g (suc n) h = rw (f n (omega arith)) (g (λ w. terms n d w) (λ u z l e. e n (omega arith)))

  pub term-step : (x : Result Symbol) (y : Result Symbol) → Factor= d t x
      → ((again : Text → Result Symbol) → Agrees (Factor= d) t again → then x (λ f u. suffix again f u) ≡ y) → Term= d t y
  unfolding alts
  term-step x y f g zero h = absurd (omega arith)
  term-step x y f g (suc n) h = rw (f n (omega arith)) (g (λ w. factor n d w) (λ u z l e. e n (omega arith)))

  pub factor-plain : ch 0x28 (hd t) ≡ false → Factor= d t (read_plain t)
  unfolding alts when
  factor-plain e zero h = absurd (omega arith)
  factor-plain e (suc n) h = rw e

  pub factor-step : (y : Result Symbol) → ch 0x28 (hd t) ≡ true
      → ((again : ℕ → Text → Result Body) → ((e : ℕ) → Agrees (Alts= e) t (again e))
      → under d (λ e. then (skip (tl t)) (λ _ u. then (again e u) (λ b v. expect (ch 0x29) v (λ w. spaced (group b) w)))) ≡ y)
      → Factor= d t y
  unfolding alts when
  factor-step y e g zero h = absurd (omega arith)
  factor-step y e g (suc n) h = rw e (g (λ e w. alts n e w) (λ e u z l p. p n (omega arith)))
