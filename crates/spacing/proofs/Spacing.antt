-- The skipper's steps at a place of the text.
use mathlib.Core.Bool.{true, false}
use mathlib.Core.Path.{◌≡◌, refl, ap, ◌∙◌}
use mathlib.Core.List.{◌∷◌}
use Prim.Native.Nat.{ℕ, suc, ◌+◌, ◌-◌, ◌<◌, ◌≤◌}
use native.Mathlib.Omega.{arith}
use lib.ListN.{length, get_or, drop}
use borrow.Author.Tests.{eq-eqb, ne_eqb}
use Rattle.text.specs.Lists.{Text}
use Rattle.syntax.specs.Syntax.{ch, whitespace}
use Rattle.syntax.specs.Result.{fail}
use Rattle.syntax.specs.Spacing.{scan, skip, step}
use Rattle.syntax.proofs.SpacingLaws.{open_at, shut_at, char-at, white-at, stop-at, kind-open, cchar-at, still}
use Rattle.spacing.specs.Answers.{Onward, Closed, Skipped}
use Rattle.spacing.proofs.Places.{at-char, at-end, hd-char}

-- where the loop of `comment` is: at i, with the same to do as at p
pub record Inner (s : Text) (d p i : ℕ) : Type 0 where
  pub onward : Onward s p i
  pub same : (k : ℕ) → scan (drop p s) (suc k) d ≡ scan (drop i s) (suc k) d

module _ (s : Text) (d p i : ℕ) (v : Inner s d p i) where
  pub inner-end : length s ≤ i → (k : ℕ) → scan (drop p s) (suc k) d ≡ fail
  unfolding scan
  inner-end h k = v.same k ∙ rw (at-end s i h)

  module _ (h : i < length s) where
    pub inner-char : (get_or s i 0 ≡ 0x7d → ⊥) → (get_or s i 0 ≡ 0x7b → ⊥) → Inner s d p (i + 1)
    inner-char a b = let o = v.onward in record {
      onward = record { on = omega arith; within = omega arith };
      same = λ k. v.same k ∙ rw (at-char s i h) (char-at k d _ _ (cchar-at _ (ne_eqb _ _ b) (ne_eqb _ _ a)));
    }

    pub inner-shut : get_or s i 0 ≡ 0x7d → Closed s p d (i + 1)
    unfolding ch
    inner-shut a = let o = v.onward in record {
      onward = record { on = omega arith; within = omega arith };
      past = λ k. v.same k ∙ rw (at-char s i h) (shut_at k d _ _ (eq-eqb _ _ a));
    }

    pub inner-deep : get_or s i 0 ≡ 0x7b → d ≡ 0 → (k : ℕ) → scan (drop p s) (suc k) d ≡ fail
    unfolding ch scan step
    inner-deep a z k = v.same k ∙ rw (at-char s i h, kind-open _ (eq-eqb _ _ a), z)

    module _ (a : get_or s i 0 ≡ 0x7b) (z : d ≡ 0 → ⊥) where
      down : (k : ℕ) → scan (drop i s) (suc k) d ≡ scan (drop (i + 1) s) (suc (suc k)) (d - 1)
      unfolding ch
      down k = let e : d ≡ suc (d - 1) = omega arith in rw (at-char s i h) (ap (λ (m : ℕ). scan (get_or s i 0 ∷ drop (i + 1) s) (suc k) m) e ∙ open_at (suc k) (d - 1) _ _ (eq-eqb _ _ a))

      pub inner-bad : ((k : ℕ) → scan (drop (i + 1) s) (suc k) (d - 1) ≡ fail) → (k : ℕ) → scan (drop p s) (suc k) d ≡ fail
      inner-bad f k = v.same k ∙ down k ∙ f (suc k)

      pub inner-on : (q : ℕ) → Closed s (i + 1) (d - 1) q → Inner s d p q
      inner-on q f = let o = v.onward in let r = f.onward in let e : suc (d - 1) ≡ d = omega arith in record {
        onward = record { on = omega arith; within = r.within };
        same = λ k. v.same k ∙ down k ∙ f.past (suc k) ∙ ap (λ (m : ℕ). scan (drop q s) (suc k) m) e;
      }

pub inner_start : (s : Text) (d p : ℕ) → p ≤ length s → Inner s d p p
inner_start s d p h = record { onward = record { on = omega arith; within = h }; same = λ k. refl }

pub inner-less : (s : Text) (d p i : ℕ) → i < length s → Closed s (i + 1) d p → length s - p < length s - i
inner-less s d p i h f = let o = f.onward in omega arith

-- where the loop of `skip` is
pub record Outer (s : Text) (p i : ℕ) : Type 0 where
  pub onward : Onward s p i
  pub same : skip (drop p s) ≡ skip (drop i s)

pub outer_start : (s : Text) (p : ℕ) → p ≤ length s → Outer s p p
outer_start s p h = record { onward = record { on = omega arith; within = h }; same = refl }

module _ (s : Text) (p i : ℕ) (v : Outer s p i) where
  pub outer-end : length s ≤ i → Skipped s p i
  unfolding scan
  outer-end h = record { onward = v.onward; past = v.same ∙ rw (at-end s i h) }

  module _ (h : i < length s) where
    pub outer-white : whitespace (get_or s i 0) ≡ true → Outer s p (i + 1)
    outer-white e = let o = v.onward in record {
      onward = record { on = omega arith; within = omega arith };
      same = v.same ∙ rw (at-char s i h) (white-at _ _ e);
    }

    pub outer-stop : (get_or s i 0 ≡ 0x7b → ⊥) → whitespace (get_or s i 0) ≡ false → Skipped s p i
    outer-stop a e = record { onward = v.onward; past = v.same ∙ stop-at (drop i s) (rw (hd-char s i h) (still _ (ne_eqb _ _ a) e)) }

    module _ (a : get_or s i 0 ≡ 0x7b) where
      open-here : skip (drop i s) ≡ scan (drop (i + 1) s) 1 15
      unfolding ch
      open-here = rw (at-char s i h) (open_at 0 15 _ _ (eq-eqb _ _ a))

      pub outer-bad : ((k : ℕ) → scan (drop (i + 1) s) (suc k) 15 ≡ fail) → skip (drop p s) ≡ fail
      outer-bad f = v.same ∙ open-here ∙ f 0

      pub outer-on : (q : ℕ) → Closed s (i + 1) 15 q → Outer s p q
      outer-on q f = let o = v.onward in let r = f.onward in record {
        onward = record { on = omega arith; within = r.within };
        same = v.same ∙ open-here ∙ f.past 0;
      }
