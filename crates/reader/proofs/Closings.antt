-- A word, the spacing after it, a character that must follow, and the spacing after that.
use Rattle.std.specs.Prelude.{Some, None}
use mathlib.Core.Bool.{Bool, true, false, ◌||◌}
use mathlib.Core.Path.{◌≡◌, refl, sym, ap, ◌∙◌}
use mathlib.Core.List.{List}
use Prim.Native.Nat.{ℕ, ◌+◌, ◌<◌}
use native.Mathlib.Omega.{arith}
use lib.ListN.{drop}
use borrow.Author.Tests.{ne_eqb}
use Rattle.text.specs.Lists.{Text}
use Rattle.syntax.specs.Syntax.{ch, defines}
use Rattle.syntax.specs.Result.{Result, ok, fail, hd, tl, map, then, guard, expect}
use Rattle.syntax.specs.Spacing.{skip}
use Rattle.text.specs.declared.CharPlace.{CharPlace}
use Rattle.spacing.specs.declared.Cell.{Cell}
use Rattle.spacing.specs.Answers.{Step, Skipped, Spaced, After}
use Rattle.spacing.proofs.Places.{tl-at}
use Rattle.spacing.proofs.Tests.{or-false}
use Rattle.reader.specs.Answers.{one_of, closing, Closed}

-- the tests that are asked for
pub one-of-end : (a b : ℕ) → a < 1114112 → b < 1114112 → one_of a b 0x110000 ≡ false
unfolding one_of ch
one-of-end a b h l = rw (ne_eqb 0x110000 a (λ e. omega arith), ne_eqb 0x110000 b (λ e. omega arith))

pub one-of-defines : (c : ℕ) → one_of 0x3d 0x3a c ≡ defines c
unfolding one_of ch defines
one-of-defines c = ap (λ (x : Bool). ch 0x3d c || x) (sym (or-false (ch 0x3a c)))

pub one-of-one : (a c : ℕ) → one_of a a c ≡ ch a c
unfolding one_of
one-of-one a c = go (ch a c)
  where
    go : (x : Bool) → (x || x) ≡ x
    go true = refl
    go false = refl

-- tests that agree close the same
pub closing_same : (f h : ℕ → Bool) → ((c : ℕ) → f c ≡ h c) → (t : Text) → closing f t ≡ closing h t
unfolding closing then expect
closing_same f h e t = go (skip t)
  where
    go : (x : Result (Unit {0})) → then x (λ _ w. expect f w (λ y. skip y)) ≡ then x (λ _ w. expect h w (λ y. skip y))
    go (ok _ w) = ap (λ (b : Bool). guard b (λ _. skip (tl w))) (e (hd w))
    go fail = refl

-- a value that is made of a word once the word is closed
pub closing-map : {A B : Type 0} (f : ℕ → Bool) (g : A → B) (x : Result A)
    → then x (λ v u. then (skip u) (λ _ w. expect f w (λ y. map (λ _. g v) (skip y)))) ≡ map g (then x (λ v u. map (λ _. v) (closing f u)))
unfolding closing then map expect guard
closing-map {A} {B} f g (ok v u) = spaces (skip u)
  where
    last : (z : Result (Unit {0})) → map (λ _. g v) z ≡ map g (map (λ _. v) z)
    last (ok _ _) = refl
    last fail = refl

    test : (w : Text) (b : Bool) → guard b (λ _. map (λ _. g v) (skip (tl w))) ≡ map g (map (λ _. v) (guard b (λ _. skip (tl w))))
    test w true = last (skip (tl w))
    test w false = refl

    spaces : (z : Result (Unit {0})) → then z (λ _ w. expect f w (λ y. map (λ _. g v) (skip y))) ≡ map g (map (λ _. v) (then z (λ _ w. expect f w (λ y. skip y))))
    spaces (ok _ w) = test w (f (hd w))
    spaces fail = refl
closing-map f g fail = refl

-- the answers of `closed`, by the stage that ends it
module _ (f : ℕ → Bool) (s : Text) where
  pub closed-unspaced : (word : Step) → Spaced s word None → Closed f s word None
  unfolding closing then
  closed-unspaced (Some (q, b)) g = rw g
  closed-unspaced None g = tt

  closing_at : {q w : ℕ} → Skipped s q w → closing f (drop q s) ≡ expect f (drop w s) (λ x. skip x)
  unfolding closing then
  closing_at k = rw k.past

  module _ (w : CharPlace) (b : Cell) where
    pub closed-no : (word : Step) → Spaced s word (Some (w, b)) → f (hd (drop w.0 s)) ≡ false → Closed f s word None
    unfolding expect guard
    closed-no (Some (q, c)) k h = closing_at k.skipped ∙ rw h
    closed-no None k h = absurd k

    pub closed-bad : (word : Step) → Spaced s word (Some (w, b)) → f (hd (drop w.0 s)) ≡ true → skip (drop (w.0 + 1) s) ≡ fail → Closed f s word None
    unfolding expect guard
    closed-bad (Some (q, c)) k h l = closing_at k.skipped ∙ rw (h, tl-at s w.0, l)
    closed-bad None k h l = absurd k

    pub closed-got : (word : Step) → Spaced s word (Some (w, b)) → f (hd (drop w.0 s)) ≡ true
        → (y : CharPlace) → Skipped s (w.0 + 1) y.0 → Closed f s word (Some (y, b))
    unfolding expect guard
    closed-got (Some (q, c)) k h y l = let i = k.skipped.onward in let j = l.onward in record {
      onward = record { on = omega arith; within = j.within };
      past = closing_at k.skipped ∙ rw (h, tl-at s w.0, l.past);
      cell = k.cell;
    }
    closed-got None k h y l = absurd k

-- a word that is read and closed
pub closed_after : {A : Type 0} (E F : Result A → Type 0) (f : ℕ → Bool) (code : A → List ℕ) (s : Text) (p lo : ℕ) (o : List ℕ) (at : ℕ)
    → ((x : Result A) → E x → F (then x (λ v u. map (λ _. v) (closing f u))))
    → (r : Step) (o' : List ℕ) (r' : Step) → After E code s p lo o at r o' → Closed f s r r' → After F code s p lo o at r' o'
unfolding then map
closed_after E F f code s p lo o at h (Some (q, b)) o' (Some (y, e)) a k = let i = a.onward in let j = k.onward in let c = a.cells in let d = k.cell in record {
  value = a.value;
  same = rw k.past at (h (ok a.value (drop q.0 s)) a.same);
  onward = record { on = omega arith; within = j.within };
  wrote = rw k.cell a.wrote;
  cells = omega arith;
}
closed_after E F f code s p lo o at h (Some (q, b)) o' None a k = rw k at (h (ok a.value (drop q.0 s)) a.same)
closed_after E F f code s p lo o at h None o' (Some (y, e)) a k = absurd k
closed_after E F f code s p lo o at h None o' None a k = h fail a
