-- The skipper finds what the grammar derives, where what follows is no spacing, and nothing else.
use native.Mathlib.Omega.{arith}
use mathlib.Core.Bool.{Bool, true, false, not, ◌||◌}
use mathlib.Core.Path.{◌≡◌, refl, ◌∙◌, subst}
use mathlib.Core.List.{[], ◌∷◌}
use Prim.Native.Nat.{ℕ, zero, suc, ◌+◌}
use lib.Dec.{eqb}
use borrow.Author.Tests.{eqb-true}
use Rattle.text.specs.Lists.{Text, pick}
use Rattle.syntax.specs.Syntax.{Is, is, ch, whitespace, S, cchar, Comment, Inside, RS}
use Rattle.syntax.specs.Result.{hd, Result, ok, then, map, guard}
use Rattle.syntax.specs.Spacing.{spacing, white, opening, closing, other, kind, step, scan, skip, required, spaced}
use mathlib.Core.Logic.{◌⊎◌, inl, inr}
use Rattle.text.specs.Limits.{levels}
use Rattle.syntax.specs.Syntax.Comment.{comment}
use Rattle.syntax.specs.Syntax.Inside.{in-none, in-char, in-comment}
use Rattle.syntax.specs.Syntax.S.{s-none, s-white, s-comment}
use Rattle.syntax.specs.Syntax.RS.{rs-white, rs-comment}
use Rattle.syntax.proofs.Classes.{by-category, clash, or-true, differ}
use Rattle.syntax.proofs.Holds.{Holds, holds-guard, holds_then, holds-map, weaken, none, some}

-- 1. Kinds of characters.
white-not : (c k : ℕ) → whitespace k ≡ false → whitespace c ≡ true → eqb c k ≡ false
white-not c k p e = differ whitespace c k p e

brace-not-white : (whitespace 0x7b ≡ false) × (whitespace 0x7d ≡ false)
unfolding whitespace by-category
brace-not-white = (refl, refl)

kind-white : (c : ℕ) → whitespace c ≡ true → kind c ≡ white
unfolding kind
kind-white c e = rw (white-not c 0x7b brace-not-white.0 e, white-not c 0x7d brace-not-white.1 e, e)

pub kind-open : (c : ℕ) → ch 0x7b c ≡ true → kind c ≡ opening
unfolding kind ch
kind-open c e = rw e

kind-shut : (c : ℕ) → ch 0x7d c ≡ true → kind c ≡ closing
unfolding kind ch
kind-shut c e = rw (eqb-true c 0x7d e)

-- a character of a comment leaves the depth as it is
step-char : (k d c : ℕ) (t : Text) (r : ℕ → ℕ → Result (Unit {0})) → cchar c ≡ true → step (kind c) (suc k) d t r ≡ r (suc k) d
unfolding kind cchar step
step-char k d c t r e = go (eqb c 0x7b) (eqb c 0x7d) (whitespace c) e
  where
    go : (a b x : Bool) → not (a || (b || false)) ≡ true → step (pick a opening (pick b closing (pick x white other))) (suc k) d t r ≡ r (suc k) d
    go true b x e = cc
    go false true x e = cc
    go false false true e = refl
    go false false false e = refl

-- 2. One step of the scan.
pub open_at : (k d c : ℕ) (t : Text) → ch 0x7b c ≡ true → scan (c ∷ t) k (suc d) ≡ scan t (suc k) d
unfolding scan step
open_at k d c t e = rw (kind-open c e)

pub shut_at : (k d c : ℕ) (t : Text) → ch 0x7d c ≡ true → scan (c ∷ t) (suc k) d ≡ scan t k (suc d)
unfolding scan step
shut_at k d c t e = rw (kind-shut c e)

pub char-at : (k d c : ℕ) (t : Text) → cchar c ≡ true → scan (c ∷ t) (suc k) d ≡ scan t (suc k) d
unfolding scan
char-at k d c t e = step-char k d c _ _ e

pub white-at : (c : ℕ) (t : Text) → whitespace c ≡ true → skip (c ∷ t) ≡ skip t
unfolding scan step
white-at c t e = rw (kind-white c e)

pub stop-at : (u : Text) → spacing (hd u) ≡ false → skip u ≡ ok tt u
unfolding scan step kind spacing
stop-at [] e = refl
stop-at (c ∷ u) e = go (eqb c 0x7b) (eqb c 0x7d) (whitespace c) e
  where
    go : (a b x : Bool) → a || x ≡ false → step (pick a opening (pick b closing (pick x white other))) 0 levels (c ∷ u) (λ j e. scan u j e) ≡ ok tt (c ∷ u)
    go true b x e = cc
    go false true x e = refl
    go false false true e = cc
    go false false false e = refl

-- 3. Complete.
mutual
  past-comment : {d : ℕ} {t u : Text} → Comment d t u → (k : ℕ) → scan t k d ≡ scan u k d
  past-comment (comment {d = d} (is p) b (is q)) k = open_at k d _ _ p ∙ past-inside b k ∙ shut_at k d _ _ q

  past-inside : {d : ℕ} {t u : Text} → Inside d t u → (k : ℕ) → scan t (suc k) d ≡ scan u (suc k) d
  past-inside in-none k = refl
  past-inside (in-char {d = d} (is p) b) k = char-at k d _ _ p ∙ past-inside b k
  past-inside (in-comment c b) k = past-comment c (suc k) ∙ past-inside b k

pub past-s : {t u : Text} → S t u → skip t ≡ skip u
past-s s-none = refl
past-s (s-white (is p) r) = white-at _ _ p ∙ past-s r
past-s (s-comment c r) = past-comment c 0 ∙ past-s r

pub complete-s : {t u : Text} → S t u → spacing (hd u) ≡ false → skip t ≡ ok tt u
complete-s {u = u} r e = past-s r ∙ stop-at u e

-- 4. The first character of a spacing.
white-spacing : (c : ℕ) → whitespace c ≡ true → spacing c ≡ true
unfolding spacing
white-spacing c e = rw e (or-true (eqb c 0x7b))

open-spacing : (c : ℕ) → ch 0x7b c ≡ true → spacing c ≡ true
unfolding spacing ch
open-spacing c e = rw e

pub spacing-end : spacing 0x110000 ≡ false
unfolding spacing whitespace by-category
spacing-end = refl

pub head-rs : {t u : Text} → RS t u → spacing (hd t) ≡ true
head-rs (rs-white (is p) s) = white-spacing _ p
head-rs (rs-comment (comment (is p) b q) s) = open-spacing _ p

pub head-s : {t u : Text} → S t u → (t ≡ u) ⊎ (spacing (hd t) ≡ true)
head-s s-none = inl refl
head-s (s-white (is p) s) = inr (white-spacing _ p)
head-s (s-comment (comment (is p) b q) s) = inr (open-spacing _ p)

pub rs-s : {t u : Text} → RS t u → S t u
rs-s (rs-white p s) = s-white p s
rs-s (rs-comment c s) = s-comment c s

pub complete-rs : {t u : Text} → RS t u → spacing (hd u) ≡ false → required t ≡ ok tt u
unfolding required guard
complete-rs r e = rw (head-rs r) (complete-s (rs-s r) e)

pub complete-spaced : {A : Type 0} {t u : Text} (v : A) → S t u → spacing (hd u) ≡ false → spaced v t ≡ ok v u
unfolding spaced map
complete-spaced v r e = rw (complete-s r e)

-- 5. Sound. Inside k comments where d more may open, t leads to u.
data Within : ℕ → ℕ → Text → Text → Type 0 where
  out : {d : ℕ} {t u : Text} → S t u → spacing (hd u) ≡ false → Within zero d t u
  deep : {k d : ℕ} {t v w u : Text} → Inside d t v → Is (ch 0x7d) v w → Within k (suc d) w u → Within (suc k) d t u

into-white : {k d c : ℕ} {t u : Text} → whitespace c ≡ true → cchar c ≡ true → Within k d t u → Within k d (c ∷ t) u
into-white p q (out r e) = out (s-white (is p) r) e
into-white p q (deep b s w) = deep (in-char (is q) b) s w

into-other : {k d c : ℕ} {t u : Text} → cchar c ≡ true → Within (suc k) d t u → Within (suc k) d (c ∷ t) u
into-other q (deep b s w) = deep (in-char (is q) b) s w

all-levels : (d : ℕ) → 0 + suc d ≡ levels → suc d ≡ levels
all-levels d h = omega arith

into-open : {k d c : ℕ} {t u : Text} → ch 0x7b c ≡ true → k + suc d ≡ levels → Within (suc k) d t u → Within k (suc d) (c ∷ t) u
into-open {d = d} {c = c} {t = t} p h (deep b s (out {t = v} r e)) = out (s-comment (subst (λ (n : ℕ). Comment n (c ∷ t) v) (all-levels d h) (comment (is p) b s)) r) e
into-open p h (deep b s (deep b' s' w)) = deep (in-comment (comment (is p) b s) b') s' w

pub still : (c : ℕ) → eqb c 0x7b ≡ false → whitespace c ≡ false → spacing c ≡ false
unfolding spacing
still c p q = rw (p, q)

shut-not-white : (c : ℕ) → eqb c 0x7d ≡ true → whitespace c ≡ false
shut-not-white c q = rw (eqb-true c 0x7d q) brace-not-white.1

pub cchar-at : (c : ℕ) → eqb c 0x7b ≡ false → eqb c 0x7d ≡ false → cchar c ≡ true
unfolding cchar
cchar-at c p q = rw (p, q)

sound-scan : (t : Text) (k d : ℕ) → k + d ≡ levels → Holds (λ _ u. Within k d t u) (scan t k d)
unfolding scan step kind ch
sound-scan [] zero d h = some (out s-none spacing-end)
sound-scan [] (suc k) d h = none
sound-scan (c ∷ t) k d h = go (eqb c 0x7b) (eqb c 0x7d) (whitespace c) refl refl refl k d h (λ j e g. sound-scan t j e g)
  where
    go : (a b x : Bool) → eqb c 0x7b ≡ a → eqb c 0x7d ≡ b → whitespace c ≡ x → (k d : ℕ) → k + d ≡ levels
        → ((j e : ℕ) → j + e ≡ levels → Holds (λ _ u. Within j e t u) (scan t j e))
        → Holds (λ _ u. Within k d (c ∷ t) u) (step (pick a opening (pick b closing (pick x white other))) k d (c ∷ t) (λ j e. scan t j e))
    go true b x p q r k zero h f = none
    go true b x p q r k (suc d) h f = weaken (f (suc k) d (omega arith)) (λ _ u w. into-open p h w)
    go false true x p q r zero d h f = some (out s-none (still c p (shut-not-white c q)))
    go false true x p q r (suc k) d h f = weaken (f k (suc d) (omega arith)) (λ _ u w. deep in-none (is q) w)
    go false false true p q r k d h f = weaken (f k d h) (λ _ u w. into-white r (cchar-at c p q) w)
    go false false false p q r zero d h f = some (out s-none (still c p r))
    go false false false p q r (suc k) d h f = weaken (f (suc k) d h) (λ _ u w. into-other (cchar-at c p q) w)

-- spacing up to what is none
pub record Skipped (t u : Text) : Type 0 where
  pub derived : S t u
  pub stops : spacing (hd u) ≡ false

outermost : {t u : Text} → Within zero levels t u → Skipped t u
outermost (out r e) = record { derived = r; stops = e }

pub sound-s : (t : Text) → Holds (λ _ u. Skipped t u) (skip t)
sound-s t = weaken (sound-scan t 0 levels refl) (λ _ u w. outermost w)

-- spacing that begins with a spacing character is required spacing
pub as-rs : {t u : Text} → S t u → spacing (hd t) ≡ true → spacing (hd u) ≡ false → RS t u
as-rs s-none p q = absurd (clash q p)
as-rs (s-white i s) p q = rs-white i s
as-rs (s-comment i s) p q = rs-comment i s

pub sound-rs : (t : Text) → Holds (λ _ u. RS t u) (required t)
unfolding required
sound-rs t = holds-guard (spacing (hd t)) (λ _ e. weaken (sound-s t) (λ _ u s. as-rs s.derived e s.stops))

pub sound-spaced : {A : Type 0} {P : A → Text → Type 0} (v : A) (t : Text) → ((u : Text) → S t u → P v u) → Holds P (spaced v t)
unfolding spaced
sound-spaced v t k = holds-map (λ _. v) (sound-s t) (λ _ u s. k u s.derived)

-- spacing, and on from there
pub holds-skip : {B : Type 0} {Q : B → Text → Type 0} (t : Text) {k : Unit {0} → Text → Result B} → ((x : Unit {0}) (u : Text) → S t u → Holds Q (k x u)) → Holds Q (then (skip t) k)
holds-skip t f = holds_then (sound-s t) (λ x u s. f x u s.derived)
