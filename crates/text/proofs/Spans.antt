-- Places in a list of spans: of each code point one, and back.
use mathlib.Core.Path.{◌≡◌, refl, sym, ◌∙◌, subst}
use mathlib.Core.Bool.{Bool, true, false, and-false}
use mathlib.Core.List.{List, [], ◌∷◌}
use Prim.Native.Nat.{ℕ, ◌+◌, ◌-◌, ◌<◌, ◌≤◌}
use native.Mathlib.Omega.{arith}
use lib.Dec.{T, leb, ltb}
use borrow.Author.Tests.{lt-ltb, le-ltb, leb-true, lt-leb, le-leb}
use Rattle.text.specs.Lists.{any, Span, span, inside}
use Rattle.text.specs.Utf8.{alphabet, known, width, place_in}
use Rattle.text.specs.Ranks.{total, code_at}
use Rattle.text.proofs.Tests.{clash, and_left, and_right, is_t, T_true}
use Rattle.text.proofs.Table.{below, below_at}

module _ (c : ℕ) (s : Span) (e : inside c s ≡ true) where
  pub above_from : s.from ≤ c
  above_from = leb-true s.from c (T_true (leb s.from c) (and_left (leb s.from c) (leb c s.to) (is_t e)))

  pub below-to : c ≤ s.to
  below-to = leb-true c s.to (T_true (leb c s.to) (and_right (leb s.from c) (leb c s.to) (is_t e)))

-- a code point of the spans stands at its place
pub placed : (ss : List Span) (c : ℕ) → any (inside c) ss ≡ true → (code_at ss (place_in ss c) ≡ c) × (place_in ss c < total ss)
unfolding code_at place_in total width
placed [] c e = absurd (clash refl e)
placed (s ∷ ss) c e = go (placed ss c) (inside c s) refl
  where
    go : (any (inside c) ss ≡ true → (code_at ss (place_in ss c) ≡ c) × (place_in ss c < total ss))
        → (b : Bool) → inside c s ≡ b → (code_at (s ∷ ss) (place_in (s ∷ ss) c) ≡ c) × (place_in (s ∷ ss) c < total (s ∷ ss))
    go ih true i =
        let l = above_from c s i in
        let h = below-to c s i in
        (rw (i, lt-ltb (c - s.from) (s.to + 1 - s.from) (omega arith)) (omega arith), rw i (omega arith))
    go ih false i =
        let r = ih (rw i at e) in
        let w = s.to + 1 - s.from in
        let p = place_in ss c in
        let d : w + p - w ≡ p = omega arith in
        (rw (i, le-ltb (w + p) w (omega arith), d) r.0, rw i (omega (arith, r.1)))

-- any other has the place after all
pub unplaced : (ss : List Span) (c : ℕ) → any (inside c) ss ≡ false → place_in ss c ≡ total ss
unfolding place_in total
unplaced [] c e = refl
unplaced (s ∷ ss) c e = go (unplaced ss c) (inside c s) refl
  where
    go : (any (inside c) ss ≡ false → place_in ss c ≡ total ss) → (b : Bool) → inside c s ≡ b → place_in (s ∷ ss) c ≡ total (s ∷ ss)
    go ih true i = absurd (clash e (rw i))
    go ih false i = rw (i, ih (rw i at e))

pub counted : total alphabet ≡ 498
unfolding total alphabet width
counted = refl

-- a test over all known code points is one over all places
pub every-known : (p : ℕ → Bool) → T (below 498 (λ (k : ℕ). p (code_at alphabet k))) → (c : ℕ) → known c ≡ true → T (p c)
unfolding known
every-known p t c e =
    let q = placed alphabet c e in
    subst (λ (x : ℕ). T (p x)) q.0 (below_at 498 (λ (k : ℕ). p (code_at alphabet k)) t (place_in alphabet c) (subst (λ (n : ℕ). place_in alphabet c < n) counted q.1))

-- known exactly when the place is below their number
pub known-place : (c : ℕ) → ltb (place_in alphabet c) 498 ≡ known c
unfolding known
known-place c = go (any (inside c) alphabet) refl
  where
    go : (b : Bool) → any (inside c) alphabet ≡ b → ltb (place_in alphabet c) 498 ≡ any (inside c) alphabet
    go true e = let l = (placed alphabet c e).1 in lt-ltb (place_in alphabet c) 498 (omega (arith, counted)) ∙ sym e
    go false e = let l = unplaced alphabet c e in le-ltb (place_in alphabet c) 498 (omega (arith, counted)) ∙ sym e

-- the places in the alphabet, span by span
pub place-latin : (c : ℕ) → c ≤ 0x17f → place_in alphabet c ≡ c
unfolding place_in alphabet
place-latin c h = rw (le-leb 0 c (omega arith), le-leb c 0x17f h) (omega arith)

not-latin : (c : ℕ) → 0x17f < c → place_in alphabet c ≡ 0x180 + place_in (span 0x300 0x36f ∷ span 0x203f 0x2040 ∷ []) c
unfolding place_in alphabet width
not-latin c h = rw (lt-leb c 0x17f h, and-false (leb 0 c))

pub place-combining : (c : ℕ) → 0x17f < c → inside c (span 0x300 0x36f) ≡ true → place_in alphabet c ≡ c - 0x180
unfolding place_in
place-combining c h i = not-latin c h ∙ rw i (let l = above_from c (span 0x300 0x36f) i in omega arith)

pub place-ties : (c : ℕ) → 0x17f < c → inside c (span 0x300 0x36f) ≡ false → inside c (span 0x203f 0x2040) ≡ true → place_in alphabet c ≡ c - 0x1e4f
unfolding place_in width
place-ties c h i k = not-latin c h ∙ rw (i, k) (let l = above_from c (span 0x203f 0x2040) k in omega arith)

pub place_none : (c : ℕ) → 0x17f < c → inside c (span 0x300 0x36f) ≡ false → inside c (span 0x203f 0x2040) ≡ false → place_in alphabet c ≡ 498
unfolding place_in width
place_none c h i k = not-latin c h ∙ rw (i, k)
