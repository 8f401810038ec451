-- Laws of tests over the known code points, and of ranks among them.
use mathlib.Core.Path.{◌≡◌, refl, sym, ap, ap₂, ◌∙◌, subst}
use mathlib.Core.Bool.{Bool, true, ◌&&◌, ◌||◌}
use mathlib.Core.Logic.{◌⊎◌, inl, inr, ⊎_elim}
use Prim.Native.Nat.{ℕ, zero, suc, ◌+◌, ◌-◌, ◌<◌, ◌≤◌}
use native.Mathlib.Nat.{add-zero, zero-add, add-suc, suc-add, le_of_suc-le-suc, not-suc-le-zero}
use native.Mathlib.Omega.{arith}
use lib.Dec.{T, leb, ltb}
use borrow.Author.Tests.{lt-ltb, le-ltb, leb-true, le-leb, lt-leb}
use Rattle.text.specs.Utf8.{alphabet, known, width, place_in}
use Rattle.text.specs.Ranks.{total, code_at, rank_in, some_from, some_known}
use Rattle.text.proofs.Tests.{split, T_true, or_case, or_left, or_right}
use Rattle.text.proofs.Table.{below_at}
use Rattle.text.proofs.Spans.{placed, counted}

known-test : ℕ → Bool
known-test k = known (code_at alphabet k)

-- what stands at a place is known
pub known_at : (k : ℕ) → k < 498 → known (code_at alphabet k) ≡ true
unfolding known-test known code_at alphabet width
known_at k h = T_true (known (code_at alphabet k)) (below_at 498 known-test tt k h)

-- every known code point has a place
pub record Placed (c : ℕ) : Type 0 where
  pub place : ℕ
  pub inside : place < 498
  pub is : code_at alphabet place ≡ c

pub place_of : (c : ℕ) → known c ≡ true → Placed c
unfolding known
place_of c e = let p = placed alphabet c e in record { place = place_in alphabet c; inside = omega (arith, p.1, counted); is = p.0 }

-- some number of a stretch passes the test
some-from : (p : ℕ → Bool) (i n k : ℕ) → k < n → T (p (i + k)) → T (some_from p i n)
some-from p i zero k h t = absurd (not-suc-le-zero h)
some-from p i (suc n) zero h t = or_left (p i) (some_from p (suc i) n) (subst (λ (m : ℕ). T (p m)) (add-zero i) t)
some-from p i (suc n) (suc k) h t =
    or_right (p i) (some_from p (suc i) n)
    (some-from p (suc i) n k (le_of_suc-le-suc h) (subst (λ (m : ℕ). T (p m)) (add-suc i k ∙ sym (suc-add i k)) t))

from_some : (p : ℕ → Bool) (i n : ℕ) → T (some_from p i n) → (k : ℕ) × ((k < n) × T (p (i + k)))
from_some p i zero t = absurd t
from_some p i (suc n) t = ⊎_elim
    (λ u. (0, (omega arith, subst (λ (m : ℕ). T (p m)) (sym (add-zero i)) u)))
    (λ u. let r = from_some p (suc i) n u in (suc r.0, (omega arith, subst (λ (m : ℕ). T (p m)) (suc-add i r.0 ∙ sym (add-suc i r.0)) r.1.1)))
    (or_case (p i) (some_from p (suc i) n) t)

pub some_below : (p : ℕ → Bool) (n k : ℕ) → k < n → T (p k) → T (some_from p 0 n)
some_below p n k h t = some-from p 0 n k h (subst (λ (m : ℕ). T (p m)) (sym (zero-add k)) t)

pub below-some : (p : ℕ → Bool) (n : ℕ) → T (some_from p 0 n) → (k : ℕ) × ((k < n) × T (p k))
below-some p n t = let r = from_some p 0 n t in (r.0, (r.1.0, subst (λ (m : ℕ). T (p m)) (zero-add r.0) r.1.1))

some-ext : (p q : ℕ → Bool) (i n : ℕ) → ((k : ℕ) → k < i + n → p k ≡ q k) → some_from p i n ≡ some_from q i n
some-ext p q i zero h = refl
some-ext p q i (suc n) h = ap₂ ◌||◌ (h i (omega arith)) (some-ext p q (suc i) n (λ k l. h k (omega arith)))

-- the same by places
pub some-place : (p : ℕ → Bool) (k : ℕ) → k < 498 → T (p (code_at alphabet k)) → T (some_known p)
unfolding some_known
some-place p k h t = some_below (λ j. p (code_at alphabet j)) (total alphabet) k (omega (arith, counted)) t

pub place-some : (p : ℕ → Bool) → T (some_known p) → (k : ℕ) × ((k < 498) × T (p (code_at alphabet k)))
unfolding some_known
place-some p t = let r = below-some (λ j. p (code_at alphabet j)) (total alphabet) t in (r.0, (omega (arith, counted), r.1.1))

-- a test of places that agrees with one of code points
pub known-by-place : (q p : ℕ → Bool) → ((k : ℕ) → k < 498 → q k ≡ p (code_at alphabet k)) → some_from q 0 498 ≡ some_known p
unfolding some_known
known-by-place q p h = some-ext q (λ j. p (code_at alphabet j)) 0 498 (λ k l. h k (omega arith)) ∙ ap (some_from (λ j. p (code_at alphabet j)) 0) (sym counted)

pub known-ext : (p q : ℕ → Bool) → ((c : ℕ) → p c ≡ q c) → some_known p ≡ some_known q
unfolding some_known
known-ext p q h = some-ext (λ j. p (code_at alphabet j)) (λ j. q (code_at alphabet j)) 0 (total alphabet) (λ k l. h (code_at alphabet k))

pub some_known_lem : (p : ℕ → Bool) (c : ℕ) → known c ≡ true → T (p c) → T (some_known p)
some_known_lem p c e t = let q = place_of c e in some-place p q.place q.inside (subst (λ (m : ℕ). T (p m)) (sym q.is) t)

pub known_some : (p : ℕ → Bool) → T (some_known p) → (c : ℕ) × ((known c ≡ true) × T (p c))
known_some p t = let r = place-some p t in (code_at alphabet r.0, (known_at r.0 r.1.0, r.1.1))

-- what stands at a place, span by span
code-latin : (k : ℕ) → k < 384 → code_at alphabet k ≡ k
unfolding code_at alphabet width
code-latin k h = rw (lt-ltb k 384 h) (zero-add k)

code-combining : (k : ℕ) → 384 ≤ k → k < 496 → code_at alphabet k ≡ k + 384
unfolding code_at alphabet width
code-combining k h l = rw (le-ltb k 384 h, lt-ltb (k - 384) 112 (omega arith)) (omega arith)

code-ties : (k : ℕ) → 496 ≤ k → k < 498 → code_at alphabet k ≡ k + 7759
unfolding code_at alphabet width
code-ties k h l = rw (le-ltb k 384 (omega arith), le-ltb (k - 384) 112 (omega arith), lt-ltb (k - 384 - 112) 2 (omega arith)) (omega arith)

leb-both : (a b x y : ℕ) → (a ≤ b → x ≤ y) → (b < a → y < x) → leb x y ≡ leb a b
leb-both a b x y h l = ⊎_elim
    (λ (g : b < a). lt-leb x y (l g) ∙ sym (lt-leb a b g))
    (λ (g : a ≤ b). le-leb x y (h g) ∙ sym (le-leb a b g))
    (split b a)

-- a place is at a rank or after it as its code point is at the ranked one or after it
pub ranked : (a k : ℕ) → k < 498 → leb (rank_in alphabet a) k ≡ leb a (code_at alphabet k)
unfolding rank_in alphabet width
ranked a k h = leb-both a (code_at alphabet k) (rank_in alphabet a) k (λ g. low g) (λ g. high g)
  where
    cases : (k < 384) ⊎ ((384 ≤ k) × (k < 496)) ⊎ (496 ≤ k)
    cases = ⊎_elim (λ g. inl g) (λ g. inr (⊎_elim (λ l. inl (g, l)) (λ l. inr l) (split k 496))) (split k 384)

    low : a ≤ code_at alphabet k → rank_in alphabet a ≤ k
    low g = ⊎_elim (λ l. let e = code-latin k l in omega arith)
        (λ s. ⊎_elim (λ l. let e = code-combining k l.0 l.1 in omega arith) (λ l. let e = code-ties k l h in omega arith) s) cases

    high : code_at alphabet k < a → k < rank_in alphabet a
    high g = ⊎_elim (λ l. let e = code-latin k l in omega arith)
        (λ s. ⊎_elim (λ l. let e = code-combining k l.0 l.1 in omega arith) (λ l. let e = code-ties k l h in omega arith) s) cases

pub rank_most : (a : ℕ) → rank_in alphabet a ≤ 498
unfolding rank_in alphabet width
rank_most a = omega arith

-- the places from one rank up to another are those of a range's code points
pub rank-above : (a k : ℕ) → k < 498 → rank_in alphabet a ≤ k → a ≤ code_at alphabet k
rank-above a k h l = leb-true a (code_at alphabet k) (sym (ranked a k h) ∙ le-leb (rank_in alphabet a) k l)

pub above-rank : (a k : ℕ) → k < 498 → a ≤ code_at alphabet k → rank_in alphabet a ≤ k
above-rank a k h l = leb-true (rank_in alphabet a) k (ranked a k h ∙ le-leb a (code_at alphabet k) l)

pub rank_below : (a k : ℕ) → k < 498 → k < rank_in alphabet a → code_at alphabet k < a
rank_below a k h l = ⊎_elim (λ g. g) (λ g. let z = above-rank a k h g in absurd (omega arith)) (split (code_at alphabet k) a)

pub below-rank : (a k : ℕ) → k < 498 → code_at alphabet k < a → k < rank_in alphabet a
below-rank a k h l = ⊎_elim (λ g. g) (λ g. let z = rank-above a k h g in absurd (omega arith)) (split k (rank_in alphabet a))

pub range-places : (a b k : ℕ) → k < 498
    → (leb (rank_in alphabet a) k && ltb k (rank_in alphabet (b + 1))) ≡ (leb a (code_at alphabet k) && leb (code_at alphabet k) b)
range-places a b k h = ap₂ ◌&&◌ (ranked a k h) (⊎_elim
    (λ (g : code_at alphabet k < b + 1). lt-ltb k (rank_in alphabet (b + 1)) (below-rank (b + 1) k h g) ∙ sym (le-leb (code_at alphabet k) b (omega arith)))
    (λ (g : b + 1 ≤ code_at alphabet k). le-ltb k (rank_in alphabet (b + 1)) (above-rank (b + 1) k h g) ∙ sym (lt-leb (code_at alphabet k) b (omega arith)))
    (split (code_at alphabet k) (b + 1)))

-- ranks, span by span
pub rank-latin : (c : ℕ) → c ≤ 0x17f → rank_in alphabet c ≡ c
unfolding rank_in alphabet width
rank-latin c h = omega arith

pub rank_between : (c : ℕ) → 0x17f < c → c < 0x300 → rank_in alphabet c ≡ 384
unfolding rank_in alphabet width
rank_between c h l = omega arith

pub rank-combining : (c : ℕ) → 0x300 ≤ c → c ≤ 0x36f → rank_in alphabet c + 0x180 ≡ c
unfolding rank_in alphabet width
rank-combining c h l = omega arith

pub rank-after : (c : ℕ) → 0x36f < c → c < 0x203f → rank_in alphabet c ≡ 496
unfolding rank_in alphabet width
rank-after c h l = omega arith

pub rank-ties : (c : ℕ) → 0x203f ≤ c → c ≤ 0x2040 → rank_in alphabet c + 0x1e4f ≡ c
unfolding rank_in alphabet width
rank-ties c h l = omega arith

pub rank-all : (c : ℕ) → 0x2040 < c → rank_in alphabet c ≡ 498
unfolding rank_in alphabet width
rank-all c h = omega arith
