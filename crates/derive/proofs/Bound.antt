-- Whatever is derivable is derivable with a height of at most the number of symbols times the number of stretches.
use mathlib.Core.Path.{◌≡◌, refl, sym, ap, subst}
use mathlib.Core.Bool.{Bool, true, false}
use mathlib.Core.Logic.{◌⊎◌, inl, inr, ◌↔◌}
use mathlib.Core.List.Memᴰ.{head as in_head}
use mathlib.Core.List.Memᴰ.{tail as in_Tail}
use mathlib.Core.List.{List, [], ◌∷◌, map, Memᴰ as In}
use mathlib.Core.List.Memᴰ.{append_left as in_left}
use mathlib.Core.List.Memᴰ.{append_right as in_right}
use mathlib.Core.List.Memᴰ.{map as in_map}
use Prim.Native.Nat.{ℕ, zero, suc, ◌+◌, ◌*◌, ◌≤◌}
use native.Mathlib.Nat.{suc-mul}
use native.Mathlib.Decide.{dec_le, ℕ_discrete}
use native.Mathlib.Omega.{arith}
use lib.Dec.{T, eqb_refl}
use lib.ListN.{length, length-append, length-map}
use Rattle.text.specs.Lists.{Text, concat_map}
use Rattle.tree.specs.Tree.{Symbol, terminal, Grammar}
use Rattle.plain.specs.Plain.{width}
use Rattle.derive.specs.Derive.{Row, Derives, d-end, d-leaf, d-node, root, Derivation}
use Rattle.derive.specs.Level.{can_one, can}
use Rattle.derive.specs.Bound.{symbols_of, ending_at, stretches, top, derivable}
use Rattle.derive.proofs.Rows.{forward}
use Rattle.derive.proofs.Levels.{node-can, both-can, complete, complete-one, sound, sound-one, can-more, Low}
use Rattle.derive.proofs.Symbols.{in-concat, Inside, alternative-of, root-inside}

-- a number that stays at most b does not rise for ever
pub record Still (f : ℕ → ℕ) (b : ℕ) : Type 0 where
  pub k : ℕ
  pub early : k ≤ b
  pub flat : f (suc k) ≤ f k

climbs : (f : ℕ → ℕ) (b : ℕ) → Still f b ⊎ (suc b ≤ f (suc b))
climbs f zero = elim (dec_le (f 1) (f 0)) as (λ _. Still f 0 ⊎ (1 ≤ f 1)) [ yes q ↦ inl (record { k = 0; early = omega arith; flat = q }) | no q ↦ inr (omega arith) ]
climbs f (suc b) = elim (climbs f b) as (λ _. Still f (suc b) ⊎ (suc (suc b) ≤ f (suc (suc b)))) [
  | inl w ↦ inl (record { k = w.k; early = omega (arith, w.early); flat = w.flat })
  | inr w ↦ (elim (dec_le (f (suc (suc b))) (f (suc b))) as (λ _. Still f (suc b) ⊎ (suc (suc b) ≤ f (suc (suc b)))) [
    | yes q ↦ inl (record { k = suc b; early = omega arith; flat = q })
    | no q ↦ inr (omega arith)
  ])
]

pub still : (f : ℕ → ℕ) (b : ℕ) → ((k : ℕ) → f k ≤ b) → Still f b
still f b h = elim (climbs f b) as (λ _. Still f b) [ inl w ↦ w | inr w ↦ absurd (omega (arith, h (suc b))) ]

abbrev pub num : Bool → ℕ
num true = 1
num false = 0

num-mono : (a b : Bool) → (T a → T b) → num a ≤ num b
num-mono true true h = omega arith
num-mono true false h = absurd (h tt)
num-mono false b h = omega arith

num-same : (a b : Bool) → num b ≤ num a → T b → T a
num-same true b h t = tt
num-same false true h t = absurd (omega arith)
num-same false false h t = t

module _ {A : Type 0} where
  -- how many elements pass
  abbrev pub count : (A → Bool) → List A → ℕ
  count p [] = 0
  count p (x ∷ xs) = num (p x) + count p xs

  pub count-le : (p : A → Bool) (xs : List A) → count p xs ≤ length xs
  count-le p [] = omega arith
  count-le p (x ∷ xs) = omega (arith, count-le p xs, num-mono (p x) true (λ _. tt))

  count-mono : (p q : A → Bool) → ((x : A) → T (p x) → T (q x)) → (xs : List A) → count p xs ≤ count q xs
  count-mono p q h [] = omega arith
  count-mono p q h (x ∷ xs) = omega (arith, count-mono p q h xs, num-mono (p x) (q x) (h x))

  -- as many: the same ones
  pub count_same : (p q : A → Bool) → ((x : A) → T (p x) → T (q x)) → (xs : List A) → count q xs ≤ count p xs → {x : A} → In x xs → T (q x) → T (p x)
  count_same p q h (y ∷ ys) l (in_head e) t = subst (λ (z : A). T (p z)) (sym e) (num-same (p y) (q y) (omega (arith, count-mono p q h ys)) (subst (λ (z : A). T (q z)) e t))
  count_same p q h (y ∷ ys) l (in_Tail m) t = count_same p q h ys (omega (arith, num-mono (p y) (q y) (h y))) m t
  count_same p q h [] l x5 t = elim x5 [ ]

pub in-ending : (i j n : ℕ) → i ≤ n → In (i, j) (ending_at j n)
in-ending i j zero h = let e : i ≡ 0 = omega arith in in_head (λ ι. (e ι, j))
in-ending i j (suc n) h = elim (ℕ_discrete i (suc n)) as (λ _. In (i, j) (ending_at j (suc n))) [
  | yes e ↦ in_head (λ ι. (e ι, j))
  | no e ↦ in_Tail (in-ending i j n (omega arith))
]

in-stretches : (i j n : ℕ) → i ≤ j → j ≤ n → In (i, j) (stretches n)
in-stretches i j zero h l = let e : j ≡ 0 = omega arith in let e' : i ≡ 0 = omega arith in in_head (λ ι. (e' ι, e ι))
in-stretches i j (suc n) h l = elim (ℕ_discrete j (suc n)) as (λ _. In (i, j) (stretches (suc n))) [
  | yes e ↦ in_left (stretches n) (subst (λ (z : ℕ). In (i, j) (ending_at z z)) e (in-ending i j j h))
  | no e ↦ in_right (ending_at (suc n) (suc n)) (in-stretches i j n h (omega arith))
]

ending-count : (j n : ℕ) → length (ending_at j n) ≡ suc n
ending-count j zero = refl
ending-count j (suc n) = ap suc (ending-count j n)

-- "(n+1) × (n+2) / 2"
pub stretches-count : (n : ℕ) → 2 * length (stretches n) ≡ (n + 1) * (n + 2)
stretches-count zero = refl
stretches-count (suc n) = omega (arith, length-append (ending_at (suc n) (suc n)) (stretches n), ending-count (suc n) (suc n), stretches-count n)

-- a symbol on a stretch
abbrev pub Cell : Type 0
Cell = Symbol × (ℕ × ℕ)

abbrev pub cells_of : List (ℕ × ℕ) → Symbol → List Cell
cells_of ps s = map (λ p. (s, p)) ps

pub cells-length : (ps : List (ℕ × ℕ)) (ss : List Symbol) → length (concat_map (cells_of ps) ss) ≡ length ss * length ps
cells-length ps [] = omega arith
cells-length ps (s ∷ ss) = omega (
  arith,
  length-append (cells_of ps s) (concat_map (cells_of ps) ss),
  length-map {B = Cell} ps
      (λ (p : ℕ × ℕ). (s, p)),
  cells-length ps ss,
  suc-mul (length ss) (length ps),
)

module _ (g : Grammar) (r : Text) where
  abbrev cells : List Cell
  cells = concat_map (cells_of (stretches (length r))) (symbols_of g)

  abbrev full : ℕ → Cell → Bool
  full k c = can_one g r k c.0 c.1.0 c.1.1

  -- level suc k adds nothing to level k
  Settled : ℕ → Type 0
  Settled k = (s : Symbol) (i j : ℕ) → In s (symbols_of g) → i ≤ j → j ≤ length r → T (can_one g r (suc k) s i j) → T (can_one g r k s i j)

  -- some level of at most `top` is settled
  record Last : Type 0 where
    k : ℕ
    early : k ≤ top g r
    settled : Settled k

  last : Last
  unfolding Settled
  last =
      let e = cells-length (stretches (length r)) (symbols_of g) in
      let w = still (λ (k : ℕ). count (full k) cells) (top g r) (λ k. omega (arith, count-le (full k) cells)) in
      let up : (x : Cell) → T (full w.k x) → T (full (suc w.k) x) = λ x. can-more g r w.k (suc w.k) x.0 x.1.0 x.1.1 (omega arith) in
      record {
        k = w.k;
        early = w.early;
        settled = λ s i j h l q. count_same (full w.k) (full (suc w.k)) up cells w.flat {x = (s, (i, j))}
            (in-concat (cells_of (stretches (length r))) (symbols_of g) h (in_map (λ (p : ℕ × ℕ). (s, p)) (in-stretches i j (length r) l q)));
      }

  -- from a settled level on there is nothing new
  settles : (k : ℕ) → Settled k → {t : Row} {ss : List Symbol} {i j : ℕ} → Inside g ss → j ≤ length r → Derives g r t ss i j → T (can g r k ss i j)
  unfolding Settled
  settles k f h l (d-end {i}) = eqb_refl i
  settles k f h l (d-leaf {x} {ss} {i = i} {j = j} b d) =
      both-can g r k (terminal x) ss i j (i + width x) (omega arith) (forward g r d) (complete-one g r k (d-leaf {x = x} b d-end) (omega arith)) (settles k f h.1 l d)
  settles k f h l (d-node {s} {ss} {a = a} {i = i} {m = m} {j = j} la c d) =
      let q = forward g r d in
      let one = f s i m h.0 (forward g r c) (omega arith) (node-can g r k s i m a la (settles k f (alternative-of g h.0 a) (omega arith) c)) in
      both-can g r k s ss i j m (forward g r c) q one (settles k f h.1 l d)

  pub bounded : {t : Row} {ss : List Symbol} {i j : ℕ} → Inside g ss → j ≤ length r → Derives g r t ss i j → Low g r (top g r) ss i j
  bounded {ss = ss} {i = i} {j = j} h l d =
      let w = sound g r last.k ss i j (settles last.k last.settled h l d) in
      record { row = w.row; derives = w.derives; low = omega (arith, w.low, last.early) }

  pub bounded-one : {t : Row} {s : Symbol} {i j : ℕ} → In s (symbols_of g) → j ≤ length r → Derives g r t (s ∷ []) i j → T (can_one g r (top g r) s i j)
  bounded-one h l d = let w = bounded (h, tt) l d in complete-one g r (top g r) w.derives w.low

  pub bounded-can : {t : Row} {ss : List Symbol} {i j : ℕ} → Inside g ss → j ≤ length r → Derives g r t ss i j → T (can g r (top g r) ss i j)
  bounded-can h l d = let w = bounded h l d in complete g r (top g r) w.derives w.low

  -- `derivable` decides whether the record has a derivation
  pub derivable-is : T (derivable g r) ↔ ((t : Row) × Derivation g r t)
  derivable-is = (λ h. let w = sound-one g r (top g r) (root g) 0 (length r) h in (w.row, w.derives), λ w. bounded-one (root-inside g).0 (omega arith) w.1)
