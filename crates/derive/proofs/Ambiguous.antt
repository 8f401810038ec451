-- `ambiguousOf` finds another way at a node of a derivation exactly where there is one.
use mathlib.Core.Path.{◌≡◌, refl, sym, subst}
use mathlib.Core.Bool.{Bool, true, false, ◌&&◌, ◌||◌}
use mathlib.Core.Logic.{◌⊎◌, inl, inr, ◌↔◌}
use mathlib.Core.List.{List, [], ◌∷◌, nil≢cons, head-eq_of_cons-eq, tail-eq_of_cons-eq, Memᴰ as In}
use Prim.Native.Nat.{ℕ, suc, ◌-◌, ◌<◌, ◌≤◌, max}
use native.Mathlib.Omega.{arith}
use lib.Dec.{T, eqb, eqb→eq, eqb_refl}
use lib.ListN.{length}
use Rattle.text.specs.Lists.{Text}
use Rattle.tree.specs.Tree.{Symbol, Grammar}
use Rattle.plain.specs.Plain.{alts}
use Rattle.derive.specs.Derive.{Row, node, alternative, Derives, d-end, d-leaf, d-node, root, Derivation}
use Rattle.derive.specs.Level.{first, can_one, can}
use Rattle.derive.specs.Bound.{symbols_of, top}
use Rattle.derive.specs.Chosen.{Way, w-end, w-child, ends, Reading, Second}
use Rattle.derive.specs.Another.{OtherWay, AnotherWay, aw-skip, aw-here, aw-inside, aw-later, elsewhere, other_by, has_other, ambiguous_in, ambiguous_of}
use Rattle.derive.proofs.Tools.{and_both, both-and, or_case, or_left, or_right, look, is_t, not_t, found, finds}
use Rattle.derive.proofs.Rows.{forward}
use Rattle.derive.proofs.Heights.{least-below, way-row, can-way}
use Rattle.derive.proofs.Symbols.{Inside, alternative-of, root-inside}
use Rattle.derive.proofs.Bound.{bounded-one, bounded-can}
use Rattle.derive.proofs.Chosen.{chosen-derives}
use Rattle.derive.proofs.Another.{second_is}

-- a test by whether two numbers are equal
abbrev if_same : Bool → Bool → Bool → Bool
if_same b x y = elim b as (λ _. Bool) [ true ↦ x | false ↦ y ]

if-same : (m n : ℕ) (x y : Bool) → T (if_same (eqb m n) x y) → ((m ≡ n) × T x) ⊎ ((m ≡ n → ⊥) × T y)
if-same m n x y h = elim (look (eqb m n)) as (λ _. ((m ≡ n) × T x) ⊎ ((m ≡ n → ⊥) × T y)) [
  | inl e ↦ inl (eqb→eq m n (is_t e), subst (λ (b : Bool). T (if_same b x y)) e h)
  | inr e ↦ inr (λ q. not_t e (subst (λ (z : ℕ). T (eqb m z)) q (eqb_refl m)), subst (λ (b : Bool). T (if_same b x y)) e h)
]

same_if : (m n : ℕ) (x y : Bool) → (m ≡ n → T x) → ((m ≡ n → ⊥) → T y) → T (if_same (eqb m n) x y)
same_if m n x y f h = elim (look (eqb m n)) as (λ _. T (if_same (eqb m n) x y)) [
  | inl e ↦ subst (λ (b : Bool). T (if_same b x y)) (sym e) (f (eqb→eq m n (is_t e)))
  | inr e ↦ subst (λ (b : Bool). T (if_same b x y)) (sym e) (h (λ q. not_t e (subst (λ (z : ℕ). T (eqb m z)) q (eqb_refl m))))
]

module _ (g : Grammar) (r : Text) where
  -- a way, with other end places than es
  record Elsewhere (ss : List Symbol) (i j : ℕ) (es : List ℕ) : Type 0 where
    places : List ℕ
    high : ℕ
    way : Way g r ss i j places high
    other : places ≡ es → ⊥

  shorter : {i j e h : ℕ} {es fs : List ℕ} → Way g r [] i j fs h → fs ≡ e ∷ es → ⊥
  shorter w-end q = nil≢cons q

  longer : {s : Symbol} {ss : List Symbol} {i j h : ℕ} {fs : List ℕ} → Way g r (s ∷ ss) i j fs h → fs ≡ [] → ⊥
  longer (w-child l w) q = nil≢cons (sym q)

  -- the first symbol ends at m, the others elsewhere than at es if m is e
  abbrev else_at : ℕ → Symbol → List Symbol → ℕ → ℕ → ℕ → List ℕ → ℕ → Bool
  else_at k s ss i j e es m = can_one g r k s i m && if_same (eqb m e) (elsewhere (can_one g r k) ss m j es) (can g r k ss m j)

  elsewhere-sound : (k : ℕ) (ss : List Symbol) (i j : ℕ) (es : List ℕ) → T (elsewhere (can_one g r k) ss i j es) → Elsewhere ss i j es
  elsewhere-sound k [] i j [] h = absurd h
  elsewhere-sound k [] i j (e ∷ es) h = let v = can-way g r k [] i j h in record { places = v.places; high = v.high; way = v.way; other = shorter v.way }
  elsewhere-sound k (s ∷ ss) i j [] h = let v = can-way g r k (s ∷ ss) i j h in record { places = v.places; high = v.high; way = v.way; other = longer v.way }
  elsewhere-sound k (s ∷ ss) i j (e ∷ es) h =
      let m = first (else_at k s ss i j e es) i (suc j - i) in
      let w = found (else_at k s ss i j e es) i (suc j - i) h in
      let b = and_both (can_one g r k s i m) (if_same (eqb m e) (elsewhere (can_one g r k) ss m j es) (can g r k ss m j)) w.holds in
      let l = least-below g r k s i m b.0 in
      elim (if-same m e (elsewhere (can_one g r k) ss m j es) (can g r k ss m j) b.1) as (λ _. Elsewhere (s ∷ ss) i j (e ∷ es)) [
        | inl c ↦ (let v = elsewhere-sound k ss m j es c.1 in
            record { places = m ∷ v.places; high = max l.h v.high; way = w-child l.least v.way; other = λ q. v.other (tail-eq_of_cons-eq q) })
        | inr c ↦ (let v = can-way g r k ss m j c.1 in
            record { places = m ∷ v.places; high = max l.h v.high; way = w-child l.least v.way; other = λ q. c.0 (head-eq_of_cons-eq q) })
      ]

  way-bounded : {ss : List Symbol} {i j h : ℕ} {fs : List ℕ} → Inside g ss → j ≤ length r → Way g r ss i j fs h → T (can g r (top g r) ss i j)
  way-bounded n l w = bounded-can g r n l (way-row g r w).derives

  elsewhere-complete : {ss : List Symbol} {i j h : ℕ} {fs : List ℕ} (es : List ℕ) → Inside g ss → j ≤ length r → Way g r ss i j fs h
      → (fs ≡ es → ⊥) → T (elsewhere (can_one g r (top g r)) ss i j es)
  elsewhere-complete [] n l w-end f = absurd (f refl)
  elsewhere-complete (e ∷ es) n l (w-end {i}) f = eqb_refl i
  elsewhere-complete [] n l (w-child a w) f = way-bounded n l (w-child a w)
  elsewhere-complete (e ∷ es) n l (w-child {s} {ss} {i = i} {m = m} {j = j} a w) f =
      let k = top g r in
      let u = forward g r (way-row g r w).derives in
      let one = bounded-one g r n.0 (omega arith) a.derives in
      finds (else_at k s ss i j e es) i (suc j - i) m (forward g r a.derives) (omega arith)
      (both-and (can_one g r k s i m) (if_same (eqb m e) (elsewhere (can_one g r k) ss m j es) (can g r k ss m j)) one
      (same_if m e (elsewhere (can_one g r k) ss m j es) (can g r k ss m j) (λ q. elsewhere-complete {ss = ss} es n.1 l w (λ p. f (λ ι. q ι ∷ p ι))) (λ _. way-bounded n.1 l w)))

  -- at one node
  other-sound : {s : Symbol} {i j a : ℕ} {es : List ℕ} → T (has_other g r s i j a es) → OtherWay g r s i j a es
  other-sound {s} {i} {j} {a} {es} h =
      let k = top g r in
      let b = first (other_by g r s i j a es) 0 (length (alts g s)) in
      let w = found (other_by g r s i j a es) 0 (length (alts g s)) h in
      let lb : b < length (alts g s) = omega (arith, w.high) in
      elim (if-same b a (elsewhere (can_one g r k) (alternative g s b) i j es) (can g r k (alternative g s b) i j) w.holds) as (λ _. OtherWay g r s i j a es) [
        | inl c ↦ (let v = elsewhere-sound k (alternative g s b) i j es c.1 in
            record { number = b; places = v.places; high = v.high; exists = lb; way = v.way; other = λ _ q. v.other q })
        | inr c ↦ (let v = can-way g r k (alternative g s b) i j c.1 in
            record { number = b; places = v.places; high = v.high; exists = lb; way = v.way; other = λ q _. c.0 q })
      ]

  other-complete : {s : Symbol} {i j a : ℕ} {es : List ℕ} → In s (symbols_of g) → j ≤ length r → OtherWay g r s i j a es → T (has_other g r s i j a es)
  other-complete {s} {i} {j} {a} {es} n l w =
      let k = top g r in
      let b = w.number in
      let ni = alternative-of g n b in
      finds (other_by g r s i j a es) 0 (length (alts g s)) b (omega arith) (omega (arith, w.exists))
      (same_if b a (elsewhere (can_one g r k) (alternative g s b) i j es) (can g r k (alternative g s b) i j) (λ q. elsewhere-complete es ni l w.way (w.other q)) (λ _. way-bounded ni l w.way))

  -- at all nodes of a row
  ambiguous-sound : {t : Row} {ss : List Symbol} {i j : ℕ} → Derives g r t ss i j → T (ambiguous_in g r t ss i) → AnotherWay g r t ss i j
  ambiguous-sound d-end h = absurd h
  ambiguous-sound (d-leaf l d) h = aw-skip (ambiguous-sound d h)
  ambiguous-sound (d-node {s} {ss} {c} {t} {a} {i} {m} {j} la k d) h =
      let x = has_other g r s i m a (ends c) in
      let y = ambiguous_in g r c (alternative g s a) i in
      let z = ambiguous_in g r t ss m in
      elim (or_case x (y || z) h) as (λ _. AnotherWay g r (node a m c t) (s ∷ ss) i j) [
        | inl q ↦ aw-here (other-sound q)
        | inr q ↦ (elim (or_case y z q) as (λ _. AnotherWay g r (node a m c t) (s ∷ ss) i j) [
          | inl p ↦ aw-inside (ambiguous-sound k p)
          | inr p ↦ aw-later (ambiguous-sound d p)
        ])
      ]

  ambiguous-complete : {t : Row} {ss : List Symbol} {i j : ℕ} → Derives g r t ss i j → Inside g ss → j ≤ length r → AnotherWay g r t ss i j → T (ambiguous_in g r t ss i)
  ambiguous-complete (d-leaf l d) n q (aw-skip w) = ambiguous-complete d n.1 q w
  ambiguous-complete (d-node {s} {ss} {c} {t} {a} {i} {m} la k d) n q (aw-here w) =
      let l = forward g r d in
      or_left (has_other g r s i m a (ends c)) (ambiguous_in g r c (alternative g s a) i || ambiguous_in g r t ss m) (other-complete n.0 (omega arith) w)
  ambiguous-complete (d-node {s} {ss} {c} {t} {a} {i} {m} la k d) n q (aw-inside w) =
      let l = forward g r d in
      let y = ambiguous_in g r c (alternative g s a) i in
      let z = ambiguous_in g r t ss m in
      or_right (has_other g r s i m a (ends c)) (y || z) (or_left y z (ambiguous-complete k (alternative-of g n.0 a) (omega arith) w))
  ambiguous-complete (d-node {s} {ss} {c} {t} {a} {i} {m} la k d) n q (aw-later w) =
      let y = ambiguous_in g r c (alternative g s a) i in
      let z = ambiguous_in g r t ss m in
      or_right (has_other g r s i m a (ends c)) (y || z) (or_right y z (ambiguous-complete d n.1 q w))
  ambiguous-complete (d-end {i = i}) n q x16 = elim x16 [ ]

  -- for any derivation of the record
  pub ambiguous-is : {t : Row} → Derivation g r t → T (ambiguous_of g r t) ↔ AnotherWay g r t (root g ∷ []) 0 (length r)
  ambiguous-is d = (ambiguous-sound d, ambiguous-complete d (root-inside g) (omega arith))

  -- for the chosen one
  pub ambiguous-second : {t : Row} {p : List ℕ} → Reading g r t p → T (ambiguous_of g r t) ↔ Second g r p
  ambiguous-second w =
      let a = ambiguous-is (chosen-derives g r w.chosen) in
      let b = second_is g r w in
      (λ h. b.1 (a.0 h), λ h. a.1 (b.0 h))
