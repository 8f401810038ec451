-- `can` says exactly which symbols derive which stretches with heights at most k.
use mathlib.Core.Path.{◌≡◌, refl, sym, subst}
use mathlib.Core.Bool.{Bool, false, ◌&&◌}
use mathlib.Core.Logic.{◌⊎◌, inl, inr, ◌↔◌}
use mathlib.Core.List.{List, [], ◌∷◌}
use Prim.Native.Nat.{ℕ, zero, suc, ◌+◌, ◌-◌, ◌<◌, ◌≤◌}
use native.Mathlib.Omega.{arith}
use lib.Dec.{T, eqb, eqb→eq, eqb_refl}
use lib.ListN.{length, drop}
use Rattle.text.specs.Lists.{Text, any}
use Rattle.tree.specs.Tree.{Terminal, Symbol, terminal, nonterminal, group, option, repeat0, repeat1, repeat0sep, repeat1sep, rest, Grammar}
use Rattle.plain.specs.Written.{terminals_in}
use Rattle.plain.specs.Plain.{alts, fits, width}
use Rattle.derive.specs.Derive.{Row, end, leaf, node, alternative, Derives, d-end, d-leaf, d-node, height}
use Rattle.derive.specs.Level.{first, somewhere, spells, adjoin, can_one, can}
use Rattle.derive.specs.Pick.{beside}
use Rattle.derive.proofs.Tools.{and_both, both-and, or_case, or_left, or_right, found, finds}
use Rattle.derive.proofs.Rows.{forward, join, height-beside}

-- a terminal that derives i to j
pub record Spelt (r : Text) (s : Symbol) (i j : ℕ) : Type 0 where
  pub x : Terminal
  pub is : s ≡ terminal x
  pub stop : i + width x ≡ j
  pub fit : T (fits x (drop i r))

pub spelt : (r : Text) (s : Symbol) (i j : ℕ) → T (any (spells r i j) (terminals_in s)) → Spelt r s i j
spelt r (terminal x) i j h = elim (or_case (spells r i j x) false h) as (λ _. Spelt r (terminal x) i j) [
  | inl k ↦ (let b = and_both (eqb (i + width x) j) (fits x (drop i r)) k in record { x = x; is = refl; stop = eqb→eq (i + width x) j b.0; fit = b.1 })
  | inr k ↦ absurd k
]
spelt r (nonterminal m n) i j h = absurd h
spelt r (group b) i j h = absurd h
spelt r (option f) i j h = absurd h
spelt r (repeat0 f) i j h = absurd h
spelt r (repeat1 f) i j h = absurd h
spelt r (repeat0sep f sep) i j h = absurd h
spelt r (repeat1sep f sep) i j h = absurd h
spelt r (rest f sep) i j h = absurd h

module _ (g : Grammar) (r : Text) where
  -- a symbol's alternative a derives i to j with height at most k
  abbrev pub can_by : ℕ → Symbol → ℕ → ℕ → ℕ → Bool
  can_by k s i j a = adjoin (can_one g r k) (alternative g s a) i j

  -- the first symbol ends at m and the others go on to j, with heights at most k
  abbrev pub can_at : ℕ → Symbol → List Symbol → ℕ → ℕ → ℕ → Bool
  can_at k s ss i j m = can_one g r k s i m && adjoin (can_one g r k) ss m j

  pub spelt-can : (k : ℕ) (s : Symbol) (i j : ℕ) → T (any (spells r i j) (terminals_in s)) → T (can_one g r k s i j)
  spelt-can zero s i j h = h
  spelt-can (suc k) s i j h = or_left (any (spells r i j) (terminals_in s)) (somewhere (can_by k s i j) 0 (length (alts g s))) h

  leaf-can : (k : ℕ) (x : Terminal) (i : ℕ) → T (fits x (drop i r)) → T (can_one g r k (terminal x) i (i + width x))
  leaf-can k x i l = spelt-can k (terminal x) i (i + width x) (or_left (spells r i (i + width x) x) false (both-and (eqb (i + width x) (i + width x)) (fits x (drop i r)) (eqb_refl (i + width x)) l))

  pub node-can : (k : ℕ) (s : Symbol) (i j a : ℕ) → a < length (alts g s) → T (can g r k (alternative g s a) i j) → T (can_one g r (suc k) s i j)
  node-can k s i j a h c = or_right (any (spells r i j) (terminals_in s)) (somewhere (can_by k s i j) 0 (length (alts g s))) (finds (can_by k s i j) 0 (length (alts g s)) a (omega arith) (omega arith) c)

  pub both-can : (k : ℕ) (s : Symbol) (ss : List Symbol) (i j m : ℕ) → i ≤ m → m ≤ j → T (can_one g r k s i m) → T (can g r k ss m j) → T (can g r k (s ∷ ss) i j)
  both-can k s ss i j m l h one others = finds (can_at k s ss i j) i (suc j - i) m l (omega arith) (both-and (can_one g r k s i m) (can g r k ss m j) one others)

  pub complete : {t : Row} {ss : List Symbol} {i j : ℕ} (k : ℕ) → Derives g r t ss i j → height t ≤ k → T (can g r k ss i j)
  complete k (d-end {i}) h = eqb_refl i
  complete k (d-leaf {x} {ss} {t} {i} {j} l d) h = both-can k (terminal x) ss i j (i + width x) (omega arith) (forward g r d) (leaf-can k x i l) (complete k d h)
  complete zero (d-node la c d) h = absurd (omega arith)
  complete (suc k) (d-node {s} {ss} {c = c} {t = t} {a = a} {i = i} {m = m} {j = j} la dc d) h =
      both-can (suc k) s ss i j m (forward g r dc) (forward g r d) (node-can k s i m a la (complete k dc (omega arith))) (complete (suc k) d (omega arith))

  pub complete-one : {t : Row} {s : Symbol} {i j : ℕ} (k : ℕ) → Derives g r t (s ∷ []) i j → height t ≤ k → T (can_one g r k s i j)
  complete-one k (d-leaf {x} {i = i} l d-end) h = leaf-can k x i l
  complete-one zero (d-node la c d-end) h = absurd (omega arith)
  complete-one (suc k) (d-node {s} {a = a} {i = i} {m = m} la c d-end) h = node-can k s i m a la (complete k c (omega arith))

  -- a derivation of height at most k
  pub record Low (k : ℕ) (ss : List Symbol) (i j : ℕ) : Type 0 where
    pub row : Row
    pub derives : Derives g r row ss i j
    pub low : height row ≤ k

  adjoin-sound : (k : ℕ) → ((s : Symbol) (i j : ℕ) → T (can_one g r k s i j) → Low k (s ∷ []) i j) → (ss : List Symbol) (i j : ℕ) → T (can g r k ss i j) → Low k ss i j
  adjoin-sound k f [] i j h = record { row = end; derives = subst (λ (z : ℕ). Derives g r end [] i z) (eqb→eq i j h) d-end; low = omega arith }
  adjoin-sound k f (s ∷ ss) i j h =
      let w = found (can_at k s ss i j) i (suc j - i) h in
      let m = first (can_at k s ss i j) i (suc j - i) in
      let b = and_both (can_one g r k s i m) (can g r k ss m j) w.holds in
      let u = f s i m b.0 in
      let v = adjoin-sound k f ss m j b.1 in
      record { row = beside u.row v.row; derives = join g r u.derives v.derives; low = omega (arith, height-beside u.row v.row, u.low, v.low) }

  spelt-low : (k : ℕ) (s : Symbol) (i j : ℕ) → Spelt r s i j → Low k (s ∷ []) i j
  spelt-low k s i j w = record {
    row = leaf (i + width w.x) end;
    derives = subst (λ (z : Symbol). Derives g r (leaf (i + width w.x) end) (z ∷ []) i j) (sym w.is)
        (d-leaf w.fit (subst (λ (z : ℕ). Derives g r end [] (i + width w.x) z) w.stop d-end));
    low = omega arith;
  }

  -- the symbol is a terminal that derives i to j, or derives it by an alternative
  pub cases : (k : ℕ) (s : Symbol) (i j : ℕ) → T (can_one g r (suc k) s i j) → T (any (spells r i j) (terminals_in s)) ⊎ T (somewhere (can_by k s i j) 0 (length (alts g s)))
  cases k s i j h = or_case (any (spells r i j) (terminals_in s)) (somewhere (can_by k s i j) 0 (length (alts g s))) h

  pub sound-one : (k : ℕ) (s : Symbol) (i j : ℕ) → T (can_one g r k s i j) → Low k (s ∷ []) i j
  sound-one zero s i j h = spelt-low zero s i j (spelt r s i j h)
  sound-one (suc k) s i j h = elim (cases k s i j h) as (λ _. Low (suc k) (s ∷ []) i j) [
    | inl e ↦ spelt-low (suc k) s i j (spelt r s i j e)
    | inr e ↦
        (let w = found (can_by k s i j) 0 (length (alts g s)) e in
        let a = first (can_by k s i j) 0 (length (alts g s)) in
        let la : a < length (alts g s) = omega (arith, w.high) in
        let u = adjoin-sound k (sound-one k) (alternative g s a) i j w.holds in
        record { row = node a j u.row end; derives = d-node la u.derives d-end; low = omega (arith, u.low) })
  ]

  pub sound : (k : ℕ) (ss : List Symbol) (i j : ℕ) → T (can g r k ss i j) → Low k ss i j
  sound k = adjoin-sound k (sound-one k)

  -- derivable within k is exactly what `can` computes
  pub can-is : (k : ℕ) (ss : List Symbol) (i j : ℕ) → T (can g r k ss i j) ↔ Low k ss i j
  can-is k ss i j = (sound k ss i j, λ w. complete k w.derives w.low)

  pub can-more : (k n : ℕ) (s : Symbol) (i j : ℕ) → k ≤ n → T (can_one g r k s i j) → T (can_one g r n s i j)
  can-more k n s i j h c = let w = sound-one k s i j c in complete-one n w.derives (omega (arith, w.low))
