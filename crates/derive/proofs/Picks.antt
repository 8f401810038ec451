-- `pickTree` gives the chosen derivation.
use mathlib.Core.Path.{◌≡◌, ap, subst, ◌∙◌}
use mathlib.Core.Logic.{inl, inr}
use mathlib.Core.List.{List, [], ◌∷◌, ◌++◌}
use Prim.Native.Nat.{ℕ, zero, suc, ◌+◌, ◌-◌, ◌<◌, ◌≤◌, max}
use native.Mathlib.Decide.{dec_le, ℕ_discrete}
use native.Mathlib.Omega.{arith}
use lib.Dec.{T, eqb→eq}
use lib.ListN.{length}
use Rattle.text.specs.Lists.{Text}
use Rattle.tree.specs.Tree.{Symbol, terminal, Grammar}
use Rattle.plain.specs.Plain.{alts, width}
use Rattle.derive.specs.Derive.{Row, end, leaf, node, alternative, Derives, d-end, d-node, height}
use Rattle.derive.specs.Level.{first, can_one, can}
use Rattle.derive.specs.Chosen.{Way, w-end, w-child, NotAfter, Picked, ends, Chosen, ch-end, ch-leaf, ch-node}
use Rattle.derive.specs.Pick.{beside, pick_row, pick_tree}
use Rattle.derive.proofs.Tools.{and_both, both-and, look, is_t, not_t, found}
use Rattle.derive.proofs.Rows.{forward, ends-beside, single-ends}
use Rattle.derive.proofs.Levels.{Spelt, spelt, spelt-can, can_by, can_at, cases, complete-one, can-more}
use Rattle.derive.proofs.Heights.{level-least, least-below, least-can, least-same, way-row, way-can}
use Rattle.derive.proofs.Chosen.{chosen-derives, chosen-join}

module _ (g : Grammar) (r : Text) where
  -- the row t is chosen for the symbols on i to j, with ways of height at most k
  pub record PickedRow (k : ℕ) (ss : List Symbol) (i j : ℕ) (t : Row) : Type 0 where
    pub chosen : Chosen g r t ss i j
    pub high : ℕ
    pub way : Way g r ss i j (ends t) high
    pub low : high ≤ k
    pub first : (fs : List ℕ) (h : ℕ) → Way g r ss i j fs h → h ≤ k → NotAfter (ends t) fs

  -- the smallest first end place, and then the smallest others
  smallest : (k : ℕ) (s : Symbol) (ss : List Symbol) (i j m : ℕ) (es : List ℕ)
      → ((n : ℕ) → i ≤ n → T (can_at g r k s ss i j n) → m ≤ n) → ((fs : List ℕ) (h : ℕ) → Way g r ss m j fs h → h ≤ k → NotAfter es fs)
      → (fs : List ℕ) (h : ℕ) → Way g r (s ∷ ss) i j fs h → h ≤ k → NotAfter (m ∷ es) fs
  smallest k s ss i j m es f u _ _ (w-child {es = fs} {m = n} {h = h} {k = h'} l w) q =
      let le = f n (forward g r l.derives) (both-and (can_one g r k s i n) (can g r k ss n j) (least-can g r k l (omega arith)) (way-can g r k w (omega arith))) in
      elim (ℕ_discrete m n) as (λ _. NotAfter (m ∷ es) (n ∷ fs)) [
        | yes e ↦ inr (e, u fs h' (rw (← e) at w) (omega arith))
        | no e ↦ inl (omega arith)
      ]

  pick-row : (k : ℕ) → ((s : Symbol) (i j : ℕ) → T (can_one g r k s i j) → Chosen g r (pick_tree g r k s i j) (s ∷ []) i j)
      → (ss : List Symbol) (i j : ℕ) → T (can g r k ss i j) → PickedRow k ss i j (pick_row (can_one g r k) (pick_tree g r k) ss i j)
  pick-row k f [] i j h = record {
    chosen = subst (λ (z : ℕ). Chosen g r end [] i z) (eqb→eq i j h) ch-end;
    high = 0;
    way = subst (λ (z : ℕ). Way g r [] i z [] 0) (eqb→eq i j h) w-end;
    low = omega arith;
    first = λ fs h w q. tt;
  }
  pick-row k f (s ∷ ss) i j h =
      let w = found (can_at g r k s ss i j) i (suc j - i) h in
      let m = first (can_at g r k s ss i j) i (suc j - i) in
      let b = and_both (can_one g r k s i m) (can g r k ss m j) w.holds in
      let t = pick_tree g r k s i m in
      let u = pick_row (can_one g r k) (pick_tree g r k) ss m j in
      let c = f s i m b.0 in
      let v = pick-row k f ss m j b.1 in
      let l = least-below g r k s i m b.0 in
      let e : ends (beside t u) ≡ m ∷ ends u = ends-beside t u ∙ ap (λ (es : List ℕ). es ++ ends u) (single-ends g r (chosen-derives g r c)) in
      record {
        chosen = chosen-join g r c v.chosen;
        high = max l.h v.high;
        way = rw e (w-child l.least v.way);
        low = omega (arith, l.below, v.low);
        first = rw e (smallest k s ss i j m (ends u) w.least v.first);
      }

  -- the first level at which the symbol derives the stretch is suc k
  picked : (k : ℕ) (s : Symbol) (i j a : ℕ) (c : Row) → (T (can_one g r k s i j) → ⊥) → T (can_one g r (suc k) s i j) → a < length (alts g s)
      → ((b : ℕ) → T (can_by g r k s i j b) → a ≤ b) → PickedRow k (alternative g s a) i j c → Picked g r s i j a (ends c)
  picked k s i j a c f h la least u =
      let l = level-least g r (suc k) s i j h (λ n d. elim (dec_le (suc k) n) as (λ _. suc k ≤ n) [ yes q ↦ q | no q ↦ absurd (f (can-more g r n k s i j (omega arith) d)) ]) in
      let v = way-row g r u.way in
      let e : k ≡ u.high = omega (arith, u.low, v.high, l.least (node a j v.row end) (d-node la v.derives d-end)) in
      record {
        high = u.high;
        exists = la;
        way = u.way;
        lowest = rw e at l;
        first = λ b n fs lb w q.
            let n≤k : n ≤ k = omega (arith, least-same g r l q) in
            let le = least b (way-can g r k w n≤k) in
            elim (ℕ_discrete a b) [ yes e ↦ inr (e, u.first fs n (rw (← e) at w) n≤k) | no e ↦ inl (omega arith) ];
      }

  pick-leaf : (s : Symbol) (i j : ℕ) → Spelt r s i j → Chosen g r (leaf j end) (s ∷ []) i j
  pick-leaf s i j w =
      let c : Chosen g r (leaf (i + width w.x) end) (terminal w.x ∷ []) i (i + width w.x) = ch-leaf w.fit ch-end in
      rw w.is (rw w.stop at c)

  pub pick-tree : (k : ℕ) (s : Symbol) (i j : ℕ) → T (can_one g r k s i j) → Chosen g r (pick_tree g r k s i j) (s ∷ []) i j
  pick-tree zero s i j h = pick-leaf s i j (spelt r s i j h)
  pick-tree (suc k) s i j h = elim (look (can_one g r k s i j)) as (λ _. Chosen g r (pick_tree g r (suc k) s i j) (s ∷ []) i j) [
    | inl e ↦ (let q : pick_tree g r (suc k) s i j ≡ pick_tree g r k s i j = rw (e, pick_tree) in rw q (pick-tree k s i j (is_t e)))
    | inr e ↦ (elim (cases g r k s i j h) as (λ _. Chosen g r (pick_tree g r (suc k) s i j) (s ∷ []) i j) [
      | inl l ↦ absurd (not_t e (spelt-can g r k s i j l))
      | inr l ↦
          (let w = found (can_by g r k s i j) 0 (length (alts g s)) l in
          let a = first (can_by g r k s i j) 0 (length (alts g s)) in
          let c = pick_row (can_one g r k) (pick_tree g r k) (alternative g s a) i j in
          let q : pick_tree g r (suc k) s i j ≡ node a j c end = rw (e, pick_tree) in
          let u = pick-row k (pick-tree k) (alternative g s a) i j w.holds in
          rw q (ch-node (picked k s i j a c (not_t e) h (omega (arith, w.high)) (λ b d. w.least b (omega arith) d) u) u.chosen ch-end))
    ])
  ]

  -- what a symbol derives it derives by a chosen derivation
  pub chosen-exists : {t : Row} {s : Symbol} {i j : ℕ} → Derives g r t (s ∷ []) i j → (u : Row) × Chosen g r u (s ∷ []) i j
  chosen-exists {t} {s} {i} {j} d = (pick_tree g r (height t) s i j, pick-tree (height t) s i j (complete-one g r (height t) d (omega arith)))
