-- Least heights and ways: from derivations, and back.
use mathlib.Core.Path.{◌≡◌, refl, sym, ap, ◌∙◌}
use mathlib.Core.Bool.{Bool}
use mathlib.Core.Logic.{◌↔◌}
use mathlib.Core.List.{List, [], ◌∷◌, ◌++◌, head-eq_of_cons-eq, tail-eq_of_cons-eq}
use Prim.Native.Nat.{ℕ, suc, ◌<◌, ◌≤◌, max}
use native.Mathlib.Omega.{arith}
use lib.Dec.{T}
use lib.ListN.{length}
use Rattle.text.specs.Lists.{Text}
use Rattle.tree.specs.Tree.{Symbol, Grammar}
use Rattle.plain.specs.Plain.{alts}
use Rattle.derive.specs.Derive.{Row, end, node, alternative, Derives, d-end, d-leaf, d-node, height}
use Rattle.derive.specs.Level.{first, can_one, can}
use Rattle.derive.specs.Pick.{beside}
use Rattle.derive.specs.Chosen.{Least, Way, w-end, w-child, ends}
use Rattle.derive.proofs.Tools.{found, finds}
use Rattle.derive.proofs.Rows.{join, split, height-beside, ends-beside, single-ends}
use Rattle.derive.proofs.Levels.{complete, complete-one, sound-one, sound}

module _ (g : Grammar) (r : Text) where
  -- the first level at which a symbol derives a stretch is its least height there
  pub level-least : (k : ℕ) (s : Symbol) (i j : ℕ) → T (can_one g r k s i j) → ((h : ℕ) → T (can_one g r h s i j) → k ≤ h) → Least g r s i j k
  level-least k s i j h f =
      let w = sound-one g r k s i j h in
      let above : (t : Row) → Derives g r t (s ∷ []) i j → k ≤ height t = λ t d. f (height t) (complete-one g r (height t) d (omega arith)) in
      record { tree = w.row; derives = w.derives; attained = omega (arith, w.low, above w.row w.derives); least = above }

  -- a least height of at most k
  pub record LeastBelow (k : ℕ) (s : Symbol) (i j : ℕ) : Type 0 where
    pub h : ℕ
    pub least : Least g r s i j h
    pub below : h ≤ k

  pub least-below : (k : ℕ) (s : Symbol) (i j : ℕ) → T (can_one g r k s i j) → LeastBelow k s i j
  least-below k s i j h =
      let p : ℕ → Bool = λ (n : ℕ). can_one g r n s i j in
      let w = found p 0 (suc k) (finds p 0 (suc k) k (omega arith) (omega arith) h) in
      record { h = first p 0 (suc k); least = level-least (first p 0 (suc k)) s i j w.holds (λ n c. w.least n (omega arith) c); below = omega (arith, w.high) }

  pub least-of : {t : Row} {s : Symbol} {i j : ℕ} → Derives g r t (s ∷ []) i j → LeastBelow (height t) s i j
  least-of {t} {s} {i} {j} d = least-below (height t) s i j (complete-one g r (height t) d (omega arith))

  pub least-can : {s : Symbol} {i j h : ℕ} (k : ℕ) → Least g r s i j h → h ≤ k → T (can_one g r k s i j)
  least-can k l q = complete-one g r k l.derives (omega (arith, l.attained))

  pub least-same : {s : Symbol} {i j h k : ℕ} → Least g r s i j h → Least g r s i j k → h ≡ k
  least-same a b = omega (arith, a.least b.tree b.derives, b.least a.tree a.derives, a.attained, b.attained)

  -- the row of a way whose trees are all least
  pub record WayRow (ss : List Symbol) (i j : ℕ) (es : List ℕ) (k : ℕ) : Type 0 where
    pub row : Row
    pub derives : Derives g r row ss i j
    pub places : ends row ≡ es
    pub high : height row ≡ k

  pub way-row : {ss : List Symbol} {i j : ℕ} {es : List ℕ} {k : ℕ} → Way g r ss i j es k → WayRow ss i j es k
  way-row w-end = record { row = end; derives = d-end; places = refl; high = refl }
  way-row (w-child {es = es} l w) =
      let u = way-row w in
      record {
        row = beside l.tree u.row;
        derives = join g r l.derives u.derives;
        places = ends-beside l.tree u.row ∙ (λ ι. single-ends g r l.derives ι ++ u.places ι);
        high = omega (arith, height-beside l.tree u.row, l.attained, u.high);
      }

  pub way-can : {ss : List Symbol} {i j : ℕ} {es : List ℕ} {k : ℕ} (n : ℕ) → Way g r ss i j es k → k ≤ n → T (can g r n ss i j)
  way-can n w q = let u = way-row w in complete g r n u.derives (omega (arith, u.high))

  -- the way that a row takes
  pub record RowWay (t : Row) (ss : List Symbol) (i j : ℕ) : Type 0 where
    pub k : ℕ
    pub way : Way g r ss i j (ends t) k
    pub below : k ≤ height t

  pub row-way : {t : Row} {ss : List Symbol} {i j : ℕ} → Derives g r t ss i j → RowWay t ss i j
  row-way d-end = record { k = 0; way = w-end; below = omega arith }
  row-way (d-leaf l d) =
      let h = least-of (d-leaf l d-end) in
      let u = row-way d in
      record { k = max h.h u.k; way = w-child h.least u.way; below = omega (arith, h.below, u.below) }
  row-way (d-node la c d) =
      let h = least-of (d-node la c d-end) in
      let u = row-way d in
      record { k = max h.h u.k; way = w-child h.least u.way; below = omega (arith, h.below, u.below) }

  -- a way, of any height
  pub record SomeWay (ss : List Symbol) (i j : ℕ) : Type 0 where
    pub places : List ℕ
    pub high : ℕ
    pub way : Way g r ss i j places high

  pub can-way : (k : ℕ) (ss : List Symbol) (i j : ℕ) → T (can g r k ss i j) → SomeWay ss i j
  can-way k ss i j h =
      let u = sound g r k ss i j h in
      let w = row-way u.derives in
      record { places = ends u.row; high = w.k; way = w.way }

  -- The step between children's least heights and heights of derivations, first for given end places: a way's k is the least
  -- height of the rows that end there (`way-row` has it),
  pub way-least : {ss : List Symbol} {i j k : ℕ} {es : List ℕ} → Way g r ss i j es k → (t : Row) → Derives g r t ss i j → ends t ≡ es → k ≤ height t
  way-least w-end t d e = omega arith
  way-least (w-child {ss = ss} {es = es} {m = m} {j = j} l w) t d e =
      let v = split g r d in
      let em : v.place ≡ m = head-eq_of_cons-eq (sym v.places ∙ e) in
      let ee : ends v.others ≡ es = tail-eq_of_cons-eq (sym v.places ∙ e) in
      let h1 = l.least v.tree (rw em at v.one) in
      let h2 = way-least w v.others (rw em at v.rest) ee in
      omega (arith, ap height v.whole, height-beside v.tree v.others)

  -- then for a node: its least height is 1 plus the least k of its ways
  pub record LowestWay (s : Symbol) (i j k : ℕ) : Type 0 where
    pub number : ℕ
    pub places : List ℕ
    pub exists : number < length (alts g s)
    pub way : Way g r (alternative g s number) i j places k
    pub lowest : (b h : ℕ) (fs : List ℕ) → b < length (alts g s) → Way g r (alternative g s b) i j fs h → k ≤ h

  ways-above : {t : Row} {s : Symbol} {i j k : ℕ} → LowestWay s i j k → Derives g r t (s ∷ []) i j → suc k ≤ height t
  ways-above w (d-leaf l d-end) = absurd (omega (arith, w.exists))
  ways-above w (d-node {c = c} {a = a} la dc d-end) = let v = row-way dc in omega (arith, w.lowest a v.k (ends c) la v.way, v.below)

  ways-least : {s : Symbol} {i j k : ℕ} → LowestWay s i j k → Least g r s i j (suc k)
  ways-least {j = j} w =
      let u = way-row w.way in
      record { tree = node w.number j u.row end; derives = d-node w.exists u.derives d-end; attained = omega (arith, u.high); least = λ t d. ways-above w d }

  way_above : {s : Symbol} {i j k b h : ℕ} {fs : List ℕ} → ((u : Row) → Derives g r u (s ∷ []) i j → suc k ≤ height u)
      → b < length (alts g s) → Way g r (alternative g s b) i j fs h → k ≤ h
  way_above {j = j} {b = b} f lb w = let u = way-row w in omega (arith, u.high, f (node b j u.row end) (d-node lb u.derives d-end))

  least-ways : {t : Row} {s : Symbol} {i j k : ℕ} → Derives g r t (s ∷ []) i j → height t ≡ suc k
      → ((u : Row) → Derives g r u (s ∷ []) i j → suc k ≤ height u) → LowestWay s i j k
  least-ways (d-leaf l d-end) e f = absurd (omega arith)
  least-ways {k = k} (d-node {c = c} {a = a} la dc d-end) e f =
      let v = row-way dc in
      let q : v.k ≡ k = omega (arith, v.below, way_above f la v.way) in
      record { number = a; places = ends c; exists = la; way = rw q at v.way; lowest = λ b h fs lb w. way_above f lb w }

  pub node-least : (s : Symbol) (i j k : ℕ) → Least g r s i j (suc k) ↔ LowestWay s i j k
  node-least s i j k = (λ l. least-ways l.derives l.attained l.least, ways-least)
