-- There is a second derivation exactly where some node of the first has another way.
use mathlib.Core.Path.{◌≡◌, sym, ap, ◌∙◌}
use mathlib.Core.Logic.{◌↔◌}
use mathlib.Core.List.{List, [], ◌∷◌, List-discrete}
use Prim.Native.Nat.{ℕ, ◌+◌}
use native.Mathlib.Decide.{ℕ_discrete}
use native.Mathlib.Omega.{arith}
use lib.ListN.{length}
use Rattle.text.specs.Lists.{Text}
use Rattle.tree.specs.Tree.{Symbol, Grammar}
use Rattle.plain.specs.Plain.{width}
use Rattle.derive.specs.Derive.{Row, Row-discrete, leaf, node, alternative, Derives, d-end, d-leaf, d-node, left_parse, root}
use Rattle.derive.specs.Chosen.{ends, Reading, Second}
use Rattle.derive.specs.Another.{AnotherWay, aw-skip, aw-here, aw-inside, aw-later}
use Rattle.derive.proofs.Unique.{same_row}
use Rattle.derive.proofs.Rows.{single-ends, end_row}
use Rattle.derive.proofs.Heights.{way-row, row-way}
use Rattle.derive.proofs.Chosen.{chosen-derives}

module _ (g : Grammar) (r : Text) where
  -- another derivation
  pub record Other (t : Row) (ss : List Symbol) (i j : ℕ) : Type 0 where
    pub row : Row
    pub derives : Derives g r row ss i j
    pub new : row ≡ t → ⊥

  -- another way at a node gives another derivation
  pub another : {t : Row} {ss : List Symbol} {i j : ℕ} → Derives g r t ss i j → AnotherWay g r t ss i j → Other t ss i j
  another (d-leaf {x} {i = i} l d) (aw-skip w) = let u = another d w in record { row = leaf (i + width x) u.row; derives = d-leaf l u.derives; new = λ e. u.new (cc) }
  another (d-node {c = c} {t = t} {a = a} {m = m} h k d) (aw-here w) =
      let v = way-row g r w.way in
      record {
        row = node w.number m v.row t;
        derives = d-node w.exists v.derives d;
        new = λ e. let q : v.row ≡ c = cc in w.other (cc) (sym v.places ∙ ap ends q);
      }
  another (d-node {t = t} {a = a} {m = m} h k d) (aw-inside w) = let u = another k w in record { row = node a m u.row t; derives = d-node h u.derives d; new = λ e. u.new (cc) }
  another (d-node {c = c} {a = a} {m = m} h k d) (aw-later w) = let u = another d w in record { row = node a m c u.row; derives = d-node h k u.derives; new = λ e. u.new (cc) }
  another (d-end {i = i}) x6 = elim x6 [ ]

  -- two derivations that end their trees at the same places differ in the way at some node
  pub differ : {t t' : Row} {ss : List Symbol} {i j : ℕ} → Derives g r t ss i j → Derives g r t' ss i j → ends t' ≡ ends t → (t' ≡ t → ⊥) → AnotherWay g r t ss i j
  differ d-end d e f = absurd (f (end_row g r d))
  differ (d-leaf {x} {t = t} {i = i} l d) (d-leaf {t = t'} l' d') e f = let q : ends t' ≡ ends t = cc in aw-skip (differ d d' q (λ p. f (ap (leaf (i + width x)) p)))
  differ (d-leaf l d) (d-node h' k' d') e f = absurd (omega arith)
  differ (d-node h k d) (d-leaf l d') e f = absurd (omega arith)
  differ (d-node {s} {ss} {c} {t} {a} {i} {m} {j} h k d) (d-node {c = c'} {t = t'} {a = a'} {m = m'} h' k' d') e f =
      let em : m' ≡ m = cc in
      let et : ends t' ≡ ends t = cc in
      let k2 : Derives g r c' (alternative g s a') i m = rw em at k' in
      let w = row-way g r k2 in
      elim (ℕ_discrete a' a) as (λ _. AnotherWay g r (node a m c t) (s ∷ ss) i j) [
        | no q ↦ aw-here (record { number = a'; places = ends c'; high = w.k; exists = h'; way = w.way; other = λ p _. q p })
        | yes ea ↦ (elim (List-discrete ℕ_discrete (ends c') (ends c)) as (λ _. AnotherWay g r (node a m c t) (s ∷ ss) i j) [
          | no q ↦ aw-here (record { number = a'; places = ends c'; high = w.k; exists = h'; way = w.way; other = λ _ p. q p })
          | yes ec ↦ (elim (Row-discrete ℕ_discrete c' c) as (λ _. AnotherWay g r (node a m c t) (s ∷ ss) i j) [
            | no q ↦ (let k3 : Derives g r c' (alternative g s a) i m = rw ea at k2 in aw-inside (differ k k3 ec q))
            | yes p ↦ (let d2 : Derives g r t' ss m j = rw em at d' in aw-later (differ d d2 et (λ q. f (λ ι. node (ea ι) (em ι) (p ι) (q ι)))))
          ])
        ])
      ]

  -- a derivation of the symbol on the stretch with another left parse
  abbrev pub OtherParse : List ℕ → Symbol → ℕ → ℕ → Type 0
  OtherParse p s i j = (u : Row) × Derives g r u (s ∷ []) i j × (left_parse u ≡ p → ⊥)

  pub other-parse : {t : Row} {s : Symbol} {i j : ℕ} → Derives g r t (s ∷ []) i j → OtherParse (left_parse t) s i j ↔ AnotherWay g r t (s ∷ []) i j
  other-parse d = (
    λ w. differ d w.1 (single-ends g r w.1 ∙ sym (single-ends g r d)) (λ e. w.2 (ap left_parse e)),
    λ w. let u = another d w in (u.row, u.derives, λ e. u.new (same_row g r u.derives d e)),
  )

  -- a second derivation of the record
  pub second_is : {t : Row} {p : List ℕ} → Reading g r t p → Second g r p ↔ AnotherWay g r t (root g ∷ []) 0 (length r)
  second_is {t} {p} w =
      let q = other-parse (chosen-derives g r w.chosen) in (
        λ s. q.0 (s.tree, s.derives, λ e. s.differs (e ∙ sym w.parse)),
        λ a. let u = q.1 a in record { tree = u.0; derives = u.1; differs = λ e. u.2 (e ∙ w.parse) },
      )
