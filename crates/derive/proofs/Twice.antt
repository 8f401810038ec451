-- Another way, seen symbol by symbol: another alternative at a node, or another end place in a row.
use mathlib.Core.Path.{◌≡◌, sym, ap, ◌∙◌}
use mathlib.Core.Logic.{◌⊎◌, inl, inr, ◌↔◌}
use mathlib.Core.List.{List, [], ◌∷◌, ◌++◌, head-eq_of_cons-eq, tail-eq_of_cons-eq}
use Prim.Native.Nat.{ℕ, ◌+◌, ◌<◌}
use native.Mathlib.Decide.{ℕ_discrete}
use native.Mathlib.Omega.{arith}
use lib.ListN.{length}
use Rattle.text.specs.Lists.{Text}
use Rattle.tree.specs.Tree.{Symbol, terminal, Grammar}
use Rattle.plain.specs.Plain.{alts, width}
use Rattle.derive.specs.Derive.{Row, end, leaf, node, alternative, Derives, d-end, d-leaf, d-node}
use Rattle.derive.specs.Chosen.{ends}
use Rattle.derive.specs.Another.{AnotherWay, aw-skip, aw-here, aw-inside, aw-later}
use Rattle.derive.specs.Pick.{beside}
use Rattle.derive.proofs.Rows.{join, ends-beside, single-ends, end_row}
use Rattle.derive.proofs.Heights.{way-row, row-way}

module _ (g : Grammar) (r : Text) where
  -- an alternative other than a derives i to j
  pub record OtherNumber (s : Symbol) (i j a : ℕ) : Type 0 where
    pub number : ℕ
    pub exists : number < length (alts g s)
    pub other : number ≡ a → ⊥
    pub row : Row
    pub derives : Derives g r row (alternative g s number) i j

  -- the symbol ends at another place than m, and the others go on to j
  pub record OtherPlace (s : Symbol) (ss : List Symbol) (i j m : ℕ) : Type 0 where
    pub place : ℕ
    pub other : place ≡ m → ⊥
    pub tree : Row
    pub row : Row
    pub one : Derives g r tree (s ∷ []) i place
    pub others : Derives g r row ss place j

  pub data Twice : Row → List Symbol → ℕ → ℕ → Type 0 where
    tw-skip : {s : Symbol} {ss : List Symbol} {t : Row} {i m j : ℕ} → Twice t ss m j → Twice (leaf m t) (s ∷ ss) i j
    tw-place : {s : Symbol} {ss : List Symbol} {c t : Row} {a i m j : ℕ} → OtherPlace s ss i j m → Twice (node a m c t) (s ∷ ss) i j
    tw-number : {s : Symbol} {ss : List Symbol} {c t : Row} {a i m j : ℕ} → OtherNumber s i m a → Twice (node a m c t) (s ∷ ss) i j
    tw-inside : {s : Symbol} {ss : List Symbol} {c t : Row} {a i m j : ℕ} → Twice c (alternative g s a) i m → Twice (node a m c t) (s ∷ ss) i j
    tw-later : {s : Symbol} {ss : List Symbol} {c t : Row} {a i m j : ℕ} → Twice t ss m j → Twice (node a m c t) (s ∷ ss) i j

  -- a row with other end places
  record OtherEnds (t : Row) (ss : List Symbol) (i j : ℕ) : Type 0 where
    row : Row
    derives : Derives g r row ss i j
    other : ends row ≡ ends t → ⊥

  ends-twice : {t u : Row} {ss : List Symbol} {i j : ℕ} → Derives g r t ss i j → Derives g r u ss i j → (ends u ≡ ends t → ⊥) → Twice t ss i j
  ends-twice d-end d f = absurd (f (ap ends (end_row g r d)))
  ends-twice (d-leaf {x} {i = i} l d) (d-leaf l' d') f = tw-skip (ends-twice d d' (λ e. f (ap (λ (es : List ℕ). (i + width x) ∷ es) e)))
  ends-twice (d-leaf l d) (d-node h k d') f = absurd (omega arith)
  ends-twice (d-node h k d) (d-leaf l d') f = absurd (omega arith)
  ends-twice (d-node {s} {ss} {c} {t} {a} {i} {m} {j} h k d) (d-node {c = c'} {t = t'} {a = a'} {m = m'} h' k' d') f =
      elim (ℕ_discrete m' m) as (λ _. Twice (node a m c t) (s ∷ ss) i j) [
        | no q ↦ tw-place (record { place = m'; other = q; tree = node a' m' c' end; row = t'; one = d-node h' k' d-end; others = d' })
        | yes q ↦ (let d2 : Derives g r t' ss m j = rw q at d' in tw-later (ends-twice d d2 (λ e. f (λ ι. q ι ∷ e ι))))
      ]

  numbered : {t : Row} (s : Symbol) {i j a b : ℕ} → a ≡ b → Derives g r t (alternative g s a) i j → Derives g r t (alternative g s b) i j
  numbered s e d = rw e at d

  another-twice : {t : Row} {ss : List Symbol} {i j : ℕ} → Derives g r t ss i j → AnotherWay g r t ss i j → Twice t ss i j
  another-twice (d-leaf l d) (aw-skip w) = tw-skip (another-twice d w)
  another-twice (d-node {s} {ss} {c} {t} {a} {i} {m} {j} h k d) (aw-here w) =
      let v = way-row g r w.way in
      elim (ℕ_discrete w.number a) as (λ _. Twice (node a m c t) (s ∷ ss) i j) [
        | no q ↦ tw-number (record { number = w.number; exists = w.exists; other = q; row = v.row; derives = v.derives })
        | yes q ↦ (let d2 = numbered s q v.derives in tw-inside (ends-twice k d2 (λ e. w.other q (sym v.places ∙ e))))
      ]
  another-twice (d-node h k d) (aw-inside w) = tw-inside (another-twice k w)
  another-twice (d-node h k d) (aw-later w) = tw-later (another-twice d w)
  another-twice (d-end {i = i}) x6 = elim x6 [ ]

  twice-another : {t : Row} {ss : List Symbol} {i j : ℕ} → Derives g r t ss i j → Twice t ss i j → AnotherWay g r t ss i j ⊎ OtherEnds t ss i j
  twice-another (d-leaf {x} {ss} {t} {i} {j} l d) (tw-skip w) = elim (twice-another d w) as (λ _. AnotherWay g r (leaf (i + width x) t)
      (terminal x ∷ ss) i j ⊎ OtherEnds (leaf (i + width x) t) (terminal x ∷ ss) i j) [
        | inl v ↦ inl (aw-skip v)
        | inr v ↦ inr (record { row = leaf (i + width x) v.row; derives = d-leaf l v.derives; other = λ e. v.other (tail-eq_of_cons-eq e) })
      ]
  twice-another (d-node h k d) (tw-place w) = inr (record {
    row = beside w.tree w.row;
    derives = join g r w.one w.others;
    other = λ e. w.other (head-eq_of_cons-eq (ap (λ (es : List ℕ). es ++ ends w.row) (sym (single-ends g r w.one)) ∙ sym (ends-beside w.tree w.row) ∙ e));
  })
  twice-another (d-node h k d) (tw-number w) =
      let v = row-way g r w.derives in
      inl (aw-here (record { number = w.number; places = ends w.row; high = v.k; exists = w.exists; way = v.way; other = λ e _. w.other e }))
  twice-another (d-node {s} {ss} {c} {t} {a} {i} {m} {j} h k d)
      (tw-inside w) = elim (twice-another k w) as (λ _. AnotherWay g r (node a m c t) (s ∷ ss) i j ⊎ OtherEnds (node a m c t) (s ∷ ss) i j) [
        | inl v ↦ inl (aw-inside v)
        | inr v ↦ (let u = row-way g r v.derives in inl (aw-here (record { number = a; places = ends v.row; high = u.k; exists = h; way = u.way; other = λ _ e. v.other e })))
      ]
  twice-another (d-node {s} {ss} {c} {t} {a} {i} {m} {j} h k d)
      (tw-later w) = elim (twice-another d w) as (λ _. AnotherWay g r (node a m c t) (s ∷ ss) i j ⊎ OtherEnds (node a m c t) (s ∷ ss) i j) [
        | inl v ↦ inl (aw-later v)
        | inr v ↦ inr (record { row = node a m c v.row; derives = d-node h k v.derives; other = λ e. v.other (tail-eq_of_cons-eq e) })
      ]
  twice-another (d-end {i = i}) x6 = elim x6 [ ]

  -- for one symbol on a stretch, the end place of which is given
  pub twice-is : {t : Row} {s : Symbol} {i j : ℕ} → Derives g r t (s ∷ []) i j → AnotherWay g r t (s ∷ []) i j ↔ Twice t (s ∷ []) i j
  twice-is {t} {s} {i} {j} d = (
    another-twice d,
    λ w. elim (twice-another d w) as (λ _. AnotherWay g r t (s ∷ []) i j)
        [ inl v ↦ v | inr v ↦ absurd (v.other (single-ends g r v.derives ∙ sym (single-ends g r d))) ],
  )
