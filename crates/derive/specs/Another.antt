-- Ambiguity, seen at the nodes of one derivation.
use Rattle.std.specs.Prelude.{Bool, true, false, ◌&&◌, ◌||◌, ◌≡◌, List, [], ◌∷◌, ℕ, suc, ◌-◌, ◌<◌, eqb, length}
use Rattle.text.specs.Lists.{Text}
use Rattle.tree.specs.Tree.{Symbol, Grammar}
use Rattle.plain.specs.Plain.{alts}
use Rattle.derive.specs.Derive.{Row, end, leaf, node, alternative, root}
use Rattle.derive.specs.Chosen.{Way, ends}
use Rattle.derive.specs.Level.{somewhere, adjoin, can_one}
use Rattle.derive.specs.Bound.{top}

-- a way of s on i to j with another alternative than a, or with other end places than es
pub record OtherWay (g : Grammar) (r : Text) (s : Symbol) (i j a : ℕ) (es : List ℕ) : Type 0 where
  pub number : ℕ
  pub places : List ℕ
  pub high : ℕ
  pub exists : number < length (alts g s)
  pub way : Way g r (alternative g s number) i j places high
  pub other : number ≡ a → places ≡ es → ⊥

-- some node of the row, at any depth, has another way on its stretch
pub data AnotherWay (g : Grammar) (r : Text) : Row → List Symbol → ℕ → ℕ → Type 0 where
  aw-skip : {s : Symbol} {ss : List Symbol} {t : Row} {i m j : ℕ} → AnotherWay g r t ss m j → AnotherWay g r (leaf m t) (s ∷ ss) i j
  aw-here : {s : Symbol} {ss : List Symbol} {c t : Row} {a i m j : ℕ} → OtherWay g r s i m a (ends c) → AnotherWay g r (node a m c t) (s ∷ ss) i j
  aw-inside : {s : Symbol} {ss : List Symbol} {c t : Row} {a i m j : ℕ} → AnotherWay g r c (alternative g s a) i m → AnotherWay g r (node a m c t) (s ∷ ss) i j
  aw-later : {s : Symbol} {ss : List Symbol} {c t : Row} {a i m j : ℕ} → AnotherWay g r t ss m j → AnotherWay g r (node a m c t) (s ∷ ss) i j

-- the symbols derive i to j with other end places than es, where f says which symbol derives which stretch
abbrev pub elsewhere : (Symbol → ℕ → ℕ → Bool) → List Symbol → ℕ → ℕ → List ℕ → Bool
elsewhere f [] i j [] = false
elsewhere f [] i j (e ∷ es) = eqb i j
elsewhere f (s ∷ ss) i j [] = adjoin f (s ∷ ss) i j
elsewhere f (s ∷ ss) i j (e ∷ es) =
    somewhere (λ m. let others = elim (eqb m e) as (λ _. Bool) [ true ↦ elsewhere f ss m j es | false ↦ adjoin f ss m j ] in f s i m && others) i (suc j - i)

-- alternative b has another way for s on i to j than alternative a with the end places es
abbrev pub other_by : Grammar → Text → Symbol → ℕ → ℕ → ℕ → List ℕ → ℕ → Bool
other_by g r s i j a es b = elim (eqb b a) [
  | true ↦ elsewhere (can_one g r (top g r)) (alternative g s b) i j es
  | false ↦ adjoin (can_one g r (top g r)) (alternative g s b) i j
]

-- some alternative has another way
abbrev pub has_other : Grammar → Text → Symbol → ℕ → ℕ → ℕ → List ℕ → Bool
has_other g r s i j a es = somewhere (other_by g r s i j a es) 0 (length (alts g s))

-- some node of the row, at any depth, has another way
abbrev pub ambiguous_in : Grammar → Text → Row → List Symbol → ℕ → Bool
ambiguous_in g r end ss i = false
ambiguous_in g r (leaf m t) [] i = false
ambiguous_in g r (leaf m t) (s ∷ ss) i = ambiguous_in g r t ss m
ambiguous_in g r (node a m c t) [] i = false
ambiguous_in g r (node a m c t) (s ∷ ss) i =
    let inside = ambiguous_in g r c (alternative g s a) i in
    let later = ambiguous_in g r t ss m in
    let deeper = inside || later in
    has_other g r s i m a (ends c) || deeper

-- the derivation t of the record is not the only one
abbrev pub ambiguous_of : Grammar → Text → Row → Bool
ambiguous_of g r t = ambiguous_in g r t (root g ∷ []) 0
