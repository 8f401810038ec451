-- The chosen derivation, computed.
use Rattle.std.specs.Prelude.{Bool, true, false, ◌&&◌, List, [], ◌∷◌, ℕ, zero, suc, ◌-◌, leb, length}
use Rattle.text.specs.Lists.{Text}
use Rattle.tree.specs.Tree.{Symbol, Grammar}
use Rattle.plain.specs.Plain.{alts}
use Rattle.derive.specs.Derive.{Row, end, leaf, node, alternative, root}
use Rattle.derive.specs.Level.{first, adjoin, can_one}
use Rattle.derive.specs.Bound.{top}

-- one row after another
abbrev pub beside : Row → Row → Row
beside end u = u
beside (leaf m t) u = leaf m (beside t u)
beside (node a m c t) u = node a m c (beside t u)

-- the row of the symbols on i to j with the smallest end places, where f says which symbol derives which stretch and w is its tree
abbrev pub pick_row : (Symbol → ℕ → ℕ → Bool) → (Symbol → ℕ → ℕ → Row) → List Symbol → ℕ → ℕ → Row
pick_row f w [] i j = end
pick_row f w (s ∷ ss) i j =
    let m = first (λ m. let others = adjoin f ss m j in f s i m && others) i (suc j - i) in
    beside (w s i m) (pick_row f w ss m j)

-- the tree of a symbol that derives i to j with height at most k
abbrev pub pick_tree : Grammar → Text → ℕ → Symbol → ℕ → ℕ → Row
pick_tree g r zero s i j = leaf j end
pick_tree g r (suc k) s i j = elim (can_one g r k s i j) [
  | true ↦ pick_tree g r k s i j
  | false ↦
      (let a = first (λ a. adjoin (can_one g r k) (alternative g s a) i j) 0 (length (alts g s)) in
      node a j (pick_row (can_one g r k) (pick_tree g r k) (alternative g s a) i j) end)
]

pub data Choice : Type 0 where
  no-choice : Choice
  found : Row → Choice

-- the chosen derivation of the record. Heights are tried upwards, to the first that is enough.
abbrev pub chosen_of : Grammar → Text → Choice
chosen_of g r =
    let k = first (λ k. can_one g r k (root g) 0 (length r)) 0 (suc (top g r)) in
    elim (leb k (top g r)) [ true ↦ found (pick_tree g r k (root g) 0 (length r)) | false ↦ no-choice ]
