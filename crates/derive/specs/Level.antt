-- Derivable within a height, computed.
use Rattle.std.specs.Prelude.{Bool, true, false, ◌&&◌, ◌||◌, List, [], ◌∷◌, ℕ, zero, suc, ◌+◌, ◌-◌, ltb, eqb, length, drop}
use Rattle.text.specs.Lists.{Text, any}
use Rattle.tree.specs.Tree.{Terminal, Symbol, Grammar}
use Rattle.plain.specs.Written.{terminals_in}
use Rattle.plain.specs.Plain.{alts, fits, width}
use Rattle.derive.specs.Derive.{alternative}

-- the first of the c numbers from i on at which p holds; i + c where there is none
abbrev pub first : (ℕ → Bool) → ℕ → ℕ → ℕ
first p i zero = i
first p i (suc c) = elim (p i) [ true ↦ i | false ↦ first p (suc i) c ]

-- p holds at one of the c numbers from i on
abbrev pub somewhere : (ℕ → Bool) → ℕ → ℕ → Bool
somewhere p i c = ltb (first p i c) (i + c)

-- a terminal derives i to j
abbrev pub spells : Text → ℕ → ℕ → Terminal → Bool
spells r i j x = eqb (i + width x) j && fits x (drop i r)

-- the symbols derive i to j, where f says which symbol derives which stretch. What a `let` binds is computed only when it is asked for.
abbrev pub adjoin : (Symbol → ℕ → ℕ → Bool) → List Symbol → ℕ → ℕ → Bool
adjoin f [] i j = eqb i j
adjoin f (s ∷ ss) i j = somewhere (λ m. let others = adjoin f ss m j in f s i m && others) i (suc j - i)

-- the symbol derives i to j with height at most k
abbrev pub can_one : Grammar → Text → ℕ → Symbol → ℕ → ℕ → Bool
can_one g r zero s i j = any (spells r i j) (terminals_in s)
can_one g r (suc k) s i j =
    let higher = somewhere (λ a. adjoin (can_one g r k) (alternative g s a) i j) 0 (length (alts g s)) in
    any (spells r i j) (terminals_in s) || higher

-- the symbols derive i to j with height at most k
abbrev pub can : Grammar → Text → ℕ → List Symbol → ℕ → ℕ → Bool
can g r k ss i j = adjoin (can_one g r k) ss i j
