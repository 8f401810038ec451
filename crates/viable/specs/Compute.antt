-- The place of the fault, computed.
use Rattle.std.specs.Prelude.{Bool, true, false, ◌&&◌, ◌||◌, List, [], ◌∷◌, ℕ, zero, suc, ◌+◌, ◌*◌, ◌-◌, leb, length, drop}
use Rattle.text.specs.Lists.{Text, all}
use Rattle.tree.specs.Tree.{Symbol, Grammar}
use Rattle.plain.specs.Plain.{alts}
use Rattle.derive.specs.Derive.{alternative, root}
use Rattle.derive.specs.Level.{somewhere, can_one}
use Rattle.derive.specs.Bound.{symbols_of, ending_at, top}
use Rattle.derive.specs.Yield.{productive}
use Rattle.viable.specs.Stands.{begun}

-- from the symbols at the place i something reaches k, where f says which symbol does by what stands inside it
abbrev pub reaching : Grammar → Text → ℕ → (Symbol → ℕ → Bool) → List Symbol → ℕ → Bool
reaching g r k f [] i = leb k (i + begun [] (drop i r))
reaching g r k f (s ∷ ss) i =
    let inner = f s i in
    let past = somewhere (λ m. let others = reaching g r k f ss m in can_one g r (top g r) s i m && others) i (suc k - i) in
    leb k (i + begun (s ∷ ss) (drop i r)) || (inner || past)

-- by what stands inside a symbol, d deep
abbrev pub reaches_in : Grammar → Text → ℕ → ℕ → Symbol → ℕ → Bool
reaches_in g r k zero s i = false
reaches_in g r k (suc d) s i =
    somewhere (λ a. let row = reaching g r k (reaches_in g r k d) (alternative g s a) i in all (productive g) (alternative g s a) && row) 0 (length (alts g s))

-- the first k characters of the record begin some text of the grammar: this depth is always enough
abbrev pub begins_at : Grammar → Text → ℕ → Bool
begins_at g r k = reaches_in g r k (suc (length (symbols_of g) * length (ending_at k k))) (root g) 0

-- the last number up to n that passes the test, or 0
abbrev pub last_of : (ℕ → Bool) → ℕ → ℕ
last_of p zero = 0
last_of p (suc n) = elim (p (suc n)) [ true ↦ suc n | false ↦ last_of p n ]

unfoldable pub fault_of : Grammar → Text → ℕ
fault_of g r = last_of (begins_at g r) (length r)
