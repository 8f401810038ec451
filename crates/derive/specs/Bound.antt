-- A height that is always enough, and whether the record has a derivation.
use Rattle.std.specs.Prelude.{Bool, List, [], ◌∷◌, ◌++◌, ℕ, zero, suc, ◌*◌, length}
use Rattle.text.specs.Lists.{Text, concat_map}
use Rattle.tree.specs.Tree.{Symbol, Grammar}
use Rattle.plain.specs.Written.{written}
use Rattle.plain.specs.Plain.{makes}
use Rattle.derive.specs.Derive.{root}
use Rattle.derive.specs.Level.{can_one}

-- a written symbol, and those that it makes
abbrev pub family : Symbol → List Symbol
family s = s ∷ makes s

-- the symbols of the plain rules
abbrev pub symbols_of : Grammar → List Symbol
symbols_of g = root g ∷ concat_map family (written g)

-- the stretches that end at j and begin at i or before
abbrev pub ending_at : ℕ → ℕ → List (ℕ × ℕ)
ending_at j zero = (0, j) ∷ []
ending_at j (suc i) = (suc i, j) ∷ ending_at j i

-- the stretches of a record of n characters
abbrev pub stretches : ℕ → List (ℕ × ℕ)
stretches zero = ending_at 0 0
stretches (suc n) = ending_at (suc n) (suc n) ++ stretches n

-- whatever is derivable is derivable with this height
abbrev pub top : Grammar → Text → ℕ
top g r = length (symbols_of g) * length (stretches (length r))

-- the record has a derivation
abbrev pub derivable : Grammar → Text → Bool
derivable g r = can_one g r (top g r) (root g) 0 (length r)
