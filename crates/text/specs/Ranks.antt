-- Places in the alphabet, computed: the code point at a place, how many are below one, a test of all.
use Rattle.std.specs.Prelude.{Bool, false, ◌||◌, List, [], ◌∷◌, ℕ, zero, suc, ◌+◌, ◌-◌, min, ltb}
use Rattle.text.specs.Lists.{pick, Span}
use Rattle.text.specs.Utf8.{alphabet, width}

-- how many code points there are in all, and the one at a place
unfoldable pub total : List Span → ℕ
total [] = 0
total (s ∷ ss) = width s + total ss

unfoldable pub code_at : List Span → ℕ → ℕ
code_at [] k = 0
code_at (s ∷ ss) k = pick (ltb k (width s)) (s.from + k) (code_at ss (k - width s))

-- how many are below a code point
unfoldable pub rank_in : List Span → ℕ → ℕ
rank_in [] c = 0
rank_in (s ∷ ss) c = min (c - s.from) (width s) + rank_in ss c

-- some of the n numbers from i on passes the test; some code point of the alphabet does
abbrev pub some_from : (ℕ → Bool) → ℕ → ℕ → Bool
some_from p i zero = false
some_from p i (suc n) = p i || some_from p (suc i) n

unfoldable pub some_known : (ℕ → Bool) → Bool
some_known p = some_from (λ k. p (code_at alphabet k)) 0 (total alphabet)
