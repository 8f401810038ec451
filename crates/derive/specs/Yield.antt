-- Which rules derive some text, computed.
use Rattle.std.specs.Prelude.{Bool, not, ◌||◌, List, ℕ, zero, suc, length}
use Rattle.text.specs.Lists.{any, all}
use Rattle.tree.specs.Tree.{Symbol, Grammar}
use Rattle.plain.specs.Written.{terminals_in}
use Rattle.plain.specs.Plain.{alts, ruled}
use Rattle.plain.specs.Live.{live}
use Rattle.derive.specs.Bound.{symbols_of}

-- the symbol derives some text with height at most k
abbrev pub yields : Grammar → ℕ → Symbol → Bool
yields g zero s = any live (terminals_in s)
yields g (suc k) s = let higher = any (all (yields g k)) (alts g s) in any live (terminals_in s) || higher

-- this height is always enough
abbrev pub productive : Grammar → Symbol → Bool
productive g s = yields g (suc (length (symbols_of g))) s

unfoldable pub unproductive : Grammar → Bool
unproductive g = any (λ s. not (productive g s)) (ruled g)
