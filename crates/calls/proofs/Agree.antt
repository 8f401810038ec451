-- "Both calls of reading give the same whole answer and the same result buffer, for every input": whatever engine a call reads by, its
-- contract leaves it no choice.
use mathlib.Core.List.{List}
use mathlib.Core.Path.{◌≡◌, sym, ◌∙◌}
use Prim.Native.Nat.{ℕ}
use Rattle.answer.specs.Answer.{Job}
use Rattle.exported.specs.declared.Answer.{Answer}
use Rattle.exported.specs.Exported.{shown}
use Rattle.outcome.specs.Calls.{ReadAs}

pub engines-agree : (j : Job) (old : List ℕ) (a b : Answer) (new new' : List ℕ) → ReadAs j old a new → ReadAs j old b new' → (shown a ≡ shown b) × (new ≡ new')
engines-agree j old a b new new' x y = (x.computed ∙ sym y.computed, x.buffer ∙ sym y.buffer)
