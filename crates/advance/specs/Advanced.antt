-- One round, said of the code.
use Rattle.std.specs.Prelude.{Bool, true, false, List, ℕ, ◌+◌, ◌<◌, ◌≤◌}
use Rattle.sweeps.specs.Layers.{Swept}

-- the round after k others, of at most `most`; r tells whether it is the last: a sweep that adds a rule, and is not the last; one that adds
-- none; the last, after which one more gives the dots what the rules got that it added
pub data Advanced (c f : List ℕ) (size n k most : ℕ) (t u : List ℕ) : Bool → Type 0 where
  goes_on : Swept c f size n k t true u → k + 1 < most → Advanced c f size n k most t u false
  idles : Swept c f size n k t false u → Advanced c f size n k most t u true
  closes : {v : List ℕ} {b : Bool} → Swept c f size n k t true v → most ≤ k + 1 → Swept c f size n (k + 1) v b u → Advanced c f size n k most t u true
