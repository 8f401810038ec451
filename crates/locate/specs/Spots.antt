-- What the scan's states stand for, and the places that it leaves.
use Rattle.std.specs.Prelude.{Bool, true, false, ◌≡◌, List, ℕ, ◌+◌, ◌<◌, eqb, length, get_or}
use Rattle.text.specs.Lists.{Text}
use Rattle.syntax.specs.Syntax.{namefollower}
use Rattle.places.specs.Scan.{between, word, quoted, closed, comment, lefts}
use Rattle.places.specs.Scan as scan
use Rattle.locate.specs.declared.spots.State.{State}
use Rattle.locate.specs.declared.spots.State.TheVariants.{Between, Word, Quoted, Closed, Comment}

abbrev pub meant : State → scan.State
meant Between = between
meant Word = word
meant (Quoted q) = quoted q
meant (Closed q) = closed q
meant (Comment k) = comment k

-- how many comments are open around a comment
abbrev pub deep : scan.State → ℕ
deep between = 0
deep word = 0
deep (quoted q) = 0
deep (closed q) = 0
deep (comment k) = k

-- the character goes on in what the scan stands in
abbrev pub goes_on : scan.State → ℕ → Bool
goes_on between c = false
goes_on word c = namefollower c
goes_on (quoted q) c = true
goes_on (closed q) c = eqb c q
goes_on (comment k) c = true

pub record Within (s : State) (c : ℕ) : Type 0 where
  pub on : goes_on (meant s) c ≡ true
  pub shallow : deep (meant s) < 4294967295

pub record Stepping (on : Bool) (s : State) (c : ℕ) : Type 0 where
  pub is : on ≡ goes_on (meant s) c
  pub shallow : deep (meant s) < 4294967295

-- the array has the place of each spot: with what is left there it makes up the text
pub record Located (t : Text) (places : List ℕ) : Type 0 where
  pub each : (k : ℕ) → k < length (lefts between t) → get_or places k 0 + get_or (lefts between t) k 0 ≡ length t
