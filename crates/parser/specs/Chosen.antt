-- What choosing answers: the walk's answer, and the place of the fault where there is no reading.
use Rattle.std.specs.Prelude.{Bool, false, Option, Some, None, Result, Ok, Err, List, ◌≡◌, ℕ, T}
use Rattle.text.specs.Lists.{Text, all}
use Rattle.text.specs.Stages.{StageAnswer, answered, refused, Settles}
use Rattle.text.specs.Utf8.{known}
use Rattle.text.specs.declared.CharPlace.{CharPlace}
use Rattle.tree.specs.Tree.{Grammar}
use Rattle.derive.specs.Derive.{Row, Derivation}
use Rattle.derive.specs.Yield.{unproductive}
use Rattle.viable.specs.Fault.{FaultAt}
use Rattle.reading.specs.declared.Found.{Found}
use Rattle.reading.specs.declared.Unread.{Unread}
use Rattle.reading.specs.declared.Unread.TheVariants as unread
use Rattle.reading.specs.Answer.{IsReading, IsLong}
use Rattle.parser.specs.declared.Failure.{Failure}
use Rattle.parser.specs.declared.Failure.TheVariants.{TooLong, NoReading}

-- of a grammar whose rules all derive some text, and a record of known characters: the fault is at k
abbrev pub Fault : Grammar → Text → ℕ → Type 0
Fault g r k = unproductive g ≡ false → T (all known r) → FaultAt g r k

-- what the quick engine comes to, with the place of the fault
abbrev pub tried_of : Option (Result Found Unread) → CharPlace → Result Found Failure
tried_of (Some (Ok f)) k = Ok f
tried_of (Some (Err unread.TooLong)) k = Err TooLong
tried_of (Some (Err unread.NoReading)) k = Err (NoReading k)
tried_of None k = Err (NoReading k)

-- why there is no reading to answer
pub data Refusal : Type 0 where
  too_long : Refusal
  no-reading : ℕ → Refusal

-- no row derives the record, of such a grammar and record
abbrev pub Underived : Grammar → Text → Type 0
Underived g r = unproductive g ≡ false → T (all known r) → (t : Row) → Derivation g r t → ⊥

pub record Fails (g : Grammar) (r : Text) (k : ℕ) : Type 0 where
  pub none : Underived g r
  pub fault : Fault g r k

abbrev pub NotChosen : Grammar → Text → Refusal → Type 0
NotChosen g r too_long = IsLong g r
NotChosen g r (no-reading k) = Fails g r k

-- the values for each case: how many numbers the left parse has, and the ambiguous mark
abbrev pub stage_of : Result Found Failure → StageAnswer (ℕ × Bool) Refusal
stage_of (Ok f) = answered (f.count, f.ambiguous)
stage_of (Err TooLong) = refused too_long
stage_of (Err (NoReading k)) = refused (no-reading k.0)

abbrev pub Chooses : Grammar → Text → List ℕ → Result Found Failure → Type 0
Chooses g r out c = Settles (λ v. IsReading g r out v.0 v.1) (NotChosen g r) (stage_of c)
