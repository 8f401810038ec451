-- What the walk is given, and what it answers.
use Rattle.std.specs.Prelude.{◌≡◌, ◌↔◌, Bool, List, ℕ, Result, Ok, Err, ◌+◌, ◌*◌, ◌<◌, ◌≤◌, T, length, take}
use Rattle.text.specs.Limits.{reading_numbers}
use Rattle.text.specs.Lists.{Text}
use Rattle.text.specs.Stages.{StageAnswer, answered, refused, Settles}
use Rattle.tree.specs.Tree.{Grammar}
use Rattle.derive.specs.Derive.{Row, Derivation}
use Rattle.derive.specs.Chosen.{Second}
use Rattle.derive.specs.Chosen.{Reading as ChosenReading}
use Rattle.chart.specs.Code.{owner_at, Ruled}
use Rattle.heights.proofs.Part.{Stays, Attained}
use Rattle.reach.specs.Flags.{Reached, Fits, Wanted, home_of}
use Rattle.sparse.specs.Cells.{Tables, rule_of, rest_of}
use Rattle.sparse.specs.Steps.{Flagged, LeastOn}
use Rattle.reading.specs.declared.Found.{Found}
use Rattle.reading.specs.declared.Unread.{Unread}
use Rattle.reading.specs.declared.Unread.TheVariants.{TooLong, NoReading}

-- the code of a grammar and its flags on a record of n characters, and the filled part of its main table
pub record Finished (c M F H : List ℕ) (size n top first : ℕ) : Type 0 where
  pub g : Grammar
  pub r : Text
  pub long : length r ≡ n
  pub code : Ruled (Flagged M r) c g size top first
  pub tables : Tables c M F size n (length H)
  pub stays : Stays code r (home_of c) (Fits M) (Reached M) (Wanted M)
  -- no offer lowers a height, and each is a derivation's
  pub least : (i j : ℕ) → i ≤ j → j ≤ n → LeastOn c M F size n H i j
  pub attained : (i j : ℕ) → i ≤ j → j ≤ n → Attained code r (home_of c) (Fits M) (Reached M) (Wanted M) (rule_of c M F n H) (rest_of c M F n H) i j
  -- the root's rule is wanted to end with the record, and its alternatives may begin with it
  pub live : Wanted M top n
  pub used : (q : ℕ) → q < size → owner_at c q ≡ top + 1 → Reached M q 0

pub record Given (c M F H out st : List ℕ) (size n top first : ℕ) : Type 0 where
  pub tables : Finished c M F H size n top first
  pub room : reading_numbers ≤ length out
  pub stack : 3 * reading_numbers ≤ length st

-- count numbers in out are the chosen reading, and the mark says whether there is a second derivation
pub record IsReading (g : Grammar) (r : Text) (out : List ℕ) (count : ℕ) (mark : Bool) : Type 0 where
  pub tree : Row
  pub parse : List ℕ
  pub reading : ChosenReading g r tree parse
  pub long : length parse ≡ count
  pub short : count ≤ reading_numbers
  pub list : take count out ≡ parse
  pub ambiguous : T mark ↔ Second g r parse

pub record IsLong (g : Grammar) (r : Text) : Type 0 where
  pub tree : Row
  pub parse : List ℕ
  pub reading : ChosenReading g r tree parse
  pub long : reading_numbers < length parse

-- the number of a record without a reading, and of one whose reading is too long
pub data NotRead (g : Grammar) (r : Text) : ℕ → Type 0 where
  no-reading : ((t : Row) → Derivation g r t → ⊥) → NotRead g r 16
  too_long : IsLong g r → NotRead g r 29

-- document 01's number and values for each case: with 0, how many numbers the left parse has, and the ambiguous mark
abbrev pub stage_of : Result Found Unread → StageAnswer (ℕ × Bool) ℕ
stage_of (Ok f) = answered (f.count, f.ambiguous)
stage_of (Err TooLong) = refused 29
stage_of (Err NoReading) = refused 16

abbrev pub Answers : Grammar → Text → List ℕ → Result Found Unread → Type 0
Answers g r out w = Settles (λ v. IsReading g r out v.0 v.1) (NotRead g r) (stage_of w)
