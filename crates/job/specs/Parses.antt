-- What all the stages together answer: the left parse of the chosen reading, or the first refusal.
use Rattle.std.specs.Prelude.{Result, Ok, Err, ◌&&◌, ◌≡◌, List, ℕ, ◌≤◌, eqb, length, take}
use Rattle.text.specs.Limits.{reading_numbers}
use Rattle.text.specs.Stages.{StageAnswer, answered, refused, Settles}
use Rattle.tree.specs.Tree.{Grammar}
use Rattle.tree.specs.Tokens.{grammar_tokens}
use Rattle.syntax.specs.Parser.{parsed}
use Rattle.derive.specs.Derive.{Row, left_parse}
use Rattle.derive.specs.Pick.{found, chosen_of}
use Rattle.derive.specs.Another.{ambiguous_of}
use Rattle.items.specs.Items.{Items, Reads}
use Rattle.answer.specs.Answer.{Job}
use Rattle.answer.specs.Compute.{Test, first_of, tree_of, mismatch, places_at, job_values}
use Rattle.load.specs.Loaded.{places_of}
use Rattle.reading.specs.declared.Found.{Found}
use Rattle.parser.specs.declared.Failure.{Failure}
use Rattle.job.specs.declared.LeftParse.{LeftParse}
use Rattle.exported.specs.declared.Refusal.{Refusal}
use Rattle.opening.specs.declared.Start.{Start}
use Rattle.opening.specs.Stages.{Got}
use Rattle.job.specs.Found.{first_test, why_not}

-- what is chosen, with what the first stages found
abbrev pub parsed_of : Result Found Failure → Start → Result LeftParse Refusal
parsed_of (Ok f) s = Ok (record { root = s.rules.root; count = f.count; chars = s.chars; ambiguous = f.ambiguous; mismatch = s.rules.mismatch })
parsed_of (Err e) s = Err (record { why = why_not e; mismatch = s.rules.mismatch })

-- the left parse of the chosen reading stands in `P`, the grammar's tokens and plain rules in `T`, the record's characters in `new`
pub record IsChosen (j : Job) (T new P : List ℕ) (p : LeftParse) : Type 0 where
  pub tree : Grammar
  pub is : tree_of j.grammar ≡ parsed tree
  pub version : p.mismatch ≡ mismatch j.grammar
  pub input : Got j.input new p.chars.0
  pub first : (ts : List Test) → first_test j ts ≡ first_of ts
  pub row : Row
  pub choice : chosen_of tree input.chars ≡ found row
  pub mark : p.ambiguous ≡ ambiguous_of tree input.chars row
  pub count : p.count ≡ length (left_parse row)
  pub short : p.count ≤ reading_numbers
  pub list : take p.count P ≡ left_parse row
  pub items : Items T tree p.root
  pub tokens : Reads T 0 (grammar_tokens tree)

-- a refusal, with what 16 alone says of the version
pub record NotChosen (j : Job) (r : Refusal) : Type 0 where
  pub some : r.why.number ≡ 0 → ⊥
  pub is : (ts : List Test) → first_test j ts ≡ r.why.number
  pub version : (eqb r.why.number 16 && r.mismatch) ≡ (eqb r.why.number 16 && mismatch j.grammar)
  pub places : places_of r.why.places ≡ places_at (job_values j) r.why.number

-- document 01's number and values for each case
abbrev pub parse_of : Result LeftParse Refusal → StageAnswer LeftParse Refusal
parse_of (Ok p) = answered p
parse_of (Err r) = refused r

abbrev pub Parses : Job → List ℕ → List ℕ → List ℕ → Result LeftParse Refusal → Type 0
Parses j T new P r = Settles (IsChosen j T new P) (NotChosen j) (parse_of r)
