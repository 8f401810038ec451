-- A grammar's bytes to a checked tree in the table: refusals 1 to 11.
use Rattle.std.specs.Prelude.{◌≡◌, ◌⊎◌, List, ◌∷◌, ℕ, ◌≤◌, length}
use Rattle.text.specs.Limits.{grammar_bytes, grammar_table, most_size}
use Rattle.text.specs.Lists.{Text}
use Rattle.text.specs.Stages.{StageAnswer, answered, refused, Settles, plainly}
use Rattle.text.specs.declared.Places.{Places}
use Rattle.text.specs.declared.Diagnostic.{Diagnostic}
use Rattle.tree.specs.Tree.{Grammar}
use Rattle.syntax.specs.Parser.{parsed, no-parse, parse}
use Rattle.plain.specs.Plain.{size}
use Rattle.derive.specs.Yield.{unproductive}
use Rattle.answer.specs.Answer.{Places as Answered}
use Rattle.answer.specs.Compute.{Test, test, first_of, tree_of, grammar_tests, mismatch, places_at, check_values}
use Rattle.static_errors.specs.Held.{static_of}
use Rattle.load.specs.declared.Passed.{Passed}
use Rattle.load.specs.Checked.{Loaded, Stands, Passes, Refuses, Placed, stage_of}

-- the table is one that a grammar's characters have room in
pub record Roomy (s : Text) (T : List ℕ) : Type 0 where
  pub chars : length s ≤ grammar_bytes
  pub table : length T ≡ grammar_table

-- the characters are a grammar's, and the table holds its tree
pub record Parses (s : Text) (T : List ℕ) (p : Passed) : Type 0 where
  pub tree : Grammar
  pub parse : parse s ≡ parsed tree
  pub stands : Stands T p.end tree
  pub inside : p.end ≤ 12288
  pub passes : Passes tree p.end p

-- refused after the tree
pub record Fails (s : Text) (n : ℕ) : Type 0 where
  pub tree : Grammar
  pub parse : parse s ≡ parsed tree
  pub refuses : Refuses tree n

-- of characters: 4 without a tree
pub data Reads (s : Text) (T : List ℕ) : StageAnswer Passed Diagnostic → Type 0 where
  reads_none : parse s ≡ no-parse → Reads s T (refused (plainly 4))
  reads-refused : {d : Diagnostic} → Placed (Fails s) s d → Reads s T (refused d)
  reads-grammar : {p : Passed} → Parses s T p → Reads s T (answered p)

-- the places of a refusal, as an answer carries them
abbrev pub places_of : Places → Answered
places_of p = record { byte = p.byte.0; fault = p.fault.0; grammar = p.grammar.0 }

-- of bytes: refused by one of 1 to 11, or by 24, which a later stage judges
pub record Turned (bs : List ℕ) (d : Diagnostic) : Type 0 where
  pub some : d.number ≡ 0 → ⊥
  pub early : (d.number ≤ 11) ⊎ (d.number ≡ 24)
  pub first : (ts : List Test) → first_of (grammar_tests bs ts) ≡ d.number
  pub places : places_of d.places ≡ places_at (check_values bs) d.number

pub record Kept (bs T : List ℕ) (p : Passed) : Type 0 where
  pub tree : Grammar
  pub is : tree_of bs ≡ parsed tree
  pub first : (ts : List Test) → first_of (grammar_tests bs ts) ≡ first_of (test 24 (λ _. unproductive tree) ∷ ts)
  pub version : p.mismatch ≡ mismatch bs
  pub stands : Stands T p.end tree
  pub inside : p.end ≤ 12288
  pub sized : p.size ≡ size tree
  pub small : size tree ≤ most_size
  pub static : static_of tree ≡ 0

abbrev pub Loads : List ℕ → List ℕ → Loaded → Type 0
Loads bs T r = Settles (Kept bs T) (Turned bs) (stage_of r)
