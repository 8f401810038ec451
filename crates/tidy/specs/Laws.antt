-- Laws of the tidy layout. Statements alone: proofs/Laws.antt has their proof, `laws-hold`.
use Rattle.std.specs.Prelude.{true, ◌≡◌, List, [], ℕ, ◌≤◌, T, length}
use Rattle.text.specs.Limits.{grammar_bytes}
use Rattle.text.specs.Lists.{Text, all}
use Rattle.text.specs.Utf8.{known}
use Rattle.tree.specs.Tree.{Grammar}
use Rattle.tree.specs.Tokens.{grammar_tokens}
use Rattle.syntax.specs.Syntax.{Ixml}
use Rattle.answer.specs.Answer.{GrammarTree, grammar_lines, job, Answer}
use Rattle.answer.specs.Compute.{check_of, read_of, convert_of}
use Rattle.answer.specs.Demands.{None}
use Rattle.tidy.specs.Tidy.{tidy_text}
use Rattle.tidy.specs.Cases.{table, Holds, Every}
use Rattle.tidy.specs.Scan.{scan}
use Rattle.tidy.specs.Call.{tidy_bytes, Tidies, tidy_of}

-- bytes of an accepted grammar, whose tidy text is no longer than a grammar may be
pub record Tidiable (bs : List ℕ) (g : Grammar) : Type 0 where
  pub tree : GrammarTree bs g
  pub accepted : None (grammar_lines bs [])
  pub short : length (tidy_bytes g) ≤ grammar_bytes

pub record Laws : Type 0 where
  pub cases : Every Holds table
  -- "Reading the output gives the same plain rules, names and marks": it gives the same tree, and no other
  pub reads : (t : Text) (g : Grammar) → Ixml t g → Ixml (tidy_text g) g
  pub one : (t : Text) (g h : Grammar) → Ixml t g → Ixml (tidy_text g) h → h ≡ g
  -- it has no character that the grammar's text may not have
  pub known : (t : Text) (g : Grammar) → Ixml t g → T (all known t) → T (all known (tidy_text g))
  -- the text can be written by one scan over the grammar's tokens
  pub scans : (t : Text) (g : Grammar) → Ixml t g → scan true (grammar_tokens g) ≡ tidy_text g
  -- each grammar and buffer have exactly one answer, and it is the computed one
  pub answers : (bs old : List ℕ) → Tidies bs old (tidy_of bs old).answer (tidy_of bs old).buffer
  pub settled : (bs old : List ℕ) (a : Answer) (new : List ℕ) → Tidies bs old a new → (a ≡ (tidy_of bs old).answer) × (new ≡ (tidy_of bs old).buffer)
  -- the output is accepted, "so every record has the same number, list and XML"
  pub accepted : (bs : List ℕ) (g : Grammar) → Tidiable bs g → Tidiable (tidy_bytes g) g
  pub checks : (bs : List ℕ) (g : Grammar) → Tidiable bs g → check_of (tidy_bytes g) ≡ check_of bs
  pub readings : (bs : List ℕ) (g : Grammar) → Tidiable bs g → (rs : List ℕ) (m s : ℕ) (old : List ℕ) → read_of (job (tidy_bytes g) rs m s) old ≡ read_of (job bs rs m s) old
  pub conversions : (bs : List ℕ) (g : Grammar) → Tidiable bs g → (rs : List ℕ) (m s : ℕ) (old : List ℕ)
      → convert_of (job (tidy_bytes g) rs m s) old ≡ convert_of (job bs rs m s) old
  -- "Writing the output again gives the same bytes"
  pub again : (bs : List ℕ) (g : Grammar) → Tidiable bs g → (old : List ℕ) → tidy_of (tidy_bytes g) old ≡ tidy_of bs old
