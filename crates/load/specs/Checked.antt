-- A grammar's tree in a table, and what checking it by the static rules and the size answers.
use Rattle.std.specs.Prelude.{◌≡◌, List, ◌∷◌, ℕ, ◌≤◌, ltb, length, take, Result, Ok, Err}
use Rattle.text.specs.Limits.{grammar_bytes, most_size, grammar_table}
use Rattle.text.specs.Lists.{Text, pick}
use Rattle.text.specs.Stages.{StageAnswer, answered, refused, Settles}
use Rattle.text.specs.declared.Diagnostic.{Diagnostic}
use Rattle.tree.specs.Tree.{Grammar}
use Rattle.tree.specs.Tokens.{encode, grammar_tokens}
use Rattle.syntax.specs.Syntax.{Ixml}
use Rattle.syntax.specs.Parser.{parsed, parse}
use Rattle.plain.specs.Static.{undefined, duplicate, beyond, banned, backwards, unclassed, mismatched}
use Rattle.plain.specs.Plain.{size}
use Rattle.places.specs.Tokens.{place_of}
use Rattle.answer.specs.Compute.{Test, test, first_of}
use Rattle.static_errors.specs.Held.{static_of}
use Rattle.load.specs.declared.Passed.{Passed}

-- the first numbers of the table are the tokens of a grammar text's tree
pub record Stands (T : List ℕ) (end : ℕ) (g : Grammar) : Type 0 where
  pub text : Text
  pub derived : Ixml text g
  pub held : take end T ≡ encode (grammar_tokens g)

pub record Standing (s : Text) (T : List ℕ) (end : ℕ) : Type 0 where
  pub grammar : Grammar
  pub parse : parse s ≡ parsed grammar
  pub stands : Stands T end grammar
  pub chars : length s ≤ grammar_bytes
  pub within : end ≤ length T
  pub short : length T ≤ grammar_table

-- the tests from 5 to 11, and on
abbrev pub tree_tests : Grammar → List Test → List Test
tree_tests g ts =
    test 5 (λ _. undefined g)
    ∷ test 6 (λ _. duplicate g)
    ∷ test 7 (λ _. beyond g)
    ∷ test 8 (λ _. banned g)
    ∷ test 9 (λ _. backwards g)
    ∷ test 10 (λ _. unclassed g)
    ∷ test 11 (λ _. ltb most_size (size g))
    ∷ ts

pub record Refuses (g : Grammar) (n : ℕ) : Type 0 where
  pub some : n ≡ 0 → ⊥
  pub first : (ts : List Test) → first_of (tree_tests g ts) ≡ n

pub record Passes (g : Grammar) (end : ℕ) (p : Passed) : Type 0 where
  pub tokens : p.end ≡ end
  pub sized : p.size ≡ size g
  pub small : size g ≤ most_size
  pub static : static_of g ≡ 0
  pub version : p.mismatch ≡ mismatched g
  pub first : (ts : List Test) → first_of (tree_tests g ts) ≡ first_of ts

-- what loading answers: what a grammar that passes is like, or its refusal
abbrev pub Loaded : Type 0
Loaded = Result Passed Diagnostic

-- document 01's number and values for each case
abbrev pub stage_of : Loaded → StageAnswer Passed Diagnostic
stage_of (Ok p) = answered p
stage_of (Err d) = refused d

-- a refusal at a character of the grammar; 5 to 10 name their place in its text
abbrev pub at_character : ℕ → ℕ → Diagnostic
at_character n p = record { number = n; places = record { byte = record { 0 = 0 }; fault = record { 0 = 0 }; grammar = record { 0 = p } } }

abbrev pub place_for : Text → ℕ → ℕ
place_for s n = pick (ltb 10 n) 0 (place_of n s)

pub record Placed (Q : ℕ → Type 0) (s : Text) (d : Diagnostic) : Type 0 where
  pub holds : Q d.number
  pub place : d ≡ at_character d.number (place_for s d.number)

abbrev pub TreeChecked : Text → List ℕ → ℕ → Loaded → Type 0
TreeChecked s T end r = (g : Grammar) → Stands T end g → Settles (Passes g end) (Placed (Refuses g) s) (stage_of r)
