-- What is asked: a text, its tokens in a table, and the rule that they break.
use Rattle.std.specs.Prelude.{◌≡◌, List, ℕ, ◌≤◌, length}
use Rattle.text.specs.Limits.{grammar_bytes, grammar_table}
use Rattle.text.specs.Lists.{Text}
use Rattle.tree.specs.Tree.{Grammar}
use Rattle.syntax.specs.Parser.{parsed, parse}
use Rattle.static_errors.specs.Held.{Holds, static_of}

pub record Asked (t : Text) (table : List ℕ) (end rule : ℕ) : Type 0 where
  pub grammar : Grammar
  pub parse : parse t ≡ parsed grammar
  pub holds : Holds table end grammar
  pub small : length t ≤ grammar_bytes
  pub short : end ≤ grammar_table
  pub broken : static_of grammar ≡ rule
  pub some : rule ≡ 0 → ⊥
