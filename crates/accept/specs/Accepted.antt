-- A grammar that no line up to 24 refuses: its plain rules stand in the table.
use Rattle.std.specs.Prelude.{false, ◌≡◌, List, ℕ, ◌≤◌, Result, Ok, Err}
use Rattle.text.specs.Limits.{most_size}
use Rattle.text.specs.Stages.{StageAnswer, answered, refused, Settles}
use Rattle.text.specs.declared.Diagnostic.{Diagnostic}
use Rattle.tree.specs.Tree.{Grammar}
use Rattle.tree.specs.Tokens.{grammar_tokens}
use Rattle.syntax.specs.Parser.{parsed}
use Rattle.plain.specs.Plain.{size}
use Rattle.derive.specs.Yield.{unproductive}
use Rattle.answer.specs.Compute.{Test, first_of, tree_of, grammar_tests, mismatch}
use Rattle.items.specs.Items.{Reads}
use Rattle.rules.specs.Ready.{Ready}
use Rattle.load.specs.Checked.{Stands}
use Rattle.load.specs.Loaded.{Turned}
use Rattle.accept.specs.declared.Rules.{Rules}

pub record Kept (bs T : List ℕ) (r : Rules) : Type 0 where
  pub tree : Grammar
  pub is : tree_of bs ≡ parsed tree
  pub first : (ts : List Test) → first_of (grammar_tests bs ts) ≡ first_of ts
  pub version : r.mismatch ≡ mismatch bs
  pub sized : r.size ≡ size tree
  pub small : size tree ≤ most_size
  pub productive : unproductive tree ≡ false
  pub ready : Ready T tree r.size r.root
  pub tokens : Reads T 0 (grammar_tokens tree)
  pub stands : Stands T r.end tree
  pub inside : r.end ≤ 12288

-- what accepting answers: what a grammar's plain rules are like, or its refusal
abbrev pub Accepted : Type 0
Accepted = Result Rules Diagnostic

-- document 01's number and values for each case
abbrev pub stage_of : Accepted → StageAnswer Rules Diagnostic
stage_of (Ok r) = answered r
stage_of (Err d) = refused d

abbrev pub Accepts : List ℕ → List ℕ → Accepted → Type 0
Accepts bs T r = Settles (Kept bs T) (Turned bs) (stage_of r)
