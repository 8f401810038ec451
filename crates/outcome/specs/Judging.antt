-- A list that is judged, once none of 1 to 15 applies, nor 24.
use Rattle.std.specs.Prelude.{Bool, false, ◌≡◌, List, ℕ, Result}
use Rattle.text.specs.Lists.{Text}
use Rattle.text.specs.Stages.{plainly}
use Rattle.tree.specs.Tree.{Grammar}
use Rattle.tree.specs.Tokens.{grammar_tokens}
use Rattle.derive.specs.Derive.{Row}
use Rattle.items.specs.Items.{Reads}
use Rattle.judge.specs.Due.{Named}
use Rattle.judge.specs.Tracks.{Lent, Given}
use Rattle.convert.specs.declared.ConvertError.{ConvertError}
use Rattle.convert.specs.Concluded.{Concludes}
use Rattle.exported.specs.declared.Answer.{Answer}
use Rattle.exported.specs.Exported.{refusal_of}
use Rattle.outcome.specs.Outcome.{answer_of}

-- a grammar whose tokens and plain rules stand in the table
pub record Stands (T : List ℕ) (root : ℕ) (g : Grammar) : Type 0 where
  pub given : Given T root g
  pub tokens : Reads T 0 (grammar_tokens g)

pub record Judgeable (T : List ℕ) (root : ℕ) (P : List ℕ) (r : Text) (S : List ℕ) : Type 0 where
  pub lent : Lent T P r S
  pub g : Grammar
  pub stands : Stands T root g

-- the list names a derivation, and the answer is that to its XML
pub record Accepted (g : Grammar) (P : List ℕ) (r : Text) (m : Bool) (old new : List ℕ) (a : Answer) : Type 0 where
  pub row : Row
  pub named : Named P g r
  pub is : named.0 ≡ row
  pub converted : Result ℕ ConvertError
  pub concludes : Concludes g r row false m old new converted
  pub answer : a ≡ answer_of converted false m

-- it names none
pub record Declined (g : Grammar) (P : List ℕ) (r : Text) (old new : List ℕ) (a : Answer) : Type 0 where
  pub none : Named P g r → ⊥
  pub answer : a ≡ refusal_of (record { why = plainly 25; mismatch = false })
  pub buffer : new ≡ old

pub data Verdict (g : Grammar) (P : List ℕ) (r : Text) (m : Bool) (old new : List ℕ) (a : Answer) : Type 0 where
  accepted : Accepted g P r m old new a → Verdict g P r m old new a
  declined : Declined g P r old new a → Verdict g P r m old new a

abbrev pub Concluded : List ℕ → ℕ → List ℕ → Text → Bool → List ℕ → List ℕ → Answer → Type 0
Concluded T root P r m old new a = (g : Grammar) → Stands T root g → Verdict g P r m old new a
