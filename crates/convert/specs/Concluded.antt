-- What converting a left parse answers.
use Rattle.std.specs.Prelude.{Bool, ◌≡◌, ◌⊎◌, List, ◌++◌, ℕ, ◌<◌, ◌≤◌, length, drop, Result, Ok, Err}
use Rattle.text.specs.Limits.{grammar_table, reading_numbers}
use Rattle.text.specs.Lists.{Text}
use Rattle.tree.specs.Tree.{Grammar}
use Rattle.tree.specs.Tokens.{grammar_tokens}
use Rattle.derive.specs.Derive.{Row}
use Rattle.items.specs.Items.{Reads}
use Rattle.xml.specs.Document.{document}
use Rattle.xml.specs.Bytes.{bytes}
use Rattle.left_parse.specs.Noted.{Noted, Parsed, Room}
use Rattle.dynamic_errors.specs.Judgment.{judgment_of, error_number}
use Rattle.convert.specs.declared.ConvertError.{ConvertError}
use Rattle.convert.specs.declared.ConvertError.TheVariants.{Forbidden, TooLong}

-- the list names a derivation by the rules in the table, which has the grammar's tokens too
pub record Parsing (T : List ℕ) (root : ℕ) (P : List ℕ) (r : Text) (g : Grammar) (t : Row) : Type 0 where
  pub parsed : Parsed T root P g r t
  pub tokens : Reads T 0 (grammar_tokens g)

pub record Ready (T : List ℕ) (root : ℕ) (P : List ℕ) (r : Text) : Type 0 where
  pub table : length T ≡ grammar_table
  pub few : length P ≤ reading_numbers
  pub g : Grammar
  pub t : Row
  pub parsing : Parsing T root P r g t

-- the same, with every entry noted
pub record Annotated (T : List ℕ) (root : ℕ) (P : List ℕ) (r : Text) (S : List ℕ) : Type 0 where
  pub room : Room T P S
  pub g : Grammar
  pub t : Row
  pub parsing : Parsing T root P r g t
  pub noted : (g : Grammar) (r : Text) (t : Row) → Parsed T root P g r t → Noted S 0 t

-- nothing forbids the XML, and it fits
pub record Written (bs : List ℕ) (judgment : ℕ) (old new : List ℕ) (n : ℕ) : Type 0 where
  pub allowed : judgment ≡ 0
  pub count : n ≡ length bs
  pub fits : length bs ≤ length old
  pub buffer : new ≡ bs ++ drop (length bs) old

-- it is forbidden, or it does not fit
pub record NotWritten (bs : List ℕ) (judgment : ℕ) (old new : List ℕ) (n : ℕ) : Type 0 where
  pub why : ((n ≡ judgment) × (n ≡ 0 → ⊥)) ⊎ ((judgment ≡ 0) × (n ≡ 23) × (length old < length bs))
  pub buffer : new ≡ old

-- the number of each refusal
abbrev pub refusal_number : ConvertError → ℕ
refusal_number (Forbidden e) = error_number e
refusal_number TooLong = 23

-- what the answer promises: the bytes are written and counted, or it says why there are none
pub record Concludes (g : Grammar) (r : Text) (t : Row) (ambiguous mismatch : Bool) (old new : List ℕ) (v : Result ℕ ConvertError) : Type 0 where
  pub written : (n : ℕ) → v ≡ Ok n → Written (bytes ambiguous mismatch (document g r t)) (judgment_of g r t) old new n
  pub not_written : (e : ConvertError) → v ≡ Err e → NotWritten (bytes ambiguous mismatch (document g r t)) (judgment_of g r t) old new (refusal_number e)
