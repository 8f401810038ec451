-- All tokens of a grammar, and what tidying them answers.
use Rattle.std.specs.Prelude.{◌≡◌, ◌⊎◌, List, [], ◌∷◌, ◌++◌, ℕ, ◌<◌, ◌≤◌, length, drop, Result, Ok, Err}
use Rattle.text.specs.Limits.{grammar_bytes}
use Rattle.text.specs.Stages.{StageAnswer, answered, refused, Settles}
use Rattle.tree.specs.Tokens.{Token}
use Rattle.tidy_writer.specs.Parts.{Fit}
use Rattle.tidy_text.specs.declared.TidyError.{TidyError}
use Rattle.tidy_text.specs.declared.TidyError.TheVariants.{TidyTooLong, ResultTooLong}

-- the table tells all of each token
abbrev pub AllFit : List Token → Type 0
AllFit [] = Unit {0}
AllFit (t ∷ ts) = Fit t × AllFit ts

-- document 01's number and values for each case
abbrev pub error_number : TidyError → ℕ
error_number TidyTooLong = 28
error_number ResultTooLong = 23

abbrev pub stage_of : Result ℕ TidyError → StageAnswer ℕ ℕ
stage_of (Ok n) = answered n
stage_of (Err e) = refused (error_number e)

-- the bytes fit
pub record Written (bs old new : List ℕ) (n : ℕ) : Type 0 where
  pub short : length bs ≤ grammar_bytes
  pub fits : length bs ≤ length old
  pub count : n ≡ length bs
  pub buffer : new ≡ bs ++ drop (length bs) old

-- "If the tidy text would exceed 4,096 bytes it is refused as 28; otherwise, if it exceeds the lent buffer, as 23"
pub record NotWritten (bs old new : List ℕ) (n : ℕ) : Type 0 where
  pub why : ((n ≡ 28) × (grammar_bytes < length bs)) ⊎ ((n ≡ 23) × (length bs ≤ grammar_bytes) × (length old < length bs))
  pub buffer : new ≡ old

abbrev pub Concludes : List ℕ → List ℕ → List ℕ → Result ℕ TidyError → Type 0
Concludes bs old new t = Settles (Written bs old new) (NotWritten bs old new) (stage_of t)
