-- What a caller is given: the numbers or the XML of a chosen reading, the tidy text of a grammar.
use Rattle.std.specs.Prelude.{Bool, true, false, Result, Ok, Err, ◌≡◌, ◌⊎◌, List, ◌++◌, ℕ, ◌≤◌, ◌<◌, length, take, drop}
use Rattle.text.specs.Stages.{plainly}
use Rattle.tree.specs.Tree.{Grammar}
use Rattle.tree.specs.Tokens.{Token}
use Rattle.tokens.specs.Lengths.{Left}
use Rattle.encode.specs.Out.{enc}
use Rattle.tidy.specs.Scan.{scan}
use Rattle.tidy_writer.specs.Walk.{SomeLeft}
use Rattle.tidy_text.specs.declared.TidyError.{TidyError}
use Rattle.tidy_text.specs.Whole as tidy
use Rattle.accept.specs.declared.Rules.{Rules}
use Rattle.accept.specs.Accepted.{Accepted}
use Rattle.derive.specs.Derive.{Row}
use Rattle.job.specs.declared.LeftParse.{LeftParse}
use Rattle.exported.specs.declared.Refusal.{Refusal}
use Rattle.convert.specs.declared.ConvertError.{ConvertError}
use Rattle.convert.specs.Concluded.{Parsing, Ready, Concludes}
use Rattle.exported.specs.declared.Answer.{Answer}
use Rattle.exported.specs.Exported.{done, refusal_of}
use Rattle.outcome.specs.Outcome.{answer_of}

-- 1. Numbers: so many stand in `P`.
abbrev pub Counted : Result LeftParse Refusal → List ℕ → Type 0
Counted (Ok f) P = f.count ≤ length P
Counted (Err k) P = Unit

-- they fit, and are copied
pub record Fitting (f : LeftParse) (P old new : List ℕ) (a : Answer) : Type 0 where
  pub fits : f.count ≤ length old
  pub answer : a ≡ done f.count f.ambiguous f.mismatch
  pub buffer : new ≡ take f.count P ++ drop f.count old

-- they do not
pub record TooLong (f : LeftParse) (old new : List ℕ) (a : Answer) : Type 0 where
  pub longer : length old < f.count
  pub answer : a ≡ refusal_of (record { why = plainly 23; mismatch = f.mismatch })
  pub buffer : new ≡ old

abbrev pub GivesNumbers : Result LeftParse Refusal → List ℕ → List ℕ → List ℕ → Answer → Type 0
GivesNumbers (Ok f) P old new a = Fitting f P old new a ⊎ TooLong f old new a
GivesNumbers (Err k) P old new a = (a ≡ refusal_of k) × (new ≡ old)

-- 2. XML: the numbers in `P` name a derivation of the characters in `R`.
pub record Writable (f : LeftParse) (T R P : List ℕ) : Type 0 where
  pub numbers : f.count ≡ length (take f.count P)
  pub chars : f.chars.0 ≡ length (take f.chars.0 R)
  pub ready : Ready T f.root (take f.count P) (take f.chars.0 R)

abbrev pub Named : Result LeftParse Refusal → List ℕ → List ℕ → List ℕ → Type 0
Named (Ok f) T R P = Writable f T R P
Named (Err k) T R P = Unit

-- whatever derivation they name, this is concluded of it
pub record Concluding (f : LeftParse) (T R P old new : List ℕ) (a : Answer) : Type 0 where
  pub converted : Result ℕ ConvertError
  pub concludes : (g : Grammar) (t : Row) → Parsing T f.root (take f.count P) (take f.chars.0 R) g t
      → Concludes g (take f.chars.0 R) t f.ambiguous f.mismatch old new converted
  pub answer : a ≡ answer_of converted f.ambiguous f.mismatch

abbrev pub GivesXml : Result LeftParse Refusal → List ℕ → List ℕ → List ℕ → List ℕ → List ℕ → Answer → Type 0
GivesXml (Ok f) T R P old new a = Concluding f T R P old new a
GivesXml (Err k) T R P old new a = (a ≡ refusal_of k) × (new ≡ old)

-- 3. Tidy text: the tokens stand in `T`.
abbrev pub Tokened : Accepted → List ℕ → Type 0
Tokened (Ok p) T = SomeLeft T p.end 0
Tokened (Err d) T = Unit

abbrev pub tidied_of : Result ℕ TidyError → Bool → Answer
tidied_of (Ok n) m = done n false m
tidied_of (Err e) m = refusal_of (record { why = plainly (tidy.error_number e); mismatch = false })

-- whatever tokens they are, this is concluded of them
pub record Tidying (p : Rules) (T old new : List ℕ) (a : Answer) : Type 0 where
  pub tidied : Result ℕ TidyError
  pub concludes : (ts : List Token) → Left T p.end 0 ts → tidy.AllFit ts → tidy.Concludes (enc (scan true ts)) old new tidied
  pub answer : a ≡ tidied_of tidied p.mismatch

abbrev pub GivesTidy : Accepted → List ℕ → List ℕ → List ℕ → Answer → Type 0
GivesTidy (Ok p) T old new a = Tidying p T old new a
GivesTidy (Err d) T old new a = (a ≡ refusal_of (record { why = d; mismatch = false })) × (new ≡ old)
