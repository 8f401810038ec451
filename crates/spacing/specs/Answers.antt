-- What reading spacing and writing tokens answers: the definition's answer on the text from the place on, and what the table holds.
use Rattle.std.specs.Prelude.{◌≡◌, List, [], ◌∷◌, ◌++◌, ℕ, suc, ◌+◌, ◌*◌, ◌-◌, ◌<◌, ◌≤◌, length, take, drop, set, Option, Some, None}
use Rattle.text.specs.Lists.{Text}
use Rattle.text.specs.declared.CharPlace.{CharPlace}
use Rattle.syntax.specs.Result.{Result, ok, fail}
use Rattle.syntax.specs.Spacing.{scan, skip}
use Rattle.spacing.specs.declared.Cell.{Cell}

-- where something ends in the text
abbrev pub Past : Type 0
Past = Option CharPlace

-- where something ends in the text, and what was written for it in the table
abbrev pub Step : Type 0
Step = Option (CharPlace × Cell)

-- the place q is in the text, at or after p
pub record Onward (s : Text) (p q : ℕ) : Type 0 where
  pub on : p ≤ q
  pub within : q ≤ length s

-- Spacing.
pub record Closed (s : Text) (p d q : ℕ) : Type 0 where
  pub onward : Onward s p q
  pub past : (k : ℕ) → scan (drop p s) (suc k) d ≡ scan (drop q s) k (suc d)

abbrev pub After-comment : Text → ℕ → ℕ → Past → Type 0
After-comment s p d (Some q) = Closed s p d q.0
After-comment s p d None = (k : ℕ) → scan (drop p s) (suc k) d ≡ fail

pub record Skipped (s : Text) (p q : ℕ) : Type 0 where
  pub onward : Onward s p q
  pub past : skip (drop p s) ≡ ok tt (drop q s)

abbrev pub After-skip : Text → ℕ → Past → Type 0
After-skip s p (Some q) = Skipped s p q.0
After-skip s p None = skip (drop p s) ≡ fail

-- a step's place is in the text
abbrev pub Step-in : Text → Step → Type 0
Step-in s (Some (q, b)) = q.0 ≤ length s
Step-in s None = Unit {0}

pub record Gap (s : Text) (q b w e : ℕ) : Type 0 where
  pub skipped : Skipped s q w
  pub cell : e ≡ b

abbrev pub Spaced : Text → Step → Step → Type 0
Spaced s (Some (q, b)) (Some (w, e)) = Gap s q.0 b.0 w.0 e.0
Spaced s (Some (q, b)) None = skip (drop q.0 s) ≡ fail
Spaced s None (Some (w, e)) = ⊥
Spaced s None None = Unit {0}

-- The table o has room from the cell at on: three numbers for each character from p on.
pub record Room (s : Text) (p : ℕ) (o : List ℕ) (at : ℕ) : Type 0 where
  pub place : p ≤ length s
  pub cells : at + 3 * length s ≤ length o + 3 * p
  pub few : length o < 4294967296

-- a value was read from p to q, at least to lo, and its numbers written from at to b
pub record Read {A : Type 0} (E : Result A → Type 0) (code : A → List ℕ) (s : Text) (p lo : ℕ) (o : List ℕ) (at : ℕ) (o' : List ℕ) (q b : ℕ) : Type 0 where
  pub value : A
  pub same : E (ok value (drop q s))
  pub onward : Onward s lo q
  pub wrote : take b o' ≡ take at o ++ code value
  pub cells : b + 3 * p ≤ at + 3 * q

abbrev pub After : {A : Type 0} → (Result A → Type 0) → (A → List ℕ) → Text → ℕ → ℕ → List ℕ → ℕ → Step → List ℕ → Type 0
After E code s p lo o at (Some (q, b)) o' = Read E code s p lo o at o' q.0 b.0
After E code s p lo o at None o' = E fail

-- spacing after the character at p, for which one number is written
abbrev pub After-token : Text → ℕ → ℕ → List ℕ → ℕ → Step → List ℕ → Type 0
After-token s p k o at r o' = After (λ x. skip (drop (p + 1) s) ≡ x) (λ _. k ∷ []) s p (p + 1) o at r o'

-- the head of a token whose characters end at b
abbrev pub headed : List ℕ → ℕ → ℕ → ℕ → List ℕ
headed o at k b = set (set o at k) (at + 1) (b - (at + 2))

-- Sets.
-- three numbers from the cell at on
abbrev pub three : List ℕ → ℕ → ℕ → ℕ → ℕ → List ℕ
three o at a b c = set (set (set o at a) (at + 1) b) (at + 2) c
