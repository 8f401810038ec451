-- Where bytes stop being characters that fit a pattern: the byte place of the first fault.
use Rattle.std.specs.Prelude.{Bool, true, ◌≡◌, List, [], ◌∷◌, ◌++◌, ℕ, ◌+◌, ◌<◌, length, drop}
use Rattle.text.specs.Lists.{Text, pick, begins}
use Rattle.text.specs.Utf8.{Scalar, utf8, utf8s, All}

-- a character that fits the pattern f: a scalar value that passes its test
pub record Fits (f : ℕ → Bool) (c : ℕ) : Type 0 where
  pub scalar : Scalar c
  pub passes : f c ≡ true

-- the pattern of UTF-8; that of the alphabet is `known`
abbrev pub every : ℕ → Bool
every c = true

-- "reading stops at the first character that breaks the pattern": from a byte place on the bytes are the encoding of characters
-- that fit, up to the place; something is left there, and it begins with the encoding of no character that fits
pub record Breaks (f : ℕ → Bool) (bs : List ℕ) (from place : ℕ) : Type 0 where
  pub before : Text
  pub rest : List ℕ
  pub fits : All (Fits f) before
  pub spelt : drop from bs ≡ utf8s before ++ rest
  pub counts : place ≡ from + length (utf8s before)
  pub some : 0 < length rest
  pub stops : (c : ℕ) (t : List ℕ) → Fits f c → rest ≡ utf8 c ++ t → ⊥

-- "Cut short means that the text ends inside a sequence that was well formed so far": bytes that are missing would make it the
-- encoding of a scalar value
pub record Cut (rest : List ℕ) : Type 0 where
  pub char : ℕ
  pub missing : List ℕ
  pub scalar : Scalar char
  pub some : 0 < length missing
  pub spelt : utf8 char ≡ rest ++ missing

-- the bytes begin with a byte order mark
abbrev pub marked : List ℕ → Bool
marked bs = begins (0xef ∷ 0xbb ∷ 0xbf ∷ []) bs

-- "Places count from the buffer's first byte": where a grammar's characters begin, after its byte order mark
abbrev pub after_mark : List ℕ → ℕ
after_mark bs = pick (marked bs) 3 0
