-- What a scan answers: how far it read, and why it stopped there.
use Rattle.std.specs.Prelude.{Bool, false, ◌≡◌, List, [], ◌++◌, ℕ, ◌+◌, ◌<◌, length, take, drop, Result, Ok, Err}
use Rattle.text.specs.Lists.{Text}
use Rattle.text.specs.Utf8.{utf8s, All, known}
use Rattle.text.specs.Decode.{got, cut, bad, char_of}
use Rattle.text.specs.Faults.{Fits, every}
use Rattle.decode.specs.declared.Pattern.{Pattern}
use Rattle.decode.specs.declared.Pattern.TheVariants.{Utf8, Alphabet}
use Rattle.decode.specs.declared.DecodeError.{DecodeError}
use Rattle.decode.specs.declared.DecodeError.TheVariants.{CutShort, Malformed, Unknown}
use Rattle.text.specs.declared.CharPlace.{CharPlace}
use Rattle.text.specs.declared.BytePlace.{BytePlace}

-- the test of a pattern
abbrev pub test_of : Pattern → ℕ → Bool
test_of Utf8 = every
test_of Alphabet = known

-- characters over the first cells of a buffer, as far as it has room; every other cell as it was
abbrev pub over : Text → List ℕ → List ℕ
over cs old = take (length old) cs ++ drop (length cs) old

-- how many characters there are, or why a text is not decoded
abbrev pub Decoding : Type 0
Decoding = Result CharPlace DecodeError

-- why reading stops after n characters at the byte place p, where the bytes are left
pub data Stopped (f : ℕ → Bool) (n p : ℕ) (rest : List ℕ) : Decoding → Type 0 where
  at-end : {k : CharPlace} → k.0 ≡ n → rest ≡ [] → Stopped f n p rest (Ok k)
  at_cut : {q : BytePlace} → q.0 ≡ p → 0 < length rest → char_of rest ≡ cut → Stopped f n p rest (Err (CutShort q))
  at-bad : {q : BytePlace} → q.0 ≡ p → 0 < length rest → char_of rest ≡ bad → Stopped f n p rest (Err (Malformed q))
  at-unfit : {q : BytePlace} {c k : ℕ} {t : List ℕ} → q.0 ≡ p → char_of rest ≡ got c k t → f c ≡ false → Stopped f n p rest (Err (Unknown q))

pub record Scans (f : ℕ → Bool) (bs : List ℕ) (from : ℕ) (old : List ℕ) (r : Decoding) (new : List ℕ) : Type 0 where
  pub chars : Text
  pub place : ℕ
  pub fits : All (Fits f) chars
  pub spelt : drop from bs ≡ utf8s chars ++ drop place bs
  pub counts : place ≡ from + length (utf8s chars)
  pub stored : new ≡ over chars old
  pub stopped : Stopped f (length chars) place (drop place bs) r
