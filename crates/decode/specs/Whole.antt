-- What decoding a text answers, and what it stores.
use Rattle.std.specs.Prelude.{true, ◌≡◌, List, ℕ, length, drop, Ok, Err}
use Rattle.text.specs.Lists.{Text, all}
use Rattle.text.specs.Utf8.{Utf8, known}
use Rattle.text.specs.Faults.{every, Breaks, Cut}
use Rattle.decode.specs.Scan.{Decoding, over}
use Rattle.text.specs.declared.CharPlace.{CharPlace}
use Rattle.text.specs.declared.BytePlace.{BytePlace}
use Rattle.decode.specs.declared.DecodeError.TheVariants.{CutShort, Malformed, Unknown}

-- of the bytes from a place on: UTF-8 first, then the alphabet; each fault with the byte place of the first that breaks the pattern
pub data Ends (bs : List ℕ) (from : ℕ) : Decoding → Type 0 where
  of : {n : CharPlace} (cs : Text) → Utf8 (drop from bs) cs → all known cs ≡ true → n.0 ≡ length cs → Ends bs from (Ok n)
  cut_short : {p : BytePlace} → Breaks every bs from p.0 → Cut (drop p.0 bs) → Ends bs from (Err (CutShort p))
  malformed : {p : BytePlace} → Breaks every bs from p.0 → (Cut (drop p.0 bs) → ⊥) → Ends bs from (Err (Malformed p))
  unknown : {p : BytePlace} (cs : Text) → Utf8 (drop from bs) cs → Breaks known bs from p.0 → Ends bs from (Err (Unknown p))

-- nothing is said of the buffer where the text is no UTF-8
pub record Decodes (bs : List ℕ) (from : ℕ) (old : List ℕ) (r : Decoding) (new : List ℕ) : Type 0 where
  pub answer : Ends bs from r
  pub stored : (cs : Text) → Utf8 (drop from bs) cs → new ≡ over cs old
