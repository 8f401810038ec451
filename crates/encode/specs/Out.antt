-- What is put: a place and a buffer. Past the limit nothing is stored, and the place stops after the room.
use Rattle.std.specs.Prelude.{◌≡◌, true, false, List, [], ◌∷◌, ◌++◌, ℕ, ◌+◌, ◌/◌, ◌%◌, ltb, leb, length, set}
use Rattle.text.specs.Lists.{Text, pick}
use Rattle.text.specs.Utf8.{utf8}
use Rattle.tree.specs.Tokens.{capped}
use Rattle.xml.specs.Bytes.{escape}
use Rattle.encode.specs.declared.Spelling.{Spelling}
use Rattle.encode.specs.declared.Spelling.TheVariants.{Plain, InContent, InValue}

pub record State : Type 0 where
  pub pos : ℕ
  pub out : List ℕ

abbrev pub state : ℕ → List ℕ → State
state p o = record { pos = p; out = o }

abbrev pub put1 : ℕ → State → ℕ → State
put1 limit s b = state (pick (leb s.pos (length s.out)) (s.pos + 1) s.pos) (pick (ltb s.pos limit) (set s.out s.pos b) s.out)

unfoldable pub puts : ℕ → State → List ℕ → State
puts limit s [] = s
puts limit s (b ∷ bs) = puts limit (put1 limit s b) bs

-- UTF-8 of a text, every number above 10FFFF as 110000
unfoldable pub enc : Text → List ℕ
enc [] = []
enc (c ∷ cs) = utf8 (capped c) ++ enc cs

-- the last two bytes of a character that has three or four
abbrev pub last_two : ℕ → List ℕ
last_two c = (0x80 + c / 64 % 64) ∷ (0x80 + c % 64) ∷ []

-- a character where it is written: in a name, in content or in a value
abbrev pub spelt : Spelling → ℕ → Text
spelt Plain c = c ∷ []
spelt InContent c = escape false c
spelt InValue c = escape true c

-- from one place and buffer to another the text was written
pub record Wrote (limit pos : ℕ) (out : List ℕ) (pos' : ℕ) (out' : List ℕ) (t : Text) : Type 0 where
  pub is : state pos' out' ≡ puts limit (state pos out) (enc t)
