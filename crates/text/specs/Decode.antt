-- UTF-8 decoded: one character at the front of some bytes, by the table of well-formed sequences, and a whole text.
use Rattle.std.specs.Prelude.{Bool, List, [], ◌∷◌, ℕ, zero, suc, ◌+◌, ◌*◌, ◌-◌, ltb, eqb, length, drop}
use Rattle.text.specs.Lists.{Text, pick}
use Rattle.text.specs.Utf8.{unmarked}

-- one character: its code point, how many bytes it took and what follows; or the bytes end inside it; or it is malformed
pub data Taken : Type 0 where
  got : ℕ → ℕ → List ℕ → Taken
  cut bad : Taken

-- the least and the greatest second byte after the first byte b: no form that is too long, no surrogate, nothing above 10FFFF
unfoldable pub second_low : ℕ → ℕ
second_low b = pick (eqb b 0xe0) 0xa0 (pick (eqb b 0xf0) 0x90 0x80)

unfoldable pub second_high : ℕ → ℕ
second_high b = pick (eqb b 0xed) 0x9f (pick (eqb b 0xf4) 0x8f 0xbf)

-- m bytes more, the first of them from lo to hi, after n bytes of value v
unfoldable pub rest_of : ℕ → ℕ → ℕ → ℕ → ℕ → List ℕ → Taken
rest_of zero lo hi v n bs = got v n bs
rest_of (suc m) lo hi v n [] = cut
rest_of (suc m) lo hi v n (b ∷ bs) = pick (ltb b lo) bad (pick (ltb hi b) bad (rest_of m 0x80 0xbf (v * 64 + (b - 0x80)) (n + 1) bs))

unfoldable pub char_of : List ℕ → Taken
char_of [] = cut
char_of (b ∷ bs) =
    pick (ltb b 0x80) (got b 1 bs)
    (pick (ltb b 0xc2) bad
    (pick (ltb b 0xe0) (rest_of 1 0x80 0xbf (b - 0xc0) 1 bs)
    (pick (ltb b 0xf0) (rest_of 2 (second_low b) (second_high b) (b - 0xe0) 1 bs)
    (pick (ltb b 0xf5) (rest_of 3 (second_low b) (second_high b) (b - 0xf0) 1 bs) bad))))

pub data Decoded : Type 0 where
  text : Text → Decoded
  not-utf8 : Decoded

abbrev pub push : ℕ → Decoded → Decoded
push c (text cs) = text (c ∷ cs)
push c not-utf8 = not-utf8

-- after one character, on
abbrev pub after : (List ℕ → Decoded) → Taken → Decoded
after k (got c n t) = push c (k t)
after k cut = not-utf8
after k bad = not-utf8

-- the first number is more than the bytes are
unfoldable pub decode_in : ℕ → List ℕ → Decoded
decode_in zero bs = not-utf8
decode_in (suc f) [] = text []
decode_in (suc f) (b ∷ bs) = after (decode_in f) (char_of (b ∷ bs))

unfoldable pub decode : List ℕ → Decoded
decode bs = decode_in (suc (length bs)) bs

-- a text without its byte order mark
abbrev pub unmark : Decoded → Decoded
unmark (text cs) = text (unmarked cs)
unmark not-utf8 = not-utf8

-- the byte place of the first character that fails the test, by steps from the place p on
abbrev pub onward : (ℕ → Bool) → ℕ → (ℕ → List ℕ → ℕ) → Taken → ℕ
onward f p k (got c n t) = pick (f c) (k (p + n) t) p
onward f p k cut = p
onward f p k bad = p

unfoldable pub break_in : ℕ → (ℕ → Bool) → ℕ → List ℕ → ℕ
break_in zero f p bs = p
break_in (suc m) f p bs = onward f p (break_in m f) (char_of bs)

unfoldable pub break_of : (ℕ → Bool) → List ℕ → ℕ → ℕ
break_of f bs from = break_in (length (drop from bs)) f from (drop from bs)
