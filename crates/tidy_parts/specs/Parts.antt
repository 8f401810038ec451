-- What stands before and after a token's own text, by its kind; a hex number.
use Rattle.std.specs.Prelude.{List, [], ◌∷◌, ◌++◌, ℕ, ◌%◌, ltb, eqb, length, get_or}
use Rattle.text.specs.Lists.{Text, chars, pick}
use Rattle.tree.specs.Tokens.{capped}
use Rattle.tidy.specs.Tidy.{hex_text}
use Rattle.tidy.specs.Numbers.{sign_by}

-- a mark's sign, `+` before an insertion, the words before a version
unfoldable pub lead_by : ℕ → Text
lead_by k = pick (ltb k 24) (sign_by (k % 4)) (pick (ltb k 29) [] (pick (ltb k 31) (chars "+") (pick (eqb k 40) (chars "ixml version ") [])))

-- a character for each kind; `_` where there is none
unfoldable pub sign_at : List ℕ → ℕ → Text
sign_at s k = pick (ltb k (length s)) (pick (eqb (get_or s k 0) 0x5f) [] (get_or s k 0 ∷ [])) []

unfoldable pub tail_by : ℕ → Text
tail_by k = sign_at (chars "____________[[[[~~~~::::____]__();?*+__..") k ++ sign_at (chars "________________[[[[    _________ _____\n\n") k

-- a hex number as it stands in a table
abbrev pub coded_text : ℕ → Text
coded_text n = chars "#" ++ hex_text (capped n)
