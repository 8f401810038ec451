-- Characters that a token holds after their count: names, strings, a version.
use Rattle.std.specs.Prelude.{List, ◌++◌, ◌≡◌, ℕ, ◌+◌, ◌≤◌, length, get_or, take, drop}
use Rattle.text.specs.Lists.{Text}
use Rattle.tree.specs.Tokens.{counted}

-- the token at a place holds the text
pub record Holding (T : List ℕ) (at : ℕ) (x : Text) : Type 0 where
  pub more : List ℕ
  pub stands : drop (at + 1) T ≡ counted x ++ more

-- the text that the count at a place tells of, and that the table reaches so far
abbrev pub name_at : List ℕ → ℕ → Text
name_at T at = take (get_or T (at + 1) 0) (drop (at + 2) T)

abbrev pub Named : List ℕ → ℕ → Type 0
Named T at = at + 2 + get_or T (at + 1) 0 ≤ length T

pub record Names (T : List ℕ) (a b : ℕ) : Type 0 where
  pub left : Named T a
  pub right : Named T b
