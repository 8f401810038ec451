-- Every flag is set.
use Rattle.std.specs.Prelude.{List, ◌≡◌, ℕ, ◌+◌, ◌*◌, ◌<◌, ◌≤◌, eqb, length, get_or}
use Rattle.text.specs.Limits.{most_size, record_chars}
use Rattle.text.specs.Lists.{pick}
use Rattle.chart.specs.Code.{next_kind, fits_at}
use Rattle.reach.specs.Flags.{dot_at, begin_at, end_at}

-- a dot is reached, and 2 says that no terminal stands after it that does not fit
unfoldable pub dot_flag : List ℕ → List ℕ → ℕ → ℕ → ℕ
dot_flag c f p i = pick (eqb (next_kind c p) 1) (pick (eqb (fits_at f p i) 1) 2 1) 2

-- the place i of a code with its rows of tests
pub record Markable (c f : List ℕ) (size i : ℕ) : Type 0 where
  pub small : size ≤ most_size
  pub room : 4 * size ≤ length c
  pub fits-room : size * (record_chars + 1) ≤ length f
  pub short : i ≤ record_chars

-- the dots before b are flagged at the place i, and the rules that they name; nothing before that place is changed
pub record PlaceMarked (c f : List ℕ) (size i b : ℕ) (M M' : List ℕ) : Type 0 where
  pub long : length M' ≡ length M
  pub dots : (p : ℕ) → p < b → dot_at M' p i ≡ dot_flag c f p i
  pub begins : (p : ℕ) → p < b → begin_at M' p i ≡ 1
  pub ends : (p : ℕ) → p < b → end_at M' p i ≡ 2
  pub kept : (x : ℕ) → x < 1536 * i → get_or M' x 0 ≡ get_or M x 0

-- so it is at the places before b
pub record Marked (c f : List ℕ) (size b : ℕ) (M : List ℕ) : Type 0 where
  pub long : length M ≡ 308736
  pub dots : (p i : ℕ) → p < size → i < b → dot_at M p i ≡ dot_flag c f p i
  pub begins : (p i : ℕ) → p < size → i < b → begin_at M p i ≡ 1
  pub ends : (p i : ℕ) → p < size → i < b → end_at M p i ≡ 2
