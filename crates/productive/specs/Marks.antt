-- The marks after live terminals.
use Rattle.std.specs.Prelude.{Bool, false, List, ◌≡◌, ℕ, ◌+◌, ◌*◌, ◌<◌, ◌≤◌, length, get_or}
use Rattle.text.specs.Limits.{most_size, grammar_table}
use Rattle.tree.specs.Tree.{Terminal}
use Rattle.plain.specs.Live.{live}
use Rattle.items.specs.Items.{token_at}
use Rattle.chart.specs.Code.{next_kind}
use Rattle.terminals.specs.Places.{TerminalHere}
use Rattle.rules.specs.Ready.{Token}
use Rattle.productive.specs.Made.{Shape, Fresh}

-- the terminals of the code are in the table
pub record Terminals (T : List ℕ) (c : List ℕ) (size : ℕ) (M : List Bool) : Type 0 where
  pub long : length T ≡ grammar_table
  pub shape : Shape c size
  pub room : 4 * size ≤ length c
  pub here : (p : ℕ) → p < size → next_kind c p ≡ 1 → TerminalHere T (token_at T p)
  pub marks-long : length M ≡ most_size + most_size

abbrev pub Blank : List Bool → Type 0
Blank M = (x : ℕ) → get_or M x false ≡ false

-- the mark after a terminal
pub record ItemMarked (T : List ℕ) (c : List ℕ) (M M' : List Bool) (p : ℕ) : Type 0 where
  pub long : length M' ≡ length M
  pub lives : next_kind c p ≡ 1 → (x : Terminal) → Token T p x → get_or M' (most_size + (p + 1)) false ≡ live x
  pub skips : (next_kind c p ≡ 1 → ⊥) → get_or M' (most_size + (p + 1)) false ≡ get_or M (most_size + (p + 1)) false
  pub kept : (j : ℕ) → (j ≡ most_size + (p + 1) → ⊥) → get_or M' j false ≡ get_or M j false

-- all of them, and no others
pub record Lively (T : List ℕ) (c : List ℕ) (size : ℕ) (M : List Bool) : Type 0 where
  pub fresh : Fresh c size M
  pub lives : (p : ℕ) → p < size → next_kind c p ≡ 1 → (x : Terminal) → Token T p x → get_or M (most_size + (p + 1)) false ≡ live x
