-- The rows of tests, by numbers alone, and what the stage is given.
use Rattle.std.specs.Prelude.{List, ◌⊎◌, ◌≡◌, ℕ, ◌+◌, ◌*◌, ◌<◌, ◌≤◌, length, get_or, drop}
use Rattle.text.specs.Limits.{most_size, record_chars, grammar_table}
use Rattle.text.specs.Lists.{Text}
use Rattle.tree.specs.Tree.{Terminal, Grammar}
use Rattle.plain.specs.Plain.{fits}
use Rattle.items.specs.Items.{kind_at, token_at}
use Rattle.chart.specs.Code.{fits_at, flag}
use Rattle.terminals.specs.Places.{TerminalHere, TerminalAt}
use Rattle.rules.specs.Ready.{Ready}

-- a row of tests, at each place of the record, and all else as it was
pub record Row (T R f f' : List ℕ) (at base : ℕ) : Type 0 where
  pub long : length f' ≡ length f
  pub row : (x : Terminal) → TerminalAt T at x → (i : ℕ) → i ≤ length R → get_or f' (base + i) 0 ≡ flag (fits x (drop i R))
  pub kept : (j : ℕ) → (j < base) ⊎ (base + length R < j) → get_or f' j 0 ≡ get_or f j 0

pub record RowReady (T : List ℕ) (at : ℕ) (R : Text) (f : List ℕ) (base : ℕ) : Type 0 where
  pub small : length T ≤ grammar_table
  pub short : length R ≤ record_chars
  pub here : TerminalHere T at
  pub room : base + length R < length f

-- where terminals fit
pub record RowsReady (T : List ℕ) (size : ℕ) (R : Text) (f : List ℕ) : Type 0 where
  pub long : length T ≡ grammar_table
  pub small : size ≤ most_size
  pub short : length R ≤ record_chars
  pub room : size * (record_chars + 1) ≤ length f
  pub here : (p : ℕ) → p < size → kind_at T p ≡ 1 → TerminalHere T (token_at T p)

pub record ItemRow (T : List ℕ) (R f f' : List ℕ) (p : ℕ) : Type 0 where
  pub long : length f' ≡ length f
  pub row : (x : Terminal) → kind_at T p ≡ 1 → TerminalAt T (token_at T p) x → (i : ℕ) → i ≤ length R → fits_at f' p i ≡ flag (fits x (drop i R))
  pub kept : (q i : ℕ) → (q ≡ p → ⊥) → i ≤ length R → fits_at f' q i ≡ fits_at f q i

pub record Rows (T : List ℕ) (size : ℕ) (R f f' : List ℕ) : Type 0 where
  pub long : length f' ≡ length f
  pub rows : (p : ℕ) → p < size → (x : Terminal) → kind_at T p ≡ 1 → TerminalAt T (token_at T p) x → (i : ℕ) → i ≤ length R → fits_at f' p i ≡ flag (fits x (drop i R))

pub record Given (T : List ℕ) (size root : ℕ) (R c f : List ℕ) : Type 0 where
  pub grammar : Grammar
  pub ready : Ready T grammar size root
  pub long : length T ≡ grammar_table
  pub small : size ≤ most_size
  pub short : length R ≤ record_chars
  pub room : 4 * size ≤ length c
  pub fits-room : size * (record_chars + 1) ≤ length f
