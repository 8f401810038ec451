-- The items of a table as the code of the rules: what each function promises of the array, by numbers alone, and what the stage is given.
use Rattle.std.specs.Prelude.{false, ◌⊎◌, ◌≡◌, ℕ, ◌+◌, ◌*◌, ◌-◌, ◌<◌, ◌≤◌, ltb, eqb, length, get_or}
use mathlib.Core.List.{List, Memᴰ as In}
use Rattle.text.specs.Limits.{most_size, grammar_table}
use Rattle.text.specs.Lists.{pick}
use Rattle.tree.specs.Tree.{Terminal, Grammar, rules}
use Rattle.plain.specs.Written.{terminals}
use Rattle.plain.specs.Static.{duplicate}
use Rattle.plain.specs.Plain as plain
use Rattle.items.specs.Items.{kind_at, target_at, token_at}
use Rattle.items.specs.Built.{Built}
use Rattle.chart.specs.Code.{owner_at}
use Rattle.terminals.specs.Sound.{SoundTerminal}
use Rattle.terminals.specs.Places.{TerminalAt}
use Rattle.tokens.specs.Lengths.{width_at}
use Rattle.tokens.specs.Proper.{ProperRules}

-- the first item from p on that ends a rule
pub record Last (T : List ℕ) (p e : ℕ) : Type 0 where
  pub from : p ≤ e
  pub ends : kind_at T e ≡ 6
  pub before : (q : ℕ) → p ≤ q → q < e → kind_at T q ≡ 6 → ⊥

-- it, if `last` is that of the next item
unfoldable pub last_of : List ℕ → ℕ → ℕ → ℕ
last_of T p last = pick (eqb (kind_at T p) 6) p last

-- the owner of an item, if its rule ends at e: an alternative begins at the first item, and after each end
unfoldable pub owner_of : List ℕ → ℕ → ℕ → ℕ
owner_of T p e = pick (eqb p 0) (e + 1) (pick (ltb (get_or T (12285 + 3 * p) 0) 5) 0 (e + 1))

pub record Owners (T : List ℕ) (size : ℕ) (c c' : List ℕ) : Type 0 where
  pub long : length c' ≡ length c
  pub owner : (p e : ℕ) → p < size → Last T p e → e < size → owner_at c' p ≡ owner_of T p e

-- three numbers of an item are put; all else is as it was
pub record Put (c c' : List ℕ) (p kind goes rule : ℕ) : Type 0 where
  pub long : length c' ≡ length c
  pub kind-is : get_or c' (4 * p) 0 ≡ kind
  pub goes-is : get_or c' (4 * p + 1) 0 ≡ goes
  pub rule-is : get_or c' (4 * p + 2) 0 ≡ rule
  pub kept : (j : ℕ) → (j < 4 * p) ⊎ (4 * p + 2 < j) → get_or c' j 0 ≡ get_or c j 0

-- by an item's kind k: what stands after its dot, where it goes on, the rule of its symbol
unfoldable pub next_kind_of : ℕ → ℕ
next_kind_of k = pick (eqb k 1) 1 (pick (ltb k 5) 2 0)

unfoldable pub goes_of : List ℕ → ℕ → ℕ → ℕ
goes_of T p k = pick (eqb k 1) (width_at T (token_at T p)) (pick (ltb k 5) (target_at T p) (pick (eqb k 5) (p + 2) 0))

unfoldable pub rule_of : List ℕ → List ℕ → ℕ → ℕ → ℕ
rule_of T c p k = pick (eqb k 1) 0 (pick (ltb k 5) (owner_at c (target_at T p) - 1) 0)

-- what an item reaches to is there
pub record Reach (T : List ℕ) (size p : ℕ) : Type 0 where
  pub token : kind_at T p ≡ 1 → token_at T p + 1 < length T
  pub target : (kind_at T p ≡ 1 → ⊥) → kind_at T p < 5 → target_at T p < size

pub record Reaches (T : List ℕ) (size : ℕ) (c : List ℕ) : Type 0 where
  pub long : length T ≡ grammar_table
  pub small : size ≤ most_size
  pub room : 4 * size ≤ length c
  pub reach : (p : ℕ) → p < size → Reach T size p

pub record Item (T : List ℕ) (size : ℕ) (c : List ℕ) (p : ℕ) : Type 0 where
  pub long : length T ≡ grammar_table
  pub small : size ≤ most_size
  pub room : 4 * size ≤ length c
  pub inside : p < size
  pub reach : Reach T size p

pub record Codes (T : List ℕ) (size : ℕ) (c c' : List ℕ) : Type 0 where
  pub long : length c' ≡ length c
  pub kind-is : (p : ℕ) → p < size → get_or c' (4 * p) 0 ≡ next_kind_of (kind_at T p)
  pub goes-is : (p : ℕ) → p < size → get_or c' (4 * p + 1) 0 ≡ goes_of T p (kind_at T p)
  pub rule-is : (p : ℕ) → p < size → get_or c' (4 * p + 2) 0 ≡ rule_of T c p (kind_at T p)
  pub owner-is : (p : ℕ) → p < size → owner_at c' p ≡ owner_at c p

-- the table has the items of a grammar whose names have one rule each and whose terminals are sound
pub record Ready (T : List ℕ) (g : Grammar) (size root : ℕ) : Type 0 where
  pub built : Built T g root
  pub simple : duplicate g ≡ false
  pub proper : ProperRules (rules g)
  pub sound : (x : Terminal) → In x (terminals g) → SoundTerminal x
  pub count : size ≡ plain.size g

-- what is known of a terminal at an item: its tokens are in the table
abbrev pub Token : List ℕ → ℕ → Terminal → Type 0
Token T p x = (kind_at T p ≡ 1) × TerminalAt T (token_at T p) x

-- what the coding of the rules is given
pub record Codable (T : List ℕ) (size root : ℕ) (c : List ℕ) : Type 0 where
  pub grammar : Grammar
  pub ready : Ready T grammar size root
  pub long : length T ≡ grammar_table
  pub small : size ≤ most_size
  pub room : 4 * size ≤ length c
