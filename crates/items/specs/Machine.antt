-- A stack machine that makes the items in one pass over the tokens: an operator stands after its operands.
use Rattle.std.specs.Prelude.{List, [], ◌∷◌, ◌++◌, ◌≡◌, ℕ, ◌+◌, ◌*◌, ◌<◌, ◌≤◌, ltb, eqb, length, take, drop}
use Rattle.text.specs.Lists.{pick}
use Rattle.repetitions.specs.Blocks.{Entry, entry, nums, one_block, one_count, one_first, two_block, two_count, two_first, laid}
use Rattle.items.specs.declared.Action.{Action}
use Rattle.items.specs.declared.Action.TheVariants.{Skip, Push, Open, Operator, Close, Finish}
use Rattle.items.specs.declared.State.{State}

-- what a token asks for, by its first number
unfoldable pub late_action_of : ℕ → Action
late_action_of k = pick (eqb k 33) (Push 5) (pick (ltb k 39) (Operator k) (pick (eqb k 39) Finish Skip))

unfoldable pub action_of : ℕ → Action
action_of k =
    pick (ltb k 4) (Push 2)
    (pick (ltb k 20) (Push 1)
    (pick (ltb k 24) Open (pick (ltb k 29) Skip (pick (ltb k 31) (Push 1) (pick (eqb k 31) Open (pick (eqb k 32) Close (late_action_of k)))))))

-- the entries from j up to the depth fit as items from i on, with one more
pub record Space (T : List ℕ) (i j depth : ℕ) : Type 0 where
  pub count : ℕ
  pub size : length T ≡ 16384
  pub deep : depth ≡ j + count
  pub high : depth ≤ 512
  pub fits : i + (count + 1) ≤ 512

pub record Copied (T : List ℕ) (i j depth r : ℕ) (T' : List ℕ) : Type 0 where
  pub count : ℕ
  pub deep : depth ≡ j + count
  pub table : T' ≡ laid T i (take (3 * count) (drop (14848 + 3 * j) T) ++ nums (entry 6 0 0))
  pub next : r ≡ i + (count + 1)

-- a state of the machine: the tokens, the items so far, the rules' places, the stack; and the counts of the last three
pub record Abs : Type 0 where
  pub tokens : List ℕ
  pub list : List ℕ
  pub items : ℕ
  pub rows : List ℕ
  pub rules : ℕ
  pub stack : List ℕ
  pub depth : ℕ
  pub base : ℕ

abbrev pub pushed : Abs → Entry → ℕ → Abs
pushed a e b = record { tokens = a.tokens; list = a.list; items = a.items; rows = a.rows; rules = a.rules; stack = a.stack ++ nums e; depth = a.depth + 1; base = b }

-- an operator of one operand, and of two
pub record One (k : ℕ) (a b : Abs) : Type 0 where
  pub under : List ℕ
  pub count : ℕ
  pub f : Entry
  pub stacked : a.stack ≡ under ++ nums f
  pub deep : a.depth ≡ count + 1
  pub long : length under ≡ 3 * count
  pub result : b ≡ record {
    tokens = a.tokens;
    list = a.list ++ one_block k f a.items;
    items = a.items + one_count k;
    rows = a.rows;
    rules = a.rules;
    stack = under ++ nums (entry 4 (a.items + one_first k) f.token);
    depth = count + 1;
    base = a.base;
  }

pub record Two (k : ℕ) (a b : Abs) : Type 0 where
  pub under : List ℕ
  pub count : ℕ
  pub f : Entry
  pub sep : Entry
  pub stacked : a.stack ≡ under ++ (nums f ++ nums sep)
  pub deep : a.depth ≡ count + 2
  pub long : length under ≡ 3 * count
  pub result : b ≡ record {
    tokens = a.tokens;
    list = a.list ++ two_block k f sep a.items;
    items = a.items + two_count k;
    rows = a.rows;
    rules = a.rules;
    stack = under ++ nums (entry 4 (a.items + two_first k) f.token);
    depth = count + 1;
    base = a.base;
  }

-- what stands above a mark becomes a block of items
pub record Block (a : Abs) : Type 0 where
  pub under : List ℕ
  pub old : ℕ
  pub place : ℕ
  pub body : List ℕ
  pub count : ℕ
  pub stacked : a.stack ≡ under ++ (nums (entry 0 old place) ++ body)
  pub deep : a.depth ≡ a.base + (count + 1)
  pub long : length under ≡ 3 * a.base
  pub wide : length body ≡ 3 * count

abbrev pub block_list : (a : Abs) → Block a → List ℕ
block_list a w = a.list ++ (w.body ++ nums (entry 6 0 0))

pub record Closed (a b : Abs) : Type 0 where
  pub block : Block a
  pub result : b ≡ record {
    tokens = a.tokens;
    list = block_list a block;
    items = a.items + (block.count + 1);
    rows = a.rows;
    rules = a.rules;
    stack = block.under ++ nums (entry 4 a.items block.place);
    depth = a.base + 1;
    base = block.old;
  }

pub record Finished (a b : Abs) : Type 0 where
  pub block : Block a
  pub result : b ≡ record {
    tokens = a.tokens;
    list = block_list a block;
    items = a.items + (block.count + 1);
    rows = a.rows ++ (block.place ∷ a.items ∷ []);
    rules = a.rules + 1;
    stack = block.under;
    depth = a.base;
    base = block.old;
  }

-- the machine goes from a to b, by the action of the token at a place
abbrev pub Act : Action → ℕ → Abs → Abs → Type 0
Act Skip at a b = b ≡ a
Act (Push k) at a b = b ≡ pushed a (entry k 0 at) a.base
Act Open at a b = b ≡ pushed a (entry 0 a.base at) a.depth
Act (Operator k) at a b = (k < 37 → One k a b) × (37 ≤ k → Two k a b)
Act Close at a b = Closed a b
Act Finish at a b = Finished a b

pub record Fit (a : Abs) : Type 0 where
  pub items : a.items ≤ 512
  pub rules : a.rules ≤ 512
  pub depth : a.depth ≤ 512
  pub base : a.base ≤ 512

-- the table has what a says, and the counts are those of a
pub record Has (T : List ℕ) (a : Abs) : Type 0 where
  pub size : length T ≡ 16384
  pub fit : Fit a
  pub tokens : take 12288 T ≡ a.tokens
  pub list : take (3 * a.items) (drop 12288 T) ≡ a.list
  pub rows : take (2 * a.rules) (drop 13824 T) ≡ a.rows
  pub stack : take (3 * a.depth) (drop 14848 T) ≡ a.stack

pub record Rep (T : List ℕ) (s : State) (a : Abs) : Type 0 where
  pub has : Has T a
  pub items : s.items ≡ a.items
  pub rules : s.rules ≡ a.rules
  pub depth : s.depth ≡ a.depth
  pub base : s.base ≡ a.base

pub record Ready (d : Action) (at : ℕ) (T : List ℕ) (s : State) : Type 0 where
  pub from : Abs
  pub to : Abs
  pub rep : Rep T s from
  pub act : Act d at from to
  pub fit : Fit to
  pub place : at < 12288

abbrev pub Acts : Action → ℕ → List ℕ → State → List ℕ → State → Type 0
Acts d at T s T' s' = (a b : Abs) → Rep T s a → Act d at a b → Fit b → Rep T' s' b
