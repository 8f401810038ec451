-- The items of a rule stand side by side, and rules one after the other.
use Rattle.std.specs.Prelude.{false, ◌≡◌, ℕ, ◌+◌, ◌<◌, ◌≤◌}
use mathlib.Core.List.{List, Memᴰ as In}
use Rattle.tree.specs.Tree.{Symbol, Grammar}
use Rattle.plain.specs.Static.{duplicate}
use Rattle.plain.specs.Plain.{alts, ruled, weight, size}
use Rattle.layout.specs.Layout.{starts_of}
use Rattle.items.specs.Items.{kind_at, Starts, Among, Items}

-- the item is one of the rule of a symbol
pub record Cover (g : Grammar) (S : Starts) (p : ℕ) : Type 0 where
  pub first : ℕ
  pub symbol : Symbol
  pub among : Among first symbol S
  pub above : first ≤ p
  pub under : p < first + weight (alts g symbol)

-- each item is one of some symbol's rule, where no name has two rules; the item before a rule ends another; an item begins the
-- rule of one symbol at most; every rule, written or made, has a start, and only these have; rules begin where the layout says
pub record Blocks (T : List ℕ) (g : Grammar) (root : ℕ) (items : Items T g root) : Type 0 where
  pub covered : duplicate g ≡ false → (p : ℕ) → p < size g → Cover g items.starts p
  pub apart : (x y : ℕ) (s : Symbol) → Among x s items.starts → x ≡ y + 1 → kind_at T y ≡ 6
  pub single : (x : ℕ) (s t : Symbol) → Among x s items.starts → Among x t items.starts → s ≡ t
  pub every : (s : Symbol) → In s (ruled g) → (x : ℕ) × Among x s items.starts
  pub only : (x : ℕ) (s : Symbol) → Among x s items.starts → In s (ruled g)
  pub laid : duplicate g ≡ false → (x : ℕ) (s : Symbol) → Among x s (starts_of g) → Among x s items.starts

pub record Built (T : List ℕ) (g : Grammar) (root : ℕ) : Type 0 where
  pub items : Items T g root
  pub blocks : Blocks T g root items
