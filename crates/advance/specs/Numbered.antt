-- A code of the rules whose dots and rules have the layout's numbers.
use Rattle.std.specs.Prelude.{◌≡◌, ℕ, ◌+◌, ◌<◌, length, get_or}
use mathlib.Core.List.{List, [], Memᴰ as In}
use Rattle.tree.specs.Tree.{Symbol, Grammar}
use Rattle.plain.specs.Plain as plain
use Rattle.layout.specs.Layout.{layout, dots_of, name_at}
use Rattle.derive.specs.Derive.{root}
use Rattle.derive.specs.Bound.{symbols_of}
use Rattle.chart.specs.Code.{owner_at, after_dot, RuleOf}

pub record Numbered (c : List ℕ) (g : Grammar) (dots : List (List Symbol)) (heads : List Symbol) (size : ℕ) : Type 0 where
  pub count : size ≡ plain.size g
  pub laid : (p : ℕ) → p < size → after_dot dots p ≡ get_or (dots_of g) p []
  pub named : (q : ℕ) → q < length (layout g) → RuleOf c g dots heads (get_or (layout g) q (root g)) (name_at g q)
  pub owner : (p e : ℕ) → p < size → owner_at c p ≡ e + 1 → (q : ℕ) × (q < length (layout g)) × (e ≡ name_at g q)
  pub owned : (q : ℕ) → q < length (layout g) → (p : ℕ) × (p < size) × (owner_at c p ≡ name_at g q + 1)
  pub within : (p : ℕ) → p < size → (s : Symbol) → In s (after_dot dots p) → In s (symbols_of g)
