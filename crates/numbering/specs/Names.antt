-- Which rule of the layout a name in the code stands for, and how many names there are.
use Rattle.std.specs.Prelude.{Bool, ◌&&◌, List, ◌≡◌, ℕ, zero, suc, ◌+◌, ◌<◌, eqb, length, get_or}
use Rattle.tree.specs.Tree.{Symbol, Grammar}
use Rattle.layout.specs.Layout.{layout, name_at}
use Rattle.derive.specs.Derive.{root}
use Rattle.chart.specs.Code.{next_kind, goes_at, flag, head_of}

-- e names rule q of the layout
pub record Named (g : Grammar) (heads : List Symbol) (e : ℕ) : Type 0 where
  pub q : ℕ
  pub inside : q < length (layout g)
  pub is : e ≡ name_at g q
  pub head : head_of g heads e ≡ get_or (layout g) q (root g)

-- the end of a rule's last alternative, which names it
unfoldable pub is_name : List ℕ → ℕ → Bool
is_name c e = eqb (next_kind c e) 0 && eqb (goes_at c e) 0

-- how many of the first n positions name a rule
abbrev pub name_count : List ℕ → ℕ → ℕ
name_count c zero = 0
name_count c (suc n) = name_count c n + flag (is_name c n)
