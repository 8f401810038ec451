-- Least heights of a part of all stretches: of a dot where it is used, of a rule where it is live at the end of a stretch. They are given as
-- functions, so that nothing is said here of where they are kept: `rule e i j` is the height of the rule e, one less than its symbol's, and
-- `rest p i j` that of what stands after a dot p which begins no alternative.
use Rattle.std.specs.Prelude.{◌≡◌, List, ℕ, ◌+◌, ◌-◌, ◌<◌, ◌≤◌, max, eqb}
use Rattle.text.specs.Lists.{pick}
use Rattle.chart.specs.Code.{next_kind, goes_at, rule_at, owner_at}
use Rattle.chart.specs.Heights.{none}
use Rattle.heights.specs.Table.{up_of}

-- what the value of a dot lowers: its rule's height where it begins an alternative, else its own
abbrev pub toward : List ℕ → (ℕ → ℕ → ℕ → ℕ) → (ℕ → ℕ → ℕ → ℕ) → ℕ → ℕ → ℕ → ℕ
toward c rule rest p i j = pick (eqb (owner_at c p) 0) (rest p i j) (rule (owner_at c p - 1) i j)

module _ (c : List ℕ) (size : ℕ) (home : ℕ → ℕ) (Fit Use Live : ℕ → ℕ → Type 0) (rule rest : ℕ → ℕ → ℕ → ℕ) where
  -- the heights give the dot p the value v on the stretch
  pub data Offers (p i j v : ℕ) : Type 0 where
    by_end : next_kind c p ≡ 0 → i ≡ j → v ≡ 0 → Offers p i j v
    by-terminal : next_kind c p ≡ 1 → Fit p i → i + goes_at c p ≤ j → v ≡ rest (p + 1) (i + goes_at c p) j → Offers p i j v
    by-split : (m : ℕ) → next_kind c p ≡ 2 → i ≤ m → m ≤ j → Live (rule_at c p) m → v ≡ max (up_of (rule (rule_at c p) i m)) (rest (p + 1) m j) → Offers p i j v

  -- no height is above what is offered, where the dot is used and its rule is live
  abbrev pub Least : ℕ → ℕ → Type 0
  Least i j = (p v : ℕ) → p < size → Use p i → Live (home p) j → Offers p i j v → v < none → toward c rule rest p i j ≤ v
