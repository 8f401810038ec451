-- Alternatives that can be finished, by the code of the rules and the terminals' tokens, and the lists of their first dots.
use Rattle.std.specs.Prelude.{Bool, true, List, ◌⊎◌, ◌≡◌, ℕ, ◌+◌, ◌*◌, ◌<◌, ◌≤◌, T, length, get_or}
use Rattle.text.specs.Limits.{grammar_table}
use Rattle.tree.specs.Tree.{Terminal}
use Rattle.plain.specs.Live.{live}
use Rattle.items.specs.Items.{token_at}
use Rattle.terminals.specs.Places.{TerminalHere, TerminalAt}
use Rattle.rules.specs.Ready.{Token}
use Rattle.chart.specs.Code.{next_kind, rule_at, owner_at}
use Rattle.reach.specs.Work.{Linked}
use Rattle.sparse.specs.Cells.{Shape}
use Rattle.stands.specs.Viable.{Begins}

-- the terminals of the code have their tokens in the table
pub record Tokened (Tb c : List ℕ) (size : ℕ) : Type 0 where
  pub long : length Tb ≡ grammar_table
  pub shape : Shape c size
  pub here : (p : ℕ) → p < size → next_kind c p ≡ 1 → TerminalHere Tb (token_at Tb p)
  pub is : (p : ℕ) (x : Terminal) → p < size → next_kind c p ≡ 1 → TerminalAt Tb (token_at Tb p) x → Token Tb p x

-- all that the table's tokens say of a terminal at p is that it fits some text; one thing is
abbrev pub AllLive : List ℕ → ℕ → Type 0
AllLive Tb p = (x : Terminal) → Token Tb p x → T (live x)

abbrev pub SomeLive : List ℕ → ℕ → Type 0
SomeLive Tb p = (x : Terminal) × Token Tb p x × T (live x)

-- what stands after the dot p up to the alternative's end can be finished: its terminals are live
pub data Finishing (Live : ℕ → Type 0) (c : List ℕ) : ℕ → Type 0 where
  at-end : {p : ℕ} → next_kind c p ≡ 0 → Finishing Live c p
  at-terminal : {p : ℕ} → next_kind c p ≡ 1 → Live p → Finishing Live c (p + 1) → Finishing Live c p
  at_other : {p : ℕ} → (next_kind c p ≡ 0 → ⊥) → (next_kind c p ≡ 1 → ⊥) → Finishing Live c (p + 1) → Finishing Live c p

pub record Tells (Tb c : List ℕ) (p : ℕ) (r : Bool) : Type 0 where
  pub yes : r ≡ true → Finishing (AllLive Tb) c p
  pub no : Finishing (SomeLive Tb) c p → r ≡ true

-- the key of p, the rule of which an alternative begins there that can be finished; all else is as it was
pub record KeyPut (c K K' : List ℕ) (p : ℕ) (alive : Bool) : Type 0 where
  pub long : length K' ≡ length K
  pub some : (e : ℕ) → owner_at c p ≡ e + 1 → alive ≡ true → (next_kind K' p ≡ 2) × (rule_at K' p ≡ e)
  pub none : (owner_at c p ≡ 0) ⊎ (alive ≡ true → ⊥) → next_kind K' p ≡ next_kind K p
  pub kept : (x : ℕ) → (x < 4 * p) ⊎ (4 * p + 3 < x) → get_or K' x 0 ≡ get_or K x 0

-- the dot q begins an alternative of the rule e that can be finished
pub record First (Live : ℕ → Type 0) (c : List ℕ) (q e : ℕ) : Type 0 where
  pub owner : owner_at c q ≡ e + 1
  pub finishing : Finishing Live c q

-- the keys from p on
pub record Keyed (Tb c : List ℕ) (size p : ℕ) (K : List ℕ) : Type 0 where
  pub long : 4 * size ≤ length K
  pub is : (q e : ℕ) → p ≤ q → q < size → First (SomeLive Tb) c q e → (next_kind K q ≡ 2) × (rule_at K q ≡ e)
  pub only : (q : ℕ) → p ≤ q → q < size → next_kind K q ≡ 2 → First (AllLive Tb) c q (rule_at K q)

-- the rule's list has exactly these dots
pub record Firsts (Tb c : List ℕ) (size : ℕ) (L : List ℕ) : Type 0 where
  pub linked : Linked size L
  pub all : (q e : ℕ) → q < size → First (SomeLive Tb) c q e → Begins L e q
  pub only : (q e : ℕ) → e < size → Begins L e q → First (AllLive Tb) c q e
