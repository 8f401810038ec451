-- What the search for rules that derive some text keeps: marks of dots, the rules that are missing, and a queue of those that are found.
use Rattle.std.specs.Prelude.{Bool, true, false, List, [], ◌∷◌, ◌⊎◌, ◌≡◌, ℕ, ◌+◌, ◌*◌, ◌<◌, ◌≤◌, length, get_or}
use Rattle.text.specs.Limits.{most_size}
use Rattle.chart.specs.Code.{next_kind, rule_at, owner_at}
use Rattle.chart.specs.Uses.{Uses}
use Rattle.productive.specs.Made.{Good, Sure, Made, RuleMade, Shape}

-- the rule e is found
abbrev pub Done : List ℕ → ℕ → Type 0
Done O e = get_or O e 0 ≡ 0

abbrev pub total : List ℕ → ℕ
total [] = 0
total (x ∷ xs) = x + total xs

-- the first number of the queue is the place of its last rule
abbrev pub tail_of : List ℕ → ℕ
tail_of Q = get_or Q 0 0

-- the rule e is in the queue after the place h
pub record Waits (Q : List ℕ) (h e : ℕ) : Type 0 where
  pub at : ℕ
  pub after : h < at
  pub before : at ≤ tail_of Q
  pub is : get_or Q at 0 ≡ e

-- the marks are closed under the steps of the code, but for the step back from the dot `bar`
pub record Kept (c : List ℕ) (size : ℕ) (M : List Bool) (O Q : List ℕ) (bar : ℕ) : Type 0 where
  pub shape : Shape c size
  pub room : 4 * size ≤ length c
  pub marks-long : length M ≡ most_size + most_size
  pub missing-long : length O ≡ most_size
  pub queue_long : length Q ≡ most_size + 1
  -- as many rules are in the queue as are not missing
  pub count : tail_of Q + total O ≡ most_size
  pub flags : (e : ℕ) → get_or O e 0 ≤ 1
  pub queued : (i : ℕ) → 0 < i → i ≤ tail_of Q → (get_or Q i 0 < size) × Done O (get_or Q i 0)
  pub bottom : get_or M most_size false ≡ false
  pub closed : (y : ℕ) → y + 1 < size → (y + 1 ≡ bar → ⊥) → Good M (y + 1) → Sure M (y + 1) → Good M y
  pub owner : (x e : ℕ) → x < size → Good M x → owner_at c x ≡ e + 1 → Done O e

-- what is marked or found derives some text
pub record Sound (c : List ℕ) (F : List Bool) (size : ℕ) (M : List Bool) (O : List ℕ) : Type 0 where
  pub good : (x : ℕ) → x < size → Good M x → Made c F size x
  pub sure : (y : ℕ) → y + 1 < size → Sure M (y + 1) → ((next_kind c y ≡ 1) × Sure F (y + 1)) ⊎ ((next_kind c y ≡ 2) × RuleMade c F size (rule_at c y))
  pub done : (e : ℕ) → e < size → Done O e → RuleMade c F size e

-- what only grows
pub record Advance (M : List Bool) (O Q : List ℕ) (M' : List Bool) (O' Q' : List ℕ) : Type 0 where
  pub marks : (x : ℕ) → get_or M x false ≡ true → get_or M' x false ≡ true
  pub more : tail_of Q ≤ tail_of Q'
  pub same : (i : ℕ) → 0 < i → i ≤ tail_of Q → get_or Q' i 0 ≡ get_or Q i 0
  pub fresh : (e : ℕ) → Done O' e → Done O e ⊎ Waits Q' (tail_of Q) e

-- the promise of each step, if it is sound under a premise
pub record Moved (c : List ℕ) (size : ℕ) (M : List Bool) (O Q : List ℕ) (M' : List Bool) (O' Q' : List ℕ) (bar : ℕ) (If : List Bool → Type 0) : Type 0 where
  pub kept : Kept c size M' O' Q' bar
  pub grown : Advance M O Q M' O' Q'
  pub sound : (F : List Bool) → Sound c F size M O → If F → Sound c F size M' O'

-- marks are set besides: at the dot p; at the ends before b; after the uses of the rule e from x on
pub record Marked (c : List ℕ) (size : ℕ) (M : List Bool) (O Q : List ℕ) (M' : List Bool) (O' Q' : List ℕ) (p : ℕ) : Type 0 where
  pub moved : Moved c size M O Q M' O' Q' p (λ F. Made c F size p)
  pub good : Good M' p

abbrev pub Always : List Bool → Type 0
Always F = Unit {0}

pub record Begun (c : List ℕ) (size : ℕ) (M : List Bool) (O Q : List ℕ) (M' : List Bool) (O' Q' : List ℕ) (a b : ℕ) : Type 0 where
  pub moved : Moved c size M O Q M' O' Q' size Always
  pub ends : (p : ℕ) → a ≤ p → p < b → next_kind c p ≡ 0 → Good M' p

pub record Visited (c : List ℕ) (size : ℕ) (M : List Bool) (O Q : List ℕ) (M' : List Bool) (O' Q' : List ℕ) (e x : ℕ) : Type 0 where
  pub moved : Moved c size M O Q M' O' Q' size (λ F. RuleMade c F size e)
  pub uses : (u : ℕ) → x ≤ u → u < size → next_kind c u ≡ 2 → rule_at c u ≡ e → Sure M' (u + 1)

-- a rule that is found waits in the queue after the place h, or its uses are marked
abbrev pub Pending : List ℕ → ℕ → List Bool → List ℕ → List ℕ → ℕ → Type 0
Pending c size M O Q h = (e : ℕ) → e < size → Done O e → Waits Q h e ⊎ ((u : ℕ) → u < size → next_kind c u ≡ 2 → rule_at c u ≡ e → Sure M (u + 1))

pub record Drained (c : List ℕ) (size : ℕ) (M : List Bool) (O Q : List ℕ) (M' : List Bool) (O' Q' : List ℕ) : Type 0 where
  pub moved : Moved c size M O Q M' O' Q' size Always
  pub uses : (e : ℕ) → e < size → Done O' e → (u : ℕ) → u < size → next_kind c u ≡ 2 → rule_at c u ≡ e → Sure M' (u + 1)

-- what the steps are given
pub record Visiting (c : List ℕ) (size : ℕ) (U : List ℕ) (M : List Bool) (O Q : List ℕ) (e : ℕ) : Type 0 where
  pub kept : Kept c size M O Q size
  pub users : Uses c size size U
  pub uses-room : 2 * size ≤ length U
  pub inside : e < size

pub record Draining (c : List ℕ) (size : ℕ) (U : List ℕ) (M : List Bool) (O Q : List ℕ) : Type 0 where
  pub kept : Kept c size M O Q size
  pub users : Uses c size size U
  pub uses-room : 2 * size ≤ length U
  pub pending : Pending c size M O Q 0

pub record Beginning (c : List ℕ) (size : ℕ) (M : List Bool) (O Q : List ℕ) (p : ℕ) : Type 0 where
  pub kept : Kept c size M O Q size
  pub inside : p < size

-- the rule of which an alternative begins at a dot, or at some dot, is missing
pub record Asking (c : List ℕ) (size : ℕ) (O : List ℕ) : Type 0 where
  pub shape : Shape c size
  pub room : 4 * size ≤ length c
  pub long : length O ≡ most_size

pub record Absent (c : List ℕ) (O : List ℕ) (p : ℕ) : Type 0 where
  pub rule : ℕ
  pub owner : owner_at c p ≡ rule + 1
  pub is : Done O rule → ⊥

pub record Answer (c : List ℕ) (O : List ℕ) (p : ℕ) (r : Bool) : Type 0 where
  pub some : r ≡ true → Absent c O p
  pub every : r ≡ false → (e : ℕ) → owner_at c p ≡ e + 1 → Done O e

pub record Answers (c : List ℕ) (size : ℕ) (O : List ℕ) (r : Bool) : Type 0 where
  pub some : r ≡ true → (p : ℕ) × (p < size) × Absent c O p
  pub every : r ≡ false → (p e : ℕ) → p < size → owner_at c p ≡ e + 1 → Done O e
