-- Settling a stretch that is not empty: what follows on it from its own heights is taken account of.
use Rattle.std.specs.Prelude.{Bool, true, false, List, ◌⊎◌, ◌≡◌, ℕ, ◌+◌, ◌*◌, ◌<◌, ◌≤◌, max}
use Rattle.chart.specs.Code.{next_kind, rule_at, owner_at}
use Rattle.chart.specs.Heights.{none}
use Rattle.heights.specs.Table.{up_of}
use Rattle.heights.specs.Filling.{total, Only}
use Rattle.reach.specs.Flags.{Wanted, home_of}
use Rattle.sparse.specs.Cells.{is_last, empty_rest, rule_of, rest_of, Tables}
use Rattle.sparse.specs.Steps.{toward_of, OffersAt, Fell, On, over_of, Given, LeastOn}
use Rattle.queue.specs.Queue.{Pending, count_of, Queued}

module _ (c M F : List ℕ) (size n i j : ℕ) where
  -- the dot q is not above what it has from the dot after it, where its symbol takes nothing
  abbrev pub LeftHeld : List ℕ → ℕ → Type 0
  LeftHeld t q = over_of c M F q i (rest_of c M F n t (q + 1) i j) < none → toward_of c M F n t q i j ≤ over_of c M F q i (rest_of c M F n t (q + 1) i j)

  -- nor above what it has from the rule of its symbol, where nothing is left after it
  abbrev pub RightHeld : List ℕ → ℕ → Type 0
  RightHeld t q = next_kind c q ≡ 2 → max (up_of (rule_of c M F n t (rule_at c q) i j)) (empty_rest c F (q + 1)) < none
      → toward_of c M F n t q i j ≤ max (up_of (rule_of c M F n t (rule_at c q) i j)) (empty_rest c F (q + 1))

  -- the height of the dot x is that of a rule, which is pending
  abbrev pub Pends : List ℕ → ℕ → Type 0
  Pends Q x = (is_last c x ≡ true) × Pending Q (rule_at c x)

  -- what is given
  pub record Ready (len : ℕ) (Q : List ℕ) : Type 0 where
    pub tables : Tables c M F size n len
    pub queued : Queued size Q
    pub wide : i < j
    pub stop : j ≤ n

  -- heights of the stretch fell; what held holds, or is pending
  pub record Moved (t Q t' Q' : List ℕ) : Type 0 where
    pub fell : Fell c M F size n (j + 1) (Only i j) t t'
    pub queued : Queued size Q'
    pub pending : (e : ℕ) → e < 512 → Pending Q e → Pending Q' e
    pub left : (q : ℕ) → On c M size q i j → LeftHeld t q → Pends Q' (q + 1) ⊎ LeftHeld t' q
    pub right : (q : ℕ) → On c M size q i j → RightHeld t q → Pending Q' (rule_at c q) ⊎ RightHeld t' q

  -- each time that a rule is put into the queue, a height fell
  abbrev pub Falls : List ℕ → List ℕ → List ℕ → List ℕ → Type 0
  Falls t Q t' Q' = 2 * total t' + count_of Q' ≤ 2 * total t + count_of Q

  -- a height that is offered to the dot p, which lowers a row
  pub record Offered (t : List ℕ) (p v : ℕ) : Type 0 where
    pub on : On c M size p i j
    pub kind : next_kind c p ≡ 0 → ⊥
    pub row : is_last c p ≡ false
    pub offer : OffersAt c M F size n t p i j v
    pub some : v < none

  -- the row of p was lowered to v, or is not above it; r tells whether that is the row of p itself, and was
  pub record Put (t Q t' Q' : List ℕ) (p v : ℕ) (r : Bool) : Type 0 where
    pub fell : Fell c M F size n (j + 1) (Only i j) t t'
    pub queued : Queued size Q'
    pub pending : (e : ℕ) → e < 512 → Pending Q e → Pending Q' e
    pub falls : Falls t Q t' Q'
    pub rules : (e : ℕ) → e < size → next_kind c e ≡ 0 → Pending Q' e ⊎ (rule_of c M F n t' e i j ≡ rule_of c M F n t e i j)
    pub rests : (q : ℕ) → q < size → ((r ≡ true) × (q ≡ p)) ⊎ (Pends Q' q ⊎ (rest_of c M F n t' q i j ≡ rest_of c M F n t q i j))
    pub low : toward_of c M F n t' p i j ≤ v
    pub is : r ≡ true → (rest_of c M F n t' p i j ≡ v) × (owner_at c p ≡ 0)

  pub record Carried (t Q t' Q' : List ℕ) (p v : ℕ) : Type 0 where
    pub moved : Moved t Q t' Q'
    pub falls : Falls t Q t' Q'
    pub low : toward_of c M F n t' p i j ≤ v
    -- other rules have what they had, or are pending; so have dots after p
    pub rules : (e : ℕ) → e < size → next_kind c e ≡ 0 → Pending Q' e ⊎ (rule_of c M F n t' e i j ≡ rule_of c M F n t e i j)
    pub rests : (q : ℕ) → p < q → q < size → Pends Q' q ⊎ (rest_of c M F n t' q i j ≡ rest_of c M F n t q i j)

  -- the dot x, which has the height v, is taken account of by the dot before it
  pub record AtLeft (t : List ℕ) (x v : ℕ) : Type 0 where
    pub inside : x < size
    pub kind : next_kind c x ≡ 0 → ⊥
    pub inner : owner_at c x ≡ 0
    pub live : Wanted M (home_of c x) j
    pub is : v ≡ rest_of c M F n t x i j
    pub some : v < none

  pub record LeftCarried (t Q t' Q' : List ℕ) (x : ℕ) : Type 0 where
    pub moved : Moved t Q t' Q'
    pub falls : Falls t Q t' Q'
    pub left : (q : ℕ) → x ≡ q + 1 → On c M size q i j → Pends Q' x ⊎ LeftHeld t' q

  -- the use q has taken account of its rule; so has the dot before it
  abbrev pub RightDone : List ℕ → List ℕ → ℕ → Type 0
  RightDone t Q q = On c M size q i j → Pending Q (rule_at c q) ⊎ RightHeld t q

  abbrev pub LastDone : List ℕ → List ℕ → ℕ → Type 0
  LastDone t Q q = On c M size q i j → is_last c (q + 1) ≡ true → Pends Q (q + 1) ⊎ LeftHeld t q

  pub record Used (t Q t' Q' : List ℕ) (p : ℕ) : Type 0 where
    pub moved : Moved t Q t' Q'
    pub falls : Falls t Q t' Q'
    pub right : RightDone t' Q' p
    pub last : (q : ℕ) → p ≡ q + 1 → LastDone t' Q' q

  pub record Revisited (t Q t' Q' : List ℕ) (e : ℕ) : Type 0 where
    pub moved : Moved t Q t' Q'
    pub falls : Falls t Q t' Q'
    pub right : (p : ℕ) → p < size → next_kind c p ≡ 2 → rule_at c p ≡ e → RightDone t' Q' p
    pub last : (q : ℕ) → q + 1 < size → next_kind c (q + 1) ≡ 2 → rule_at c (q + 1) ≡ e → LastDone t' Q' q

  -- the row x is taken account of
  pub record Woken (t Q t' Q' : List ℕ) (x : ℕ) : Type 0 where
    pub moved : Moved t Q t' Q'
    pub right : (p : ℕ) → p < size → next_kind c p ≡ 2 → rule_at c p ≡ x → RightDone t' Q' p
    pub last : (q : ℕ) → q + 1 < size → next_kind c (q + 1) ≡ 2 → rule_at c (q + 1) ≡ x → LastDone t' Q' q
    pub left : (q : ℕ) → x ≡ q + 1 → is_last c x ≡ false → On c M size q i j → LeftHeld t' q

  -- every row is, or is pending
  pub record AllWoken (t Q t' Q' : List ℕ) : Type 0 where
    pub moved : Moved t Q t' Q'
    pub right : (q : ℕ) → RightDone t' Q' q
    pub left : (q : ℕ) → On c M size q i j → Pends Q' (q + 1) ⊎ LeftHeld t' q

  pub record Settled (t t' Q' : List ℕ) : Type 0 where
    pub fell : Fell c M F size n (j + 1) (Only i j) t t'
    pub queued : Queued size Q'
    pub empty : count_of Q' ≡ 0
    pub least : Given c M F size n i j t → LeastOn c M F size n t' i j
