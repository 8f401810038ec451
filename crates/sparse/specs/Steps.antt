-- What filling the part does: cells are lowered, each to a height that the table offers then, so that all heights stay attained.
use Rattle.std.specs.Prelude.{Bool, true, false, List, ◌≡◌, ℕ, ◌+◌, ◌-◌, ◌<◌, ◌≤◌, max, T, eqb, leb, length, get_or, set, drop}
use Rattle.text.specs.Lists.{Text, pick}
use Rattle.tree.specs.Tree.{Terminal, Grammar}
use Rattle.plain.specs.Plain.{fits}
use Rattle.chart.specs.Code.{next_kind, goes_at, rule_at, owner_at, Ruled}
use Rattle.chart.specs.Heights.{none}
use Rattle.heights.specs.Table.{cell_of, up_of}
use Rattle.heights.specs.Filling.{total, Any}
use Rattle.heights.specs.Part.{toward, Offers, Least}
use Rattle.heights.proofs.Part.{Attained}
use Rattle.reach.specs.Flags.{dot_at, Reached, Fits, Wanted, home_of}
use Rattle.sparse.specs.Cells.{empty_in, empty_rest, rule_of, rest_of}

-- where a terminal's dot is reached, it is flagged exactly if the terminal fits the record
abbrev pub Flagged : List ℕ → Text → ℕ → Terminal → Type 0
Flagged M r p x = (i : ℕ) → i ≤ length r → (Fits M p i → T (fits x (drop i r))) × (Reached M p i → T (fits x (drop i r)) → Fits M p i)

-- what the value of a dot lowers
abbrev pub toward_of : (c M F : List ℕ) (n : ℕ) (t : List ℕ) → ℕ → ℕ → ℕ → ℕ
toward_of c M F n t = toward c (rule_of c M F n t) (rest_of c M F n t)

-- on stretches that end before J, heights are those of derivations, whatever grammar and record have this code and these flags
abbrev pub Sound : (c M F : List ℕ) (size n J : ℕ) → List ℕ → Type 0
Sound c M F size n J t = (g : Grammar) (r : Text) (top first : ℕ) (k : Ruled (Flagged M r) c g size top first) → length r ≡ n → (i j : ℕ) → i ≤ j → j < J → j ≤ n
    → Attained k r (home_of c) (Fits M) (Reached M) (Wanted M) (rule_of c M F n t) (rest_of c M F n t) i j

-- nothing that is offered is lower
abbrev pub LeastOn : (c M F : List ℕ) (size n : ℕ) → List ℕ → ℕ → ℕ → Type 0
LeastOn c M F size n t i j = Least c size (home_of c) (Fits M) (Reached M) (Wanted M) (rule_of c M F n t) (rest_of c M F n t) i j

-- what is offered to the dot p, whether or not its symbol's rule is wanted
abbrev pub OffersAt : (c M F : List ℕ) (size n : ℕ) → List ℕ → ℕ → ℕ → ℕ → ℕ → Type 0
OffersAt c M F size n t p i j v = Offers c size (home_of c) (Fits M) (Reached M) Any (rule_of c M F n t) (rest_of c M F n t) p i j v

-- the heights of empty stretches
abbrev pub empty_toward : List ℕ → List ℕ → ℕ → ℕ
empty_toward c F p = pick (eqb (owner_at c p) 0) (empty_rest c F p) (empty_in F (owner_at c p - 1))

pub record Empties (c F : List ℕ) (size : ℕ) : Type 0 where
  pub end : (p e : ℕ) → p < size → next_kind c p ≡ 0 → owner_at c p ≡ e + 1 → empty_in F e ≡ 0
  pub terminal : (p : ℕ) → p < size → next_kind c p ≡ 1 → goes_at c p ≡ 0 → empty_rest c F (p + 1) < none → empty_toward c F p ≤ empty_rest c F (p + 1)
  pub symbol : (p : ℕ) → p < size → next_kind c p ≡ 2 → max (up_of (empty_in F (rule_at c p))) (empty_rest c F (p + 1)) < none
      → empty_toward c F p ≤ max (up_of (empty_in F (rule_at c p))) (empty_rest c F (p + 1))
  pub sound : (M t : List ℕ) (n : ℕ) (g : Grammar) (r : Text) (top first : ℕ) (k : Ruled (Flagged M r) c g size top first) → (i : ℕ) → i ≤ length r
      → Attained k r (home_of c) (Fits M) (Reached M) (Wanted M) (rule_of c M F n t) (rest_of c M F n t) i i

-- the cell x was lowered to v, or is not above it
pub data Lowered (t : List ℕ) (x v : ℕ) : Bool → List ℕ → Type 0 where
  lowered : v < get_or t x 0 → Lowered t x v true (set t x v)
  kept : get_or t x 0 ≤ v → Lowered t x v false t

-- cells of the stretches in A fell
pub record Fell (c M F : List ℕ) (size n J : ℕ) (A : ℕ → ℕ → Type 0) (t t' : List ℕ) : Type 0 where
  pub long : length t' ≡ length t
  pub sound : Sound c M F size n J t → Sound c M F size n J t'
  pub le : (x : ℕ) → get_or t' x 0 ≤ get_or t x 0
  pub sum : total t' ≤ total t
  pub same : (y k l : ℕ) → k ≤ l → l ≤ n → (A k l → ⊥) → cell_of n t' y k l ≡ cell_of n t y k l

-- the dot p is reached at i, and its rule wanted at j
pub record On (c M : List ℕ) (size p i j : ℕ) : Type 0 where
  pub inside : p < size
  pub used : Reached M p i
  pub live : Wanted M (home_of c p) j

-- the height of the dot p, if nothing is derived by the symbol after it, at i, and v is the height of the rest
unfoldable pub over_of : (c M F : List ℕ) → ℕ → ℕ → ℕ → ℕ
over_of c M F p i v = pick (leb 1 (dot_at M p i))
    (pick (eqb (next_kind c p) 1) (pick (eqb (goes_at c p) 0) (pick (leb 2 (dot_at M p i)) v none) none)
    (pick (eqb (next_kind c p) 2) (max (up_of (empty_in F (rule_at c p))) v) none)) none

-- what the stretch from m to j hands on to longer ones by the dot p
pub record HandedOn (c M F : List ℕ) (size n m j : ℕ) (t : List ℕ) (p : ℕ) : Type 0 where
  pub terminal : (i : ℕ) → On c M size p i j → i < m → next_kind c p ≡ 1 → Fits M p i → i + goes_at c p ≡ m → rest_of c M F n t (p + 1) m j < none
      → toward_of c M F n t p i j ≤ rest_of c M F n t (p + 1) m j
  pub split : (i : ℕ) → On c M size p i j → i < m → m < j → next_kind c p ≡ 2 → Wanted M (rule_at c p) m
      → max (up_of (rule_of c M F n t (rule_at c p) i m)) (rest_of c M F n t (p + 1) m j) < none
      → toward_of c M F n t p i j ≤ max (up_of (rule_of c M F n t (rule_at c p) i m)) (rest_of c M F n t (p + 1) m j)

-- the stretch has been handed all that shorter ones have for it
abbrev pub Given : (c M F : List ℕ) (size n i j : ℕ) → List ℕ → Type 0
Given c M F size n i j t = (p m : ℕ) → p < size → i < m → m ≤ j → HandedOn c M F size n m j t p

-- the dots of the rules that are wanted at j are listed, with their count; then follow flags of places
pub record Listed (c M : List ℕ) (size j : ℕ) (C : List ℕ) : Type 0 where
  pub long : length C ≡ 3789
  pub count : get_or C 512 0 ≤ 512
  pub each : (k : ℕ) → k < get_or C 512 0 → (get_or C k 0 < size) × Wanted M (home_of c (get_or C k 0)) j
  pub all : (p : ℕ) → p < size → Wanted M (home_of c p) j → (k : ℕ) × (k < get_or C 512 0) × (get_or C k 0 ≡ p)
