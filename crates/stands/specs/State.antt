-- The flags of the search: 2 of a dot that does not stand, 1 of one that waits to be followed, 0 of one that was followed.
use Rattle.std.specs.Prelude.{List, ◌⊎◌, ◌≡◌, ℕ, ◌+◌, ◌*◌, ◌<◌, ◌≤◌, length, get_or}
use Rattle.chart.specs.Heights.{none}
use Rattle.heights.specs.Filling.{total}
use Rattle.reach.specs.Work.{Linked}
use Rattle.sparse.specs.Cells.{rule_of, Reads}
use Rattle.stands.specs.Viable.{Begins, Next, Viable, Ground}

abbrev pub flag_at : List ℕ → ℕ → ℕ → ℕ
flag_at W p i = get_or W (512 * i + p) 0

abbrev pub Stood : List ℕ → ℕ → ℕ → Type 0
Stood W p i = flag_at W p i < 2

-- nothing stands
abbrev pub Bare : List ℕ → Type 0
Bare W = (x : ℕ) → x < length W → get_or W x 0 ≡ 2

-- flags in N stand that did not, and wait; no other is changed
pub record Added (W W' : List ℕ) (N : ℕ → Type 0) : Type 0 where
  pub long : length W' ≡ length W
  pub sum : total W' ≤ total W
  pub cell : (x : ℕ) → (get_or W' x 0 ≡ get_or W x 0) ⊎ (N x × (1 < get_or W x 0) × (get_or W' x 0 ≡ 1))

-- the flag x stands
pub record Is (W W' : List ℕ) (x : ℕ) : Type 0 where
  pub added : Added W W' (λ y. y ≡ x)
  pub there : get_or W' x 0 < 2

pub record Entering (L W : List ℕ) (size i e : ℕ) : Type 0 where
  pub linked : Linked size L
  pub small : size ≤ 512
  pub inside : e < size
  pub on : i ≤ 200
  pub long : length W ≡ 102912

-- the dots of the rule's list stand at i; below r nothing is changed there
pub record Entered (L W W' : List ℕ) (i e next r : ℕ) : Type 0 where
  pub added : Added W W' (λ x. (q : ℕ) × Begins L e q × (x ≡ 512 * i + q))
  pub there : (q : ℕ) → Begins L e q → Stood W' q i
  pub low : r ≤ next
  pub below : (q : ℕ) → q < r → q < 512 → flag_at W' q i ≡ flag_at W q i

pub record Passing (M F : List ℕ) (main : ℕ) (W : List ℕ) (e size n i p : ℕ) : Type 0 where
  pub reads : Reads M F size n main
  pub inside : e < size
  pub next : p + 1 < size
  pub on : i ≤ n
  pub long : length W ≡ 102912

pub record PassedAt (M F H W W' : List ℕ) (e n i p m : ℕ) : Type 0 where
  pub added : (c : List ℕ) → Added W W' (λ x. (rule_of c M F n H e i m < none) × (x ≡ 512 * m + (p + 1)))
  pub there : (c : List ℕ) → rule_of c M F n H e i m < none → Stood W' (p + 1) m

-- at each place before b
pub record Passed (M F H W W' : List ℕ) (e n i p b : ℕ) : Type 0 where
  pub added : (c : List ℕ) → Added W W' (λ x. (m : ℕ) × (i ≤ m) × (m < b) × (rule_of c M F n H e i m < none) × (x ≡ 512 * m + (p + 1)))
  pub there : (c : List ℕ) (m : ℕ) → i ≤ m → m < b → rule_of c M F n H e i m < none → Stood W' (p + 1) m

-- what the search is given at a place; at a dot
pub record Standing (c L M F : List ℕ) (main : ℕ) (W : List ℕ) (size n i : ℕ) : Type 0 where
  pub ground : Ground c L M F main size n
  pub on : i ≤ n
  pub long : length W ≡ 102912

pub record Following (c L M F : List ℕ) (main : ℕ) (W : List ℕ) (size n i p : ℕ) : Type 0 where
  pub standing : Standing c L M F main W size n i
  pub inside : p < size

-- what the dot leads to stands
pub record Followed (c L M F H W W' : List ℕ) (n i p r : ℕ) : Type 0 where
  pub added : Added W W' (λ x. (q : ℕ) × (k : ℕ) × Next c L M F H n p i q k × (x ≡ 512 * k + q))
  pub there : (q k : ℕ) → Next c L M F H n p i q k → Stood W' q k
  pub low : r ≤ p + 1
  pub below : (q : ℕ) → q < r → q < 512 → flag_at W' q i ≡ flag_at W q i

-- all that stands is viable; all that a followed dot leads to stands; no dot before b waits at i
abbrev pub Sound : (c L M F H : List ℕ) (size n top : ℕ) → List ℕ → Type 0
Sound c L M F H size n top W = (p i : ℕ) → p < size → i ≤ n → Stood W p i → Viable c L M F H n top p i

abbrev pub Done : (c L M F H : List ℕ) (size n : ℕ) → List ℕ → Type 0
Done c L M F H size n W = (p i : ℕ) → p < size → i ≤ n → flag_at W p i ≡ 0 → (q k : ℕ) → Next c L M F H n p i q k → Stood W q k

abbrev pub Quiet : List ℕ → ℕ → ℕ → Type 0
Quiet W b i = (q : ℕ) → q < b → flag_at W q i ≡ 1 → ⊥

-- what the steps at a place keep
pub record Grown (c L M F H W W' : List ℕ) (size n i : ℕ) : Type 0 where
  pub long : length W' ≡ length W
  pub stays : (x : ℕ) → get_or W x 0 < 2 → get_or W' x 0 < 2
  pub sound : (top : ℕ) → Sound c L M F H size n top W → Sound c L M F H size n top W'
  pub done : Done c L M F H size n W → Done c L M F H size n W'
  pub before : (q k : ℕ) → q < size → k < i → flag_at W' q k ≡ flag_at W q k

-- the dot p was followed, or need not be: look at r next
pub record Stepped (c L M F H W W' : List ℕ) (size n i p r : ℕ) : Type 0 where
  pub grown : Grown c L M F H W W' size n i
  pub less : (total W' < total W) ⊎ ((total W' ≤ total W) × (r ≡ p + 1))
  pub low : r ≤ p + 1
  pub row : Quiet W p i → Quiet W' r i

pub record Closed (c L M F H W W' : List ℕ) (size n i : ℕ) : Type 0 where
  pub grown : Grown c L M F H W W' size n i
  pub quiet : Quiet W' size i

-- a dot stands exactly if it is viable
pub record Exact (c L M F H W : List ℕ) (size n top : ℕ) : Type 0 where
  pub sound : Sound c L M F H size n top W
  pub complete : (p i : ℕ) → Viable c L M F H n top p i → (p < size) × (i ≤ n) × Stood W p i
