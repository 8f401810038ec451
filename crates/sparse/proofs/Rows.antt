-- The heights that are read off the part of the table, by cases.
use mathlib.Core.Bool.{Bool, true, false}
use mathlib.Core.List.{List}
use mathlib.Core.Logic.{⊎_elim}
use mathlib.Core.Path.{◌≡◌, sym, subst, ◌∙◌}
use Prim.Native.Nat.{ℕ, ◌+◌, ◌*◌, ◌-◌, ◌<◌, ◌≤◌, max}
use native.Mathlib.Decide.{ℕ_discrete}
use native.Mathlib.Omega.{arith}
use lib.Dec.{eqb, leb}
use lib.ListN.{get_or, set}
use borrow.Author.Tests.{leb-true, leb-false, eqb-true, eq-eqb, ne_eqb, le-leb, lt-leb}
use Rattle.text.specs.Limits.{most_size, record_chars}
use Rattle.text.proofs.Tests.{look, clash, split}
use Rattle.chart.specs.Code.{next_kind, goes_at, rule_at, owner_at}
use Rattle.chart.specs.Heights.{stretches, cell_at, none}
use Rattle.heights.specs.Table.{cell_of, up_of}
use Rattle.heights.proofs.Cells.{at_room}
use Rattle.reach.specs.Flags.{dot_at, end_at, Reached, Fits, Wanted, home_of}
use Rattle.reach.proofs.Keys.{home-most}
use Rattle.sparse.specs.Cells.{empty_in, empty_rest, row_of, is_last, rule_of, wide_rest, rest_of, Shape}
use Rattle.sparse.specs.Steps.{over_of, Lowered, lowered, kept}

-- what a test of a flag says
pub flagged : (k x : ℕ) {r : Bool} → r ≡ leb k x → r ≡ true → k ≤ x
flagged k x e t = leb-true k x (sym e ∙ t)

pub unflagged : (k x : ℕ) {r : Bool} → r ≡ leb k x → r ≡ false → k ≤ x → ⊥
unflagged k x e t h = omega (arith, leb-false k x (sym e ∙ t))

-- a dot that has no row
pub record Last (c : List ℕ) (p : ℕ) : Type 0 where
  pub symbol : next_kind c p ≡ 2
  pub stop : next_kind c (p + 1) ≡ 0
  pub inner : owner_at c p ≡ 0

module _ (c : List ℕ) (p : ℕ) where
  pub last-symbol : (next_kind c p ≡ 2 → ⊥) → is_last c p ≡ false
  unfolding is_last
  last-symbol h = rw (ne_eqb (next_kind c p) 2 h)

  pub last-stop : next_kind c p ≡ 2 → (next_kind c (p + 1) ≡ 0 → ⊥) → is_last c p ≡ false
  unfolding is_last
  last-stop e h = rw (e, ne_eqb (next_kind c (p + 1)) 0 h)

  pub last-owner : next_kind c p ≡ 2 → next_kind c (p + 1) ≡ 0 → is_last c p ≡ eqb (owner_at c p) 0
  unfolding is_last
  last-owner e h = rw (e, h)

  pub is-last : Last c p → is_last c p ≡ true
  is-last d = last-owner d.symbol d.stop ∙ eq-eqb (owner_at c p) 0 d.inner

  pub last-is : is_last c p ≡ true → Last c p
  last-is e = elim (ℕ_discrete (next_kind c p) 2) as (λ _. Last c p) [
    | no h ↦ absurd (clash (last-symbol h) e)
    | yes h ↦ (elim (ℕ_discrete (next_kind c (p + 1)) 0) as (λ _. Last c p) [
      | no k ↦ absurd (clash (last-stop h k) e)
      | yes k ↦ record { symbol = h; stop = k; inner = eqb-true (owner_at c p) 0 (sym (last-owner h k) ∙ e) }
    ])
  ]

  pub last-not : (Last c p → ⊥) → is_last c p ≡ false
  last-not h = ⊎_elim (λ e. absurd (h (last-is e))) (λ e. e) (look (is_last c p))

  pub not_last : is_last c p ≡ false → Last c p → ⊥
  not_last e d = clash e (is-last d)

  -- the row of a dot that begins an alternative is its rule's
  pub row-inner : owner_at c p ≡ 0 → row_of c p ≡ p
  row-inner o = rw o

  pub row_first : (e : ℕ) → owner_at c p ≡ e + 1 → row_of c p ≡ e
  row_first e o = let z : e + 1 - 1 ≡ e = omega arith in rw (o, ne_eqb (e + 1) 0 (λ q. omega arith), z)

  module _ (F : List ℕ) where
    pub empty-end : next_kind c p ≡ 0 → empty_rest c F p ≡ 0
    empty-end z = rw z

    pub empty-row : (next_kind c p ≡ 0 → ⊥) → empty_rest c F p ≡ empty_in F p
    empty-row h = rw (ne_eqb (next_kind c p) 0 h)

-- a rule is named by a dot
pub owner-size : {c : List ℕ} {size : ℕ} → Shape c size → (p : ℕ) → p < size → owner_at c p ≤ size
owner-size {c} {size} s p h = elim (ℕ_discrete (owner_at c p) 0) as (λ _. owner_at c p ≤ size) [
  | yes e ↦ omega arith
  | no e ↦ omega (arith, (s.owners p (owner_at c p - 1) h (omega arith)).0)
]

pub home-size : {c : List ℕ} {size : ℕ} → Shape c size → (p : ℕ) → p < size → home_of c p < size
home-size {c} {size} s = home-most c size (owner-size s)

-- the stretch of a row is in the table
pub in_table : (size n i j p len x : ℕ) → size ≤ most_size → n ≤ record_chars → size * stretches n ≤ len → p < size → i ≤ j → j ≤ n → x ≡ cell_at n p i j → x < len
in_table size n i j p len x few short room hp hi hj e =
    at_room {size = size} {n = n} {len = len} {p = p} {i = i} {j = j} (record { few = few; short = short; room = room }) (record { inside = hp; order = hi; stop = hj }) e

-- what lowering a cell does
pub lowered-at : (t : List ℕ) (x y v : ℕ) → x ≡ y → v < get_or t x 0 → Lowered t y v true (set t x v)
lowered-at t x y v e l = subst (λ (z : ℕ). Lowered t z v true (set t x v)) e (lowered l)

pub kept_at : (t : List ℕ) (x y v : ℕ) → x ≡ y → get_or t x 0 ≤ v → Lowered t y v false t
kept_at t x y v e l = subst (λ (z : ℕ). Lowered t z v false t) e (kept l)

module _ (c M F : List ℕ) (n : ℕ) (t : List ℕ) where
  pub rule-empty : (e i j : ℕ) → i ≡ j → rule_of c M F n t e i j ≡ empty_in F e
  unfolding rule_of
  rule-empty e i j q = rw (eq-eqb i j q)

  pub rule-cell : (e i j : ℕ) → (i ≡ j → ⊥) → Wanted M e j → rule_of c M F n t e i j ≡ cell_of n t e i j
  unfolding rule_of
  rule-cell e i j q w = rw (ne_eqb i j q, le-leb 2 _ w)

  pub rule-none : (e i j : ℕ) → (i ≡ j → ⊥) → (Wanted M e j → ⊥) → rule_of c M F n t e i j ≡ none
  unfolding rule_of
  rule-none e i j q w = rw (ne_eqb i j q, lt-leb 2 (end_at M e j) (omega (arith, w)))

  pub wide-last : (p i j : ℕ) → is_last c p ≡ true → wide_rest c M F n t p i j ≡ up_of (rule_of c M F n t (rule_at c p) i j)
  unfolding wide_rest
  wide-last p i j e = rw e

  pub wide_row : (p i j : ℕ) → is_last c p ≡ false → Wanted M (home_of c p) j → wide_rest c M F n t p i j ≡ cell_of n t p i j
  unfolding wide_rest
  wide_row p i j e w = rw (e, le-leb 2 _ w)

  pub wide-none : (p i j : ℕ) → is_last c p ≡ false → (Wanted M (home_of c p) j → ⊥) → wide_rest c M F n t p i j ≡ none
  unfolding wide_rest
  wide-none p i j e w = rw (e, lt-leb 2 (end_at M (home_of c p) j) (omega (arith, w)))

  pub rest-empty : (p i j : ℕ) → i ≡ j → rest_of c M F n t p i j ≡ empty_rest c F p
  unfolding rest_of
  rest-empty p i j q = rw (eq-eqb i j q)

  pub rest_end : (p i j : ℕ) → (i ≡ j → ⊥) → next_kind c p ≡ 0 → rest_of c M F n t p i j ≡ none
  unfolding rest_of
  rest_end p i j q z = rw (ne_eqb i j q, z)

  module _ (p i j : ℕ) (q : i ≡ j → ⊥) (z : next_kind c p ≡ 0 → ⊥) where
    pub rest-away : (Reached M p i → ⊥) → rest_of c M F n t p i j ≡ none
    unfolding rest_of
    rest-away u = rw (ne_eqb i j q, ne_eqb (next_kind c p) 0 z, lt-leb 1 (dot_at M p i) (omega (arith, u)))

    pub rest-wide : Reached M p i → rest_of c M F n t p i j ≡ wide_rest c M F n t p i j
    unfolding rest_of
    rest-wide u = rw (ne_eqb i j q, ne_eqb (next_kind c p) 0 z, le-leb 1 _ u)

    pub rest-last : Reached M p i → is_last c p ≡ true → rest_of c M F n t p i j ≡ up_of (rule_of c M F n t (rule_at c p) i j)
    rest-last u e = rest-wide u ∙ wide-last p i j e

    pub rest-row : Reached M p i → is_last c p ≡ false → Wanted M (home_of c p) j → rest_of c M F n t p i j ≡ cell_of n t p i j
    rest-row u e w = rest-wide u ∙ wide_row p i j e w

    pub rest-unwanted : Reached M p i → is_last c p ≡ false → (Wanted M (home_of c p) j → ⊥) → rest_of c M F n t p i j ≡ none
    rest-unwanted u e w = rest-wide u ∙ wide-none p i j e w

-- a dot before a symbol that derives nothing, over what stands after it
pub data Over (c M F : List ℕ) (p i v r : ℕ) : Type 0 where
  by-terminal : next_kind c p ≡ 1 → goes_at c p ≡ 0 → Fits M p i → r ≡ v → Over c M F p i v r
  by-symbol : next_kind c p ≡ 2 → r ≡ max (up_of (empty_in F (rule_at c p))) v → Over c M F p i v r

module _ (c M F : List ℕ) (p i v : ℕ) where
  pub over-away : (Reached M p i → ⊥) → over_of c M F p i v ≡ none
  unfolding over_of
  over-away u = rw (lt-leb 1 (dot_at M p i) (omega (arith, u)))

  module _ (u : Reached M p i) where
    pub over-terminal : next_kind c p ≡ 1 → goes_at c p ≡ 0 → Fits M p i → over_of c M F p i v ≡ v
    unfolding over_of
    over-terminal z g f = rw (le-leb 1 _ u, z, g, le-leb 2 _ f)

    pub over-misfit : next_kind c p ≡ 1 → goes_at c p ≡ 0 → (Fits M p i → ⊥) → over_of c M F p i v ≡ none
    unfolding over_of
    over-misfit z g f = rw (le-leb 1 _ u, z, g, lt-leb 2 (dot_at M p i) (omega (arith, f)))

    pub over-taking : next_kind c p ≡ 1 → (goes_at c p ≡ 0 → ⊥) → over_of c M F p i v ≡ none
    unfolding over_of
    over-taking z g = rw (le-leb 1 _ u, z, ne_eqb (goes_at c p) 0 g)

    pub over-symbol : next_kind c p ≡ 2 → over_of c M F p i v ≡ max (up_of (empty_in F (rule_at c p))) v
    unfolding over_of
    over-symbol z = rw (le-leb 1 _ u, z)

    pub over-other : (next_kind c p ≡ 1 → ⊥) → (next_kind c p ≡ 2 → ⊥) → over_of c M F p i v ≡ none
    unfolding over_of
    over-other a b = rw (le-leb 1 _ u, ne_eqb (next_kind c p) 1 a, ne_eqb (next_kind c p) 2 b)

    over-how : over_of c M F p i v < none → Over c M F p i v (over_of c M F p i v)
    over-how l = elim (ℕ_discrete (next_kind c p) 1) as (λ _. Over c M F p i v (over_of c M F p i v)) [
      | no a ↦ (elim (ℕ_discrete (next_kind c p) 2) as (λ _. Over c M F p i v (over_of c M F p i v)) [
        | no b ↦ absurd (omega (arith, over-other a b))
        | yes b ↦ by-symbol b (over-symbol b)
      ])
      | yes a ↦ (elim (ℕ_discrete (goes_at c p) 0) as (λ _. Over c M F p i v (over_of c M F p i v)) [
        | no g ↦ absurd (omega (arith, over-taking a g))
        | yes g ↦ ⊎_elim (λ f. absurd (omega (arith, over-misfit a g (λ f'. omega arith)))) (λ f. by-terminal a g f (over-terminal a g f)) (split _ 2)
      ])
    ]

  pub over-some : over_of c M F p i v < none → Reached M p i × Over c M F p i v (over_of c M F p i v)
  over-some l = ⊎_elim (λ u. absurd (omega (arith, over-away (λ u'. omega arith)))) (λ u. (u, over-how u l)) (split _ 1)
