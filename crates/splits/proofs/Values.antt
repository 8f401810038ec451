-- Values of dots and of splits, as numbers.
use mathlib.Core.Logic.{◌⊎◌, inl, inr}
use mathlib.Core.Path.{◌≡◌, refl, sym, ap, subst, ◌∙◌}
use mathlib.Core.Bool.{Bool, true, false}
use mathlib.Core.List.{List}
use Prim.Native.Nat.{ℕ, zero, suc, ◌+◌, ◌-◌, ◌<◌, ◌≤◌, max, min}
use native.Mathlib.Decide.{ℕ_discrete, dec_lt}
use native.Mathlib.Omega.{arith}
use lib.Dec.{eqb, leb}
use lib.ListN.{length, get_or}
use borrow.Author.Tests.{eq-eqb, ne_eqb, le-leb, lt-leb, leb-true}
use Rattle.text.specs.Lists.{pick}
use Rattle.chart.specs.Code.{next_kind, goes_at, rule_at}
use Rattle.chart.specs.Heights.{none, cell_at}
use Rattle.heights.specs.Table.{cell_of, up_of}
use Rattle.heights.specs.Filling.{Any}
use Rattle.heights.specs.Part.{Offers, by_end, by-terminal, by-split}
use Rattle.heights.proofs.Values.{up_is, up-low, up-most}
use Rattle.reach.specs.Flags.{dot_at, end_at, Reached, Fits, home_of}
use Rattle.sparse.specs.Cells.{is_last, rule_of, wide_rest, rest_of, Shape, Reads, Tables}
use Rattle.sparse.proofs.Rows.{last-is, in_table, rest_end, rest-away, rest-last, rest-row, rest-unwanted}
use Rattle.splits.specs.Splits.{Ready, rest_row, Barren, joined, split_at, least_of, past_of, value_at}

pick-most : {x y : ℕ} (b : Bool) → x ≤ none → y ≤ none → pick b x y ≤ none
pick-most true h k = h
pick-most false h k = k

pick-none : {x : ℕ} (b : Bool) → x ≤ none → pick b x none ≤ none
pick-none b h = pick-most {y = none} b h (omega arith)

-- heights of two parts
pub joined-some : (a b : ℕ) → a < none → joined a b ≡ max (a + 1) b
joined-some a b l = rw (ne_eqb a none (λ e. omega arith), up_is a l)

pub joined-most : (a b : ℕ) → b ≤ none → joined a b ≤ none
joined-most a b l = pick-most (eqb a none) (omega arith) (omega (arith, up-most a))

joined-none : (a b : ℕ) → a ≡ none → joined a b ≡ none
joined-none a b e = rw (eq-eqb a none e)

-- both parts have a height
pub record Both (a b v : ℕ) : Type 0 where
  pub one : a < none
  pub others : b < none
  pub is : v ≡ max (a + 1) b

pub both : (a b : ℕ) → joined a b < none → Both a b (joined a b)
both a b l = elim (ℕ_discrete a none) as (λ _. Both a b (joined a b)) [
  | yes e ↦ absurd (omega (arith, joined-none a b e))
  | no e ↦
      (let z : joined a b ≡ max (up_of a) b = rw (ne_eqb a none e) in
      let h = up-low a (omega arith) in
      record { one = h; others = omega arith; is = joined-some a b h })
]

-- no number is above that of "no height"
pub record Small (F H : List ℕ) : Type 0 where
  pub noted : (x : ℕ) → get_or F x 0 ≤ none
  pub cell : (x : ℕ) → get_or H x 0 ≤ none

joined-rest : (a : ℕ) → joined a none ≡ none
joined-rest a = elim (ℕ_discrete a none) as (λ _. joined a none ≡ none) [
  | yes e ↦ rw (eq-eqb a none e) refl
  | no e ↦ rw (ne_eqb a none e) (omega (arith, up-most a))
]

-- what a rule's height asks
pub reads : {c M F : List ℕ} {size n main : ℕ} → Tables c M F size n main → Reads M F size n main
reads t = record { small = t.shape.small; noted-long = t.noted.long; short = t.short; marks-long = t.marks-long; room = t.room }

-- the row of what stands after a dot: that of a last symbol's rule, or its own
pub row_last : {c : List ℕ} {size e r : ℕ} (n j q : ℕ) → Shape c size → q < size → is_last c q ≡ true → e ≡ rule_at c q → r ≡ cell_at n e 0 j
    → (r ≡ cell_at n (rest_row c q) 0 j) × (rest_row c q < size)
row_last {c} {size} {e} {r} n j q s h l x y =
    let z : rest_row c q ≡ e = rw l (sym x) in
    (y ∙ ap (λ (w : ℕ). cell_at n w 0 j) (sym z), omega (arith, z, x, (s.names q h (last-is c q l).symbol).0))

pub row-own : {size r : ℕ} (c : List ℕ) (n j q : ℕ) → q < size → is_last c q ≡ false → r ≡ cell_at n q 0 j → (r ≡ cell_at n (rest_row c q) 0 j) × (rest_row c q < size)
row-own {size} {r} c n j q h l y = let z : rest_row c q ≡ q = rw l refl in (y ∙ ap (λ (w : ℕ). cell_at n w 0 j) (sym z), omega (arith, z))

-- what the searches for an end place ask at a symbol
pub after-symbol : {c M F H : List ℕ} {size n i j p : ℕ} → Ready c M F H size n i j → p < size → next_kind c p ≡ 2 → p + 1 < size
after-symbol {p = p} r h z = r.tables.shape.nexts p h (λ y. omega arith)

-- the cells of what stands after a symbol are in the table
pub rest_in : {c M F H : List ℕ} {size n i j x y : ℕ} → Ready c M F H size n i j → x ≡ cell_at n y 0 j → y < size → x + j ≤ length H
rest_in {H = H} {size = size} {n = n} {j = j} {x = x} {y = y} r e h =
    let t = r.tables in
    omega (arith, in_table size n j j y (length H) (x + j) t.shape.small t.short t.room h (omega arith) r.inside (omega (arith, e)))

module _ (c M F : List ℕ) (n : ℕ) (H : List ℕ) where
  least-none : (p i j d : ℕ) → least_of c M F n H p i j d ≤ none
  least-none p i j zero = omega arith
  least-none p i j (suc d) = omega (arith, least-none p i j d)

  module _ (s : Small F H) where
    pub rule-most : (e i j : ℕ) → rule_of c M F n H e i j ≤ none
    unfolding rule_of
    rule-most e i j = pick-most (eqb i j) (s.noted _) (pick-none (leb 2 (end_at M e j)) (s.cell _))

    wide-most : (p i j : ℕ) → wide_rest c M F n H p i j ≤ none
    unfolding wide_rest
    wide-most p i j = pick-most (is_last c p) (up-most (rule_of c M F n H (rule_at c p) i j)) (pick-none (leb 2 (end_at M (home_of c p) j)) (s.cell (cell_at n p i j)))

    pub rest-most : (p i j : ℕ) → rest_of c M F n H p i j ≤ none
    unfolding rest_of
    rest-most p i j =
        pick-most (eqb i j) (pick-most (eqb (next_kind c p) 0) (omega arith) (s.noted _))
        (pick-most (eqb (next_kind c p) 0) (omega arith) (pick-none (leb 1 (dot_at M p i)) (wide-most p i j)))

    past-most : (p i j : ℕ) → past_of c M F n H p i j ≤ none
    past-most p i j = pick-none (leb 2 (dot_at M p i)) (pick-none (leb (i + goes_at c p) j) (rest-most (p + 1) (i + goes_at c p) j))

    pub value-most : (p i j : ℕ) → value_at c M F n H p i j ≤ none
    unfolding value_at
    value-most p i j =
        pick-most (eqb (next_kind c p) 0) (pick-most (eqb i j) (omega arith) (omega arith))
        (pick-most (eqb (next_kind c p) 1) (past-most p i j) (least-none p i j (j + 1 - i)))

    pub split-most : (p i j m : ℕ) → split_at c M F n H p i j m ≤ none
    split-most p i j m = joined-most (rule_of c M F n H (rule_at c p) i m) _ (rest-most (p + 1) m j)

  -- by kinds of dots
  pub value-end : (p i j : ℕ) → next_kind c p ≡ 0 → i ≡ j → value_at c M F n H p i j ≡ 0
  unfolding value_at
  value-end p i j z e = rw (z, eq-eqb i j e)

  pub value_none : (p i j : ℕ) → next_kind c p ≡ 0 → (i ≡ j → ⊥) → value_at c M F n H p i j ≡ none
  unfolding value_at
  value_none p i j z e = rw (z, ne_eqb i j e)

  pub value-terminal : (p i j : ℕ) → next_kind c p ≡ 1 → value_at c M F n H p i j ≡ past_of c M F n H p i j
  unfolding value_at
  value-terminal p i j z = rw z

  pub value-symbol : (p i j : ℕ) → next_kind c p ≡ 2 → value_at c M F n H p i j ≡ least_of c M F n H p i j (j + 1 - i)
  unfolding value_at
  value-symbol p i j z = rw z

  -- past a terminal
  pub past-misfit : (p i j : ℕ) → leb 2 (dot_at M p i) ≡ false → past_of c M F n H p i j ≡ none
  past-misfit p i j f = rw f

  pub past-short : (p i j : ℕ) → leb 2 (dot_at M p i) ≡ true → j < i + goes_at c p → past_of c M F n H p i j ≡ none
  past-short p i j f l = rw (f, lt-leb (i + goes_at c p) j l)

  pub past_is : (p i j : ℕ) → leb 2 (dot_at M p i) ≡ true → i + goes_at c p ≤ j → past_of c M F n H p i j ≡ rest_of c M F n H (p + 1) (i + goes_at c p) j
  past_is p i j f l = rw (f, le-leb (i + goes_at c p) j l)

  -- at a symbol whose rule is e
  pub split-none : (p i j m e a : ℕ) → e ≡ rule_at c p → a ≡ rule_of c M F n H e i m → a ≡ none → split_at c M F n H p i j m ≡ none
  split-none p i j m e a x y z = joined-none (rule_of c M F n H (rule_at c p) i m) (rest_of c M F n H (p + 1) m j) (ap (λ (q : ℕ). rule_of c M F n H q i m) (sym x) ∙ sym y ∙ z)

  pub split-is : (p i j m e a u : ℕ) → e ≡ rule_at c p → a ≡ rule_of c M F n H e i m → (a ≡ none → ⊥) → u ≡ up_of a
      → split_at c M F n H p i j m ≡ max u (rest_of c M F n H (p + 1) m j)
  split-is p i j m e a u x y z w = let q : a ≡ rule_of c M F n H (rule_at c p) i m = y ∙ ap (λ (q : ℕ). rule_of c M F n H q i m) x in rw (← q, ne_eqb a none z, w)

  -- the least split of those before m
  pub record Sought (p i j v m : ℕ) : Type 0 where
    pub from : i ≤ m
    pub to : m ≤ j + 1
    pub is : v ≡ least_of c M F n H p i j (m - i)

  pub sought : (p i j : ℕ) → i ≤ j → Sought p i j none i
  sought p i j l = let z : i - i ≡ 0 = omega arith in record { from = omega arith; to = omega arith; is = rw z refl }

  -- where nothing stands after the symbol, it ends at j
  pub last-split : (p i j m : ℕ) → next_kind c (p + 1) ≡ 0 → (m ≡ j → ⊥) → split_at c M F n H p i j m ≡ none
  last-split p i j m z d = ap (joined (rule_of c M F n H (rule_at c p) i m)) (rest_end c M F n H (p + 1) m j d z) ∙ joined-rest (rule_of c M F n H (rule_at c p) i m)

  last-least : (p i j d : ℕ) → next_kind c (p + 1) ≡ 0 → i + d ≤ j → least_of c M F n H p i j d ≡ none
  last-least p i j zero z l = refl
  last-least p i j (suc d) z l = omega (arith, last-least p i j d z (omega arith), last-split p i j (i + d) z (λ e. omega arith))

  pub sought-from : (p i j m : ℕ) → i ≤ j → (m ≡ i) ⊎ ((m ≡ j) × (next_kind c (p + 1) ≡ 0)) → Sought p i j none m
  sought-from p i j m l (inl e) = subst (Sought p i j none) (sym e) (sought p i j l)
  sought-from p i j m l (inr x) = record { from = omega (arith, x.0); to = omega (arith, x.0); is = sym (last-least p i j (m - i) x.1 (omega (arith, x.0))) }

  -- what stands after the symbol derives nothing where its cell holds nothing
  barren-rest : (q m j : ℕ) → m < j → cell_of n H (rest_row c q) m j ≡ none → rest_of c M F n H q m j ≡ none
  unfolding rule_of
  barren-rest q m j l e = elim (ℕ_discrete (next_kind c q) 0) as (λ _. rest_of c M F n H q m j ≡ none) [
    | yes z ↦ rest_end c M F n H q m j apart z
    | no z ↦ (elim (dec_lt (dot_at M q m) 1) as (λ _. rest_of c M F n H q m j ≡ none) [
      | yes u ↦ rest-away c M F n H q m j apart z (λ y. omega arith)
      | no u ↦ by_last z (omega arith) (is_last c q) refl
    ])
  ]
    where
      apart : m ≡ j → ⊥
      apart q = omega arith

      wanted-or : (y : ℕ) → cell_of n H y m j ≡ none → Dec (end_at M y j < 2) → rule_of c M F n H y m j ≡ none
      wanted-or y e (yes w) = rw (ne_eqb m j apart, lt-leb 2 (end_at M y j) w)
      wanted-or y e (no w) = rw (ne_eqb m j apart, le-leb 2 (end_at M y j) (omega arith)) e

      by_last : (next_kind c q ≡ 0 → ⊥) → Reached M q m → (b : Bool) → is_last c q ≡ b → rest_of c M F n H q m j ≡ none
      by_last z u true h =
          let r : cell_of n H (rule_at c q) m j ≡ none = rw h at e in
          rest-last c M F n H q m j apart z u h ∙ ap up_of (wanted-or (rule_at c q) r (dec_lt (end_at M (rule_at c q) j) 2))
      by_last z u false h =
          let r : cell_of n H q m j ≡ none = rw h at e in
          elim (dec_lt (end_at M (home_of c q) j) 2) as (λ _. rest_of c M F n H q m j ≡ none) [
            | yes w ↦ rest-unwanted c M F n H q m j apart z u h (λ y. omega arith)
            | no w ↦ rest-row c M F n H q m j apart z u h (omega arith) ∙ r
          ]

  barren-split : (p i j m : ℕ) → m < j → cell_of n H (rest_row c (p + 1)) m j ≡ none → split_at c M F n H p i j m ≡ none
  barren-split p i j m l e =
      ap (joined (rule_of c M F n H (rule_at c p) i m)) (barren-rest (p + 1) m j l e) ∙ joined-rest (rule_of c M F n H (rule_at c p) i m)

  -- the places that a search passes over
  pub over-barren : {x m e j : ℕ} (p i : ℕ) → x ≡ cell_at n (rest_row c (p + 1)) 0 j → Barren H x m e j → (l : ℕ) → m ≤ l → l < e → split_at c M F n H p i j l ≡ none
  over-barren {x} {m} {e} {j} p i h b l lo hi =
      let z : x + l ≡ cell_at n (rest_row c (p + 1)) l j = omega (arith, h) in
      barren-split p i j l (omega (arith, b.to)) (sym (ap (λ (y : ℕ). get_or H y 0) z) ∙ b.empty l lo hi)

  least-over : (p i j d k : ℕ) → ((l : ℕ) → i + d ≤ l → l < i + (d + k) → split_at c M F n H p i j l ≡ none) → least_of c M F n H p i j (d + k) ≡ least_of c M F n H p i j d
  least-over p i j d zero f = ap (least_of c M F n H p i j) (let z : d + 0 ≡ d = omega arith in z)
  least-over p i j d (suc k) f =
      let z : d + suc k ≡ suc (d + k) = omega arith in
      ap (least_of c M F n H p i j) z ∙ omega (arith, least-over p i j d k (λ l a b. f l a (omega arith)), f (i + (d + k)) (omega arith) (omega arith), least-none p i j (d + k))

  pub sought-over : {p i j v m x e : ℕ} → x ≡ cell_at n (rest_row c (p + 1)) 0 j → Barren H x m e j → Sought p i j v m → Sought p i j v e
  sought-over {p} {i} {j} {v} {m} {x} {e} h b s =
      let from = s.from in
      let z : (m - i) + (e - m) ≡ e - i = omega (arith, b.from) in
      record {
        from = omega (arith, b.from);
        to = omega (arith, b.to);
        is = s.is ∙ sym (sym (ap (least_of c M F n H p i j) z) ∙ least-over p i j (m - i) (e - m) (λ l lo hi. over-barren p i h b l (omega arith) (omega (arith, b.from))));
      }

  pub sought-next : {p i j v m : ℕ} (w v' : ℕ) → Sought p i j v m → m ≤ j → w ≡ split_at c M F n H p i j m → v' ≡ min v w → Sought p i j v' (m + 1)
  sought-next {p} {i} {j} {v} {m} w v' s l e f =
      let from = s.from in
      let z : m + 1 - i ≡ suc (m - i) = omega arith in
      let y : i + (m - i) ≡ m = omega arith in
      record { from = omega arith; to = omega arith; is = rw (z, y) (f ∙ (λ ι. min (s.is ι) (e ι))) }

  pub sought-all : {p i j v m : ℕ} → Sought p i j v m → j < m → v ≡ least_of c M F n H p i j (j + 1 - i)
  sought-all {p} {i} {j} {v} {m} s l = let z : m - i ≡ j + 1 - i = omega (arith, s.to) in s.is ∙ ap (least_of c M F n H p i j) z

  -- no split is below the least of those before d, and one has it
  pub least-low : (p i j d e : ℕ) → e < d → least_of c M F n H p i j d ≤ split_at c M F n H p i j (i + e)
  least-low p i j zero e l = absurd (omega arith)
  least-low p i j (suc d) e l = elim (ℕ_discrete e d) as (λ _. least_of c M F n H p i j (suc d) ≤ split_at c M F n H p i j (i + e)) [
    | yes q ↦ rw q (omega arith)
    | no q ↦ omega (arith, least-low p i j d e (omega arith))
  ]

  record AtSplit (p i j d : ℕ) : Type 0 where
    width : ℕ
    below : width < d
    is : least_of c M F n H p i j d ≡ split_at c M F n H p i j (i + width)

  least_at : (p i j d : ℕ) → least_of c M F n H p i j d < none → AtSplit p i j d
  least_at p i j zero l = absurd (omega arith)
  least_at p i j (suc d) l = elim (dec_lt (split_at c M F n H p i j (i + d)) (least_of c M F n H p i j d)) as (λ _. AtSplit p i j (suc d)) [
    | yes q ↦ record { width = d; below = omega arith; is = omega arith }
    | no q ↦ (let w = least_at p i j d (omega arith) in record { width = w.width; below = omega (arith, w.below); is = omega (arith, w.is) })
  ]

  -- the value of a dot is the least that is offered, where every end counts as wanted
  module _ (size : ℕ) (home : ℕ → ℕ) (Use : ℕ → ℕ → Type 0) where
    abbrev pub Offer : (ℕ → ℕ → Type 0) → ℕ → ℕ → ℕ → ℕ → Type 0
    Offer Live = Offers c size home (Fits M) Use Live (rule_of c M F n H) (rest_of c M F n H)

    pub value_low : {Live : ℕ → ℕ → Type 0} (p i j v : ℕ) → Offer Live p i j v → v < none → value_at c M F n H p i j ≤ v
    value_low p i j v (by_end z e o) l = omega (arith, value-end p i j z e)
    value_low p i j v (by-terminal z f b o) l =
        let w = value-terminal p i j z in
        omega (arith, past_is p i j (le-leb 2 (dot_at M p i) f) b)
    value_low p i j v (by-split m z hi hm y o) l =
        let w = value-symbol p i j z in
        let a = rule_of c M F n H (rule_at c p) i m in
        let la = up-low a (omega arith) in
        let e : i + (m - i) ≡ m = omega arith in
        let x = subst (λ (q : ℕ). least_of c M F n H p i j (j + 1 - i) ≤ split_at c M F n H p i j q) e (least-low p i j (j + 1 - i) (m - i) (omega arith)) in
        omega (arith, joined-some a (rest_of c M F n H (p + 1) m j) la, up_is a la)

    end-offer : (p i j : ℕ) → next_kind c p ≡ 0 → value_at c M F n H p i j < none → Offer Any p i j (value_at c M F n H p i j)
    end-offer p i j z l = elim (ℕ_discrete i j) as (λ _. Offer Any p i j (value_at c M F n H p i j)) [
      | yes e ↦ by_end z e (value-end p i j z e)
      | no e ↦ absurd (omega (arith, value_none p i j z e))
    ]

    terminal-by : (b d : Bool) (p i j v : ℕ) → leb 2 (dot_at M p i) ≡ b → leb (i + goes_at c p) j ≡ d → next_kind c p ≡ 1
        → v ≡ pick b (pick d (rest_of c M F n H (p + 1) (i + goes_at c p) j) none) none → v < none → Offer Any p i j v
    terminal-by true true p i j v x y z o l = by-terminal z (leb-true 2 (dot_at M p i) x) (leb-true (i + goes_at c p) j y) o
    terminal-by true false p i j v x y z o l = absurd (omega arith)
    terminal-by false d p i j v x y z o l = absurd (omega arith)

    symbol-offer : (p i j : ℕ) → i ≤ j → next_kind c p ≡ 2 → value_at c M F n H p i j < none → Offer Any p i j (value_at c M F n H p i j)
    symbol-offer p i j h z l =
        let w = value-symbol p i j z in
        let s = least_at p i j (j + 1 - i) (omega arith) in
        let m = i + s.width in
        let x = both (rule_of c M F n H (rule_at c p) i m) (rest_of c M F n H (p + 1) m j) (omega (arith, s.is)) in
        let u = up_is (rule_of c M F n H (rule_at c p) i m) x.one in
        by-split m z (omega arith) (omega (arith, s.below)) tt (omega (arith, s.is, x.is))

    pub value-offer : (p i j : ℕ) → i ≤ j → next_kind c p ≤ 2 → value_at c M F n H p i j < none → Offer Any p i j (value_at c M F n H p i j)
    value-offer p i j h k l = elim (ℕ_discrete (next_kind c p) 0) as (λ _. Offer Any p i j (value_at c M F n H p i j)) [
      | yes z ↦ end-offer p i j z l
      | no z ↦ (elim (ℕ_discrete (next_kind c p) 1) as (λ _. Offer Any p i j (value_at c M F n H p i j)) [
        | yes y ↦ terminal-by (leb 2 (dot_at M p i)) (leb (i + goes_at c p) j) p i j (value_at c M F n H p i j) refl refl y (value-terminal p i j y) l
        | no y ↦ symbol-offer p i j h (omega arith) l
      ])
    ]
