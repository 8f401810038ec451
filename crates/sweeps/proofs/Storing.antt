-- What a cell that takes the height of the sweep leaves as it was.
use mathlib.Core.Path.{◌≡◌, refl, sym, ap, subst, ◌∙◌}
use mathlib.Core.List.{List}
use Prim.Native.Nat.{ℕ, ◌+◌, ◌<◌, ◌≤◌}
use native.Mathlib.Decide.{dec_lt, ℕ_discrete}
use native.Mathlib.Omega.{arith}
use lib.ListN.{get_or, set}
use lib.Seq.{get_or-set_same, get_or-set_other}
use Rattle.chart.specs.Code.{next_kind, rule_at, goes_at}
use Rattle.chart.specs.Heights.{cell_at, none}
use Rattle.heights.specs.Table.{cell_of, value_of, up_of, split_of, Shape, Place}
use Rattle.heights.specs.Filling.{Gives, by-terminal, by-split, by-owned, Steps, stay, step, Only}
use Rattle.heights.proofs.Cells.{cell-inj}
use Rattle.heights.proofs.Lowering.{in-range, set-le}
use Rattle.heights.proofs.Values.{value_cell, value-end, value-gap, up_is, up-low}
use Rattle.sweeps.specs.Layers.{Running, Offer, Done}

-- a value of an end does not look at the table
value-ends : (c t u : List ℕ) (n q i j : ℕ) → next_kind c q ≡ 0 → value_of c u n q i j ≡ value_of c t n q i j
value-ends c t u n q i j k = elim (ℕ_discrete i j) as (λ _. value_of c u n q i j ≡ value_of c t n q i j) [
  | yes e ↦ value-end c u n q i j k e ∙ sym (value-end c t n q i j k e)
  | no e ↦ value-gap c u n q i j k e ∙ sym (value-gap c t n q i j k e)
]

-- what is below h in u was the same in t
module _ (c f : List ℕ) (size n h : ℕ) (t u : List ℕ) (low : (y : ℕ) → get_or u y 0 < h → get_or u y 0 ≡ get_or t y 0) where
  value-back : (q i j : ℕ) → value_of c u n q i j < h → value_of c u n q i j ≡ value_of c t n q i j
  value-back q i j l = elim (ℕ_discrete (next_kind c q) 0) as (λ _. value_of c u n q i j ≡ value_of c t n q i j) [
    | yes k ↦ value-ends c t u n q i j k
    | no k ↦ value_cell c u n q i j k ∙ low (cell_at n q i j) (omega (arith, value_cell c u n q i j k)) ∙ sym (value_cell c t n q i j k)
  ]

  -- the symbol of a split of at most h
  rule-back : (p i m x : ℕ) → up_of (cell_of n u (rule_at c p) i m) ≤ x → x ≤ h → h < none → cell_of n u (rule_at c p) i m ≡ cell_of n t (rule_at c p) i m
  rule-back p i m x l b z =
      let a = cell_of n u (rule_at c p) i m in
      low (cell_at n (rule_at c p) i m) (omega (arith, up_is a (up-low a (omega arith))))

  split-back : (p i j m x : ℕ) → x ≡ split_of c u n p i j m → x ≤ h → h < none → value_of c u n (p + 1) m j ≡ value_of c t n (p + 1) m j → x ≡ split_of c t n p i j m
  split-back p i j m x e b z ev =
      let er = rule-back p i m x (omega arith) b z in
      e ∙ (λ ι. Prim.Native.Nat.max (up_of (er ι)) (ev ι))

  pub gives_back : (p i j x : ℕ) → h < none → Gives c f size n u p i j x → x < h → Gives c f size n t p i j x
  gives_back p i j x z (by-terminal k w l e) b = by-terminal k w l (e ∙ value-back (p + 1) (i + goes_at c p) j (omega arith))
  gives_back p i j x z (by-split m k hm lm e) b = by-split m k hm lm (split-back p i j m x e (omega arith) z (value-back (p + 1) m j (omega arith)))
  gives_back p i j x z (by-owned q hq o e) b = by-owned q hq o (e ∙ value-back q i j (omega arith))

-- the cell of p on the stretch takes h
module _ (c f : List ℕ) (size n h len : ℕ) (sh : Shape c size n len) (t : List ℕ) (run : Running c f size n h t) (p i j : ℕ) (pl : Place size n p i j) (bare : cell_of n t p i j ≡ none) where
  abbrev x : ℕ
  x = cell_at n p i j

  abbrev u : List ℕ
  u = set t x h

  less : h < cell_of n t p i j
  less = omega (arith, run.height)

  pub taken : cell_of n u p i j ≡ h
  taken = get_or-set_same t x h 0 (in-range t x h less)

  below : (y : ℕ) → get_or u y 0 < h → get_or u y 0 ≡ get_or t y 0
  below y l = elim (ℕ_discrete y x) as (λ _. get_or u y 0 ≡ get_or t y 0) [
    | yes e ↦ absurd (omega (arith, taken, ap (λ (z : ℕ). get_or u z 0) e))
    | no e ↦ get_or-set_other t x y h 0 e
  ]

  pub lower : (y : ℕ) → get_or u y 0 ≤ get_or t y 0
  lower y = set-le t x y h less

  pub cell_other : (q k l : ℕ) → k ≤ l → l ≤ n → (q ≡ p → ⊥) → cell_of n u q k l ≡ cell_of n t q k l
  cell_other q k l a b o = get_or-set_other t x (cell_at n q k l) h 0 (λ e. o (cell-inj n q k l p i j a b pl.order pl.stop e).same-p)

  value-other : (q k l : ℕ) → k ≤ l → l ≤ n → ((next_kind c q ≡ 0 → ⊥) → q ≡ p → ⊥) → value_of c u n q k l ≡ value_of c t n q k l
  value-other q k l a b o = elim (ℕ_discrete (next_kind c q) 0) as (λ _. value_of c u n q k l ≡ value_of c t n q k l) [
    | yes z ↦ value-ends c t u n q k l z
    | no z ↦ value_cell c u n q k l z ∙ cell_other q k l a b (o z) ∙ sym (value_cell c t n q k l z)
  ]

  -- an offer of at most h is h, since the cell would have a lower one
  pub exactly : Offer c f size n h t p i j → Gives c f size n t p i j h
  exactly o = elim (dec_lt o.value h) as (λ _. Gives c f size n t p i j h) [
    | yes l ↦ absurd (omega (arith, run.height, run.capped.closed p i j o.value pl o.gives l))
    | no l ↦ (let e : o.value ≡ h = omega (arith, o.low) in subst (λ (v : ℕ). Gives c f size n t p i j v) e o.gives)
  ]

  pub stored : Offer c f size n h t p i j → Steps c f size n (Only i j) t u
  stored o = step p i j h stay (refl, refl) pl.inside pl.order pl.stop (exactly o) less

  pub still : Running c f size n h u
  still = record {
    height = run.height;
    capped = record {
      most = λ q k l w. omega (arith, lower (cell_at n q k l), run.capped.most q k l w);
      low = λ q k l w b. elim (ℕ_discrete (cell_at n q k l) x) as (λ _. cell_of n u q k l < h + 1) [
        | yes e ↦ omega (arith, taken, ap (λ (z : ℕ). get_or u z 0) e)
        | no e ↦ (let o = get_or-set_other t x (cell_at n q k l) h 0 e in omega (arith, o, run.capped.low q k l w (omega (arith, o))))
      ];
      closed = λ q k l v w g b. omega (arith, lower (cell_at n q k l), run.capped.closed q k l v w (gives_back c f size n h t u below q k l v run.height g b) b);
    };
  }

  -- what is done stays done, unless it looks at the cell of p
  module _ (q k l : ℕ) (hq : q < size) (a : k ≤ l) (b : l ≤ n) where
    gives-kept : ((next_kind c (q + 1) ≡ 0 → ⊥) → q + 1 ≡ p → ⊥) → (next_kind c q ≡ 0 → ⊥) → Gives c f size n u q k l h → Gives c f size n t q k l h
    gives-kept o d (by-terminal z w lm e) = by-terminal z w lm (e ∙ value-other (q + 1) (k + goes_at c q) l lm b o)
    gives-kept o d (by-split m z hm lm e) =
        by-split m z hm lm (split-back c f size n h t u below q k l m h e (omega arith) run.height (value-other (q + 1) m l lm b o))
    gives-kept o d (by-owned r hr z e) = absurd (d (sh.owner-ends r q hr z))

    pub dot-kept : ((next_kind c (q + 1) ≡ 0 → ⊥) → q + 1 ≡ p → ⊥) → ((next_kind c q ≡ 0 → ⊥) → Gives c f size n t q k l h → cell_of n t q k l ≤ h)
        → (next_kind c q ≡ 0 → ⊥) → Gives c f size n u q k l h → cell_of n u q k l ≤ h
    dot-kept o w d g = omega (arith, lower (cell_at n q k l), w d (gives-kept o d g))

    pub done-kept : ((next_kind c (q + 1) ≡ 0 → ⊥) → q + 1 ≡ p → ⊥) → ((next_kind c q ≡ 0 → ⊥) → q ≡ p → ⊥) → Done c f size n h t k l q → Done c f size n h u k l q
    done-kept o o' w = record {
      dot = dot-kept o w.dot;
      owner = λ e z v. omega (arith, lower (cell_at n e k l), w.owner e z (sym (value-other q k l a b o') ∙ v));
    }
