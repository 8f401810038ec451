-- Whether the table offers a dot a value of at most the height of the sweep.
use mathlib.Core.Bool.{Bool, true, false}
use mathlib.Core.Path.{◌≡◌, refl, sym, ap}
use mathlib.Core.List.{List}
use Prim.Native.Nat.{ℕ, ◌+◌, ◌<◌, ◌≤◌}
use native.Mathlib.Decide.{dec_lt, ℕ_discrete}
use native.Mathlib.Omega.{arith}
use lib.Dec.{leb, ltb}
use lib.ListN.{get_or}
use borrow.Author.Tests.{leb-true, leb-false, ltb-true, ltb-false}
use Rattle.chart.specs.Code.{next_kind, goes_at, rule_at, fits_at}
use Rattle.chart.specs.Heights.{cell_at, none}
use Rattle.heights.specs.Table.{cell_of, value_of, split_of, Shape}
use Rattle.heights.specs.Filling.{Gives, by-terminal, by-split, by-owned}
use Rattle.heights.proofs.Values.{up_is, up_none}
use Rattle.sweeps.specs.Layers.{Low, Offer, Offered}

never : {P : Type 0} → true ≡ false → P
never e = absurd (let z : ◌≡◌ {A = ℕ} 0 1 = cc in omega arith)

-- a split by its two tests
pub rest-above : (c t : List ℕ) (n p i j m h v : ℕ) → v ≡ value_of c t n (p + 1) m j → h < v → Low h (split_of c t n p i j m) false
rest-above c t n p i j m h v e l = record { yes = λ r. never (sym r); no = λ _ _. omega arith }

module _ (c t : List ℕ) (n p i j m h v x : ℕ) (rest : v ≡ value_of c t n (p + 1) m j) (low : v ≤ h) (at : x ≡ cell_at n (rule_at c p) i m) where
  rule-is : get_or t x 0 ≡ cell_of n t (rule_at c p) i m
  rule-is = ap (λ (z : ℕ). get_or t z 0) at

  rule-above : h < none → h ≤ get_or t x 0 → h < split_of c t n p i j m
  rule-above z l = let a = cell_of n t (rule_at c p) i m in elim (dec_lt a none) as (λ _. h < split_of c t n p i j m) [
    | yes k ↦ omega (arith, rule-is, up_is a k)
    | no k ↦ omega (arith, up_none a (omega arith))
  ]

  rule-below : h ≤ none → get_or t x 0 < h → split_of c t n p i j m ≤ h
  rule-below b l = omega (arith, rule-is, up_is (cell_of n t (rule_at c p) i m) (omega (arith, rule-is)))

  pub split-tested : h ≤ none → Low h (split_of c t n p i j m) (ltb (get_or t x 0) h)
  split-tested b = record { yes = λ r. rule-below b (ltb-true (get_or t x 0) h r); no = λ z r. rule-above z (ltb-false (get_or t x 0) h r) }

module _ (c f : List ℕ) (size n h len : ℕ) (sh : Shape c size n len) (t : List ℕ) (p i j : ℕ) where
  -- at a symbol
  module _ (k : next_kind c p ≡ 2) where
    pub symbol-yes : (m : ℕ) (r : Bool) → i ≤ m → m ≤ j → Low h (split_of c t n p i j m) r → r ≡ true → Offered c f size n h t p i j true
    symbol-yes m r a b w e = record {
      yes = λ _. (λ z. omega arith, record { value = split_of c t n p i j m; gives = by-split m k a b refl; low = w.yes e });
      no = λ _ e'. never e';
    }

    pub symbol-no : ((m : ℕ) → i ≤ m → m ≤ j → h < none → h < split_of c t n p i j m) → Offered c f size n h t p i j false
    symbol-no w = record { yes = λ e. never (sym e); no = λ z _ d o. missed z d o.value o.low o.gives }
      where
        missed : h < none → (next_kind c p ≡ 0 → ⊥) → (v : ℕ) → v ≤ h → Gives c f size n t p i j v → ⊥
        missed z d v l (by-terminal k' _ _ _) = omega arith
        missed z d v l (by-split m _ a b e) = omega (arith, w m a b z)
        missed z d v l (by-owned q hq o e) = d (sh.owner-ends q p hq o)

  -- at a terminal
  module _ (k : next_kind c p ≡ 1) where
    unless : (fits_at f p i ≡ 1 → i + goes_at c p ≤ j → value_of c t n (p + 1) (i + goes_at c p) j ≤ h → ⊥) → Offer c f size n h t p i j → (next_kind c p ≡ 0 → ⊥) → ⊥
    unless w o d = missed o.value o.low o.gives
      where
        missed : (v : ℕ) → v ≤ h → Gives c f size n t p i j v → ⊥
        missed v l (by-terminal _ a b e) = w a b (omega arith)
        missed v l (by-split m k' a b e) = omega arith
        missed v l (by-owned q hq o e) = d (sh.owner-ends q p hq o)

    pub terminal-no : (fits_at f p i ≡ 1 → i + goes_at c p ≤ j → ⊥) → Offered c f size n h t p i j false
    terminal-no w = record { yes = λ e. never (sym e); no = λ z _ d o. unless (λ a b l. w a b) o d }

    pub terminal-tested : (v : ℕ) → fits_at f p i ≡ 1 → i + goes_at c p ≤ j → v ≡ value_of c t n (p + 1) (i + goes_at c p) j → Offered c f size n h t p i j (leb v h)
    terminal-tested v a b e = record {
      yes = λ r. (λ z. omega arith, record { value = v; gives = by-terminal k a b e; low = leb-true v h r });
      no = λ z r d o. unless (λ _ _ l. omega (arith, leb-false v h r)) o d;
    }

  -- at an end
  pub end-no : (next_kind c p ≡ 1 → ⊥) → (next_kind c p ≡ 2 → ⊥) → Offered c f size n h t p i j false
  end-no a b = record { yes = λ e. never (sym e); no = λ z _ d o. missed d o.value o.gives }
    where
      missed : (next_kind c p ≡ 0 → ⊥) → (v : ℕ) → Gives c f size n t p i j v → ⊥
      missed d v (by-terminal k _ _ _) = a k
      missed d v (by-split m k _ _ _) = b k
      missed d v (by-owned q hq o e) = d (sh.owner-ends q p hq o)

-- one split more that is above
pub above-next : (c t : List ℕ) (n p i j h m : ℕ) → ((l : ℕ) → i ≤ l → l < m → h < none → h < split_of c t n p i j l) → (h < none → h < split_of c t n p i j m)
    → (l : ℕ) → i ≤ l → l < m + 1 → h < none → h < split_of c t n p i j l
above-next c t n p i j h m a b l hl ll z = elim (ℕ_discrete l m) as (λ _. h < split_of c t n p i j l) [
  | yes e ↦ rw e (b z)
  | no e ↦ a l hl (omega arith) z
]
