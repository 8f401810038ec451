-- Sweeps from a clear table, until one adds no rule.
use mathlib.Core.Bool.{Bool, true, false}
use mathlib.Core.Path.{◌≡◌, refl, subst}
use mathlib.Core.List.{List}
use Prim.Native.Nat.{ℕ, suc, ◌+◌, ◌-◌, ◌*◌, ◌<◌, ◌≤◌}
use native.Mathlib.Decide.{dec_lt}
use native.Mathlib.Omega.{arith}
use Rattle.chart.specs.Code.{next_kind, goes_at, rule_at, owner_at}
use Rattle.chart.specs.Heights.{cell_at, stretches, none, Clear}
use Rattle.heights.specs.Table.{cell_of, value_of, split_of, Shape, Place}
use Rattle.heights.specs.Filling.{by-terminal, by-split, by-owned, Steps, stay, Any, Closed, Before, Settled}
use Rattle.heights.proofs.Cells.{in-room, next_place, rule-place, owner-place}
use Rattle.heights.proofs.Lowering.{steps-join, steps-le}
use Rattle.heights.proofs.Small.{count, count-le, count-more}
use Rattle.heights.proofs.Values.{Value, v-end, v-none, v-cell, value-is, up_is, up_none}
use Rattle.chart.proofs.Cells.{rows-small}
use Rattle.sweeps.specs.Layers.{Upto, Adds, added, same, Swept}

module _ (c f : List ℕ) (size n len : ℕ) (sh : Shape c size n len) where
  in_cells : {p i j : ℕ} → Place size n p i j → cell_at n p i j < size * stretches n
  in_cells = in-room (record { few = sh.cells.few; short = sh.cells.short; room = omega arith })

  -- before the first sweep
  pub clear-upto : {t : List ℕ} → Clear (size * stretches n) t → Upto c f size n 0 t
  clear-upto z = record {
    most = λ p i j w. omega (arith, z (cell_at n p i j) (in_cells w));
    low = λ p i j w l. absurd (omega (arith, z (cell_at n p i j) (in_cells w)));
    closed = λ p i j v w g l. absurd (omega arith);
  }

  -- a sweep that adds no rule leaves nothing to lower
  module _ (h : ℕ) {t u : List ℕ} (before : Upto c f size n h t) (after : Upto c f size n (h + 1) u)
      (kept : (e i j : ℕ) → Place size n e i j → next_kind c e ≡ 0 → cell_of n u e i j ≡ cell_of n t e i j) where
    value-by : (q i j v : ℕ) → Place size n q i j → Value c u n q i j v → v < none → v < h + 1
    value-by q i j v w (v-end k e z) l = omega arith
    value-by q i j v w (v-none z) l = absurd (omega arith)
    value-by q i j v w (v-cell k z) l = omega (arith, after.low q i j w (omega arith))

    value_low : (q i j : ℕ) → Place size n q i j → value_of c u n q i j < none → value_of c u n q i j < h + 1
    value_low q i j w l = value-by q i j (value_of c u n q i j) w (value-is c u n q i j) l

    closed-split : (p i j m : ℕ) → Place size n p i j → next_kind c p ≡ 2 → i ≤ m → m ≤ j → value_of c u n (p + 1) m j < none → cell_of n u p i j ≤ split_of c u n p i j m
    closed-split p i j m w k hm lm l =
        let e = rule_at c p in
        let we = rule-place sh w m k hm lm in
        let a = cell_of n u e i m in
        elim (dec_lt a none) as (λ _. cell_of n u p i j ≤ split_of c u n p i j m) [
          | no z ↦ omega (arith, up_none a (omega arith), after.most p i j w)
          | yes z ↦ (let o = kept e i m we (sh.rule-ends p w.inside k) in
              let s = before.low e i m we (omega arith) in
              after.closed p i j (split_of c u n p i j m) w (by-split m k hm lm refl)
              (omega (arith, up_is a z, value_low (p + 1) m j (next_place sh w m (λ q. omega arith) hm lm) l)))
        ]

    closed-owner : (p e i j : ℕ) → Place size n p i j → owner_at c p ≡ e + 1 → cell_of n u e i j ≤ value_of c u n p i j
    closed-owner p e i j w o =
        let we = owner-place sh w e o in
        elim (dec_lt (value_of c u n p i j) none) as (λ _. cell_of n u e i j ≤ value_of c u n p i j) [
          | yes z ↦ after.closed e i j (value_of c u n p i j) we (by-owned p w.inside o refl) (value_low p i j w z)
          | no z ↦ omega (arith, after.most e i j we)
        ]

    pub closed_at : (i j : ℕ) → i ≤ j → j ≤ n → Closed c f size n u i j
    closed_at i j hi hj = record {
      terminal = λ p hp k g l b. (let w : Place size n p i j = record { inside = hp; order = hi; stop = hj } in
          let q : i ≤ i + goes_at c p = omega arith in
          after.closed p i j (value_of c u n (p + 1) (i + goes_at c p) j) w (by-terminal k g l refl)
          (value_low (p + 1) (i + goes_at c p) j (next_place sh w (i + goes_at c p) (λ z. omega arith) q l) b));
      split = λ p m hp k hm lm b. closed-split p i j m (record { inside = hp; order = hi; stop = hj }) k hm lm b;
      owner = λ p e hp o. closed-owner p e i j (record { inside = hp; order = hi; stop = hj }) o;
    }

  -- after the sweeps of the heights below h, each of which added a rule
  pub record Rising (h : ℕ) (t₀ t : List ℕ) : Type 0 where
    pub steps : Steps c f size n Any t₀ t
    pub upto : Upto c f size n h t
    pub count-up : h ≤ count t (size * stretches n)

  pub rising-start : {t : List ℕ} → Clear (size * stretches n) t → Rising 0 t t
  rising-start z = record { steps = stay; upto = clear-upto z; count-up = omega arith }

  pub below_none : {h : ℕ} {t₀ t : List ℕ} → Rising h t₀ t → h + 1 < none
  below_none {t = t} a = omega (arith, a.count-up, count-le t (size * stretches n), rows-small size n sh.cells.few sh.cells.short)

  module _ {h : ℕ} {t₀ t u : List ℕ} (a : Rising h t₀ t) {r : Bool} (s : Swept c f size n h t r u) where
    -- a sweep that adds a rule has more cells with a height
    more : Adds c size n t u true → suc (count t (size * stretches n)) ≤ count u (size * stretches n)
    more (added e i j w k l b) = count-more t u (steps-le c f size n s.steps) (cell_at n e i j) (size * stretches n) (in_cells w) l b

    pub more-cells : r ≡ true → count t (size * stretches n) < count u (size * stretches n)
    more-cells e = more (subst (Adds c size n t u) e s.adds)

    pub rising-next : r ≡ true → Rising (h + 1) t₀ u
    rising-next e = record { steps = steps-join c f size n a.steps s.steps; upto = s.upto; count-up = omega (arith, a.count-up, more-cells e) }

    whole : Adds c size n t u false → (k l : ℕ) → k ≤ l → l ≤ n → Closed c f size n u k l
    whole (same g) k l w b = closed_at h a.upto s.upto g k l w b

    pub settled : r ≡ false → Settled c f size n Any (Before c f size n (n + 1)) t₀ u
    settled e = record { steps = steps-join c f size n a.steps s.steps; closed = λ k l w b. whole (subst (Adds c size n t u) e s.adds) k l w (omega arith) }

  -- how many cells are left
  pub fewer : (t u : List ℕ) → count t (size * stretches n) < count u (size * stretches n) → size * stretches n - count u (size * stretches n) < size * stretches n - count t (size * stretches n)
  fewer t u l = omega (arith, count-le u (size * stretches n))
