-- A fixed point has the least heights. A height is given by rules with lower ones, or by a dot further on with the same: so each has a row.
use mathlib.Core.Path.{◌≡◌, refl, sym, subst}
use mathlib.Core.List.{List}
use Prim.Native.Nat.{ℕ, zero, suc, ◌+◌, ◌-◌, ◌*◌, ◌<◌, ◌≤◌}
use native.Mathlib.Nat.{mul-le-mul_right, suc-mul}
use native.Mathlib.Decide.{dec_lt}
use native.Mathlib.Omega.{arith}
use lib.ListN.{length}
use Rattle.text.specs.Lists.{Text}
use Rattle.tree.specs.Tree.{Grammar}
use Rattle.derive.proofs.Levels.{Low}
use Rattle.chart.specs.Code.{next_kind, goes_at, rule_at, owner_at, after_dot, Coded}
use Rattle.chart.specs.Heights.{stretches, none, Heights}
use Rattle.heights.specs.Table.{cell_of, value_of, split_of, Place, Shape}
use Rattle.heights.specs.Filling.{Gives, by-terminal, by-split, by-owned, Closed, Before}
use Rattle.heights.proofs.Cells.{next_place, rule-place, owner-place}
use Rattle.heights.proofs.Values.{Value, value-is, up_is, up-low, up_none}
use Rattle.heights.proofs.Exact.{shape, SoundAt, Sound, shift_by, split_by, owned_by, value-by, heights-of}
use Rattle.fixpoint.specs.Fixed.{Fixpoint}

module _ (c f : List ℕ) (g : Grammar) (r : Text) (size top first : ℕ) (k : Coded c f g r size top first) (t : List ℕ) (fix : Fixpoint c f size (length r) t) where
  abbrev n : ℕ
  n = length r

  sh : Shape c size n (size * stretches n)
  sh = shape c f g r size top first k (size * stretches n) (omega arith)

  -- heights and dots before m have rows; a rule of the height comes after its dots
  abbrev Dots : ℕ → Type 0
  Dots m = (p i j : ℕ) → Place size n p i j → (next_kind c p ≡ 0 → ⊥) → cell_of n t p i j < none → cell_of n t p i j * (size + 2) + (size - p) < m
      → Low g r (cell_of n t p i j) (after_dot k.dots p) i j

  value-has : (m : ℕ) → Dots m → (q i j v : ℕ) → Place size n q i j → v ≡ value_of c t n q i j → v < none → v * (size + 2) + (size - q) < m → Low g r v (after_dot k.dots q) i j
  value-has m d q i j v h e l b =
      value-by c f g r size top first k t q i j v h.inside (subst (Value c t n q i j) (sym e) (value-is c t n q i j)) l
      (λ z w. subst (λ (x : ℕ). Low g r x (after_dot k.dots q) i j) (sym w) (d q i j h z (omega arith) (subst (λ (x : ℕ). x * (size + 2) + (size - q) < m) w b)))

  -- a rule, by the dots of its height
  rule-has : (m : ℕ) → Dots m → (e i j : ℕ) → Place size n e i j → next_kind c e ≡ 0 → cell_of n t e i j < none → cell_of n t e i j * (size + 2) + size < m
      → SoundAt c f g r size top first k e i j (cell_of n t e i j)
  rule-has m d e i j h z l b = by ((fix e i j h).given l)
    where
      by : Gives c f size n t e i j (cell_of n t e i j) → SoundAt c f g r size top first k e i j (cell_of n t e i j)
      by (by-terminal y _ _ _) = absurd (omega arith)
      by (by-split _ y _ _ _) = absurd (omega arith)
      by (by-owned q hq o w) =
          let u = value-has m d q i j (cell_of n t e i j) (record { inside = hq; order = h.order; stop = h.stop }) w l (omega arith) in
          record { dot = λ y. absurd (y z); rule = λ _. owned_by c f g r size top first k q e i j (cell_of n t e i j) hq o u }

  lower-rows : (a v : ℕ) → a + 1 ≤ v → a * (size + 2) + size + 2 ≤ v * (size + 2)
  lower-rows a v l = omega (arith, mul-le-mul_right (size + 2) l, suc-mul a (size + 2))

  dot-has : (m : ℕ) → Dots m → (p i j : ℕ) → Place size n p i j → (next_kind c p ≡ 0 → ⊥) → cell_of n t p i j < none → cell_of n t p i j * (size + 2) + (size - p) < suc m
      → Low g r (cell_of n t p i j) (after_dot k.dots p) i j
  dot-has m d p i j h z l b = by ((fix p i j h).given l)
    where
      by : Gives c f size n t p i j (cell_of n t p i j) → Low g r (cell_of n t p i j) (after_dot k.dots p) i j
      by (by-terminal y w s e) =
          let x = next_place sh h (i + goes_at c p) z (omega arith) s in
          let u = value-has m d (p + 1) (i + goes_at c p) j (cell_of n t p i j) x e l (omega (arith, h.inside, x.inside)) in
          shift_by c f g r size top first k p i j (cell_of n t p i j) h y w u (k.stands p h.inside)
      by (by-split o y ho lo e) =
          let v = cell_of n t p i j in
          let a = cell_of n t (rule_at c p) i o in
          let w = value_of c t n (p + 1) o j in
          let la = up-low a (omega arith) in
          let ua = up_is a la in
          let x = next_place sh h o z ho lo in
          let y' = rule-place sh h o y ho lo in
          let one = (rule-has m d (rule_at c p) i o y' (sh.rule-ends p h.inside y) la (omega (arith, lower-rows a v (omega arith)))).rule (sh.rule-ends p h.inside y) in
          let lw : w ≤ v = omega arith in
          let u = value-has m d (p + 1) o j w x refl (omega arith) (omega (arith, mul-le-mul_right (size + 2) lw, h.inside, x.inside)) in
          split_by c f g r size top first k p i j o a w v y one u (omega arith) lw (k.stands p h.inside)
      by (by-owned q hq o _) = absurd (z (sh.owner-ends q p hq o))

  dots-have : (m : ℕ) → Dots m
  dots-have zero p i j h z l b = absurd (omega arith)
  dots-have (suc m) p i j h z l b = dot-has m (dots-have m) p i j h z l b

  sound : Sound c f g r size top first k t
  sound p i j h l = record {
    dot = λ z. dots-have (suc (cell_of n t p i j * (size + 2) + (size - p))) p i j h z l (omega arith);
    rule = λ z. (rule-has (suc (cell_of n t p i j * (size + 2) + size)) (dots-have _) p i j h z l (omega arith)).rule z;
  }

  closed_at : (i j : ℕ) → i ≤ j → j ≤ n → Closed c f size n t i j
  closed_at i j hi hj = record {
    terminal = λ p hp z w l b. (fix p i j (record { inside = hp; order = hi; stop = hj })).least (value_of c t n (p + 1) (i + goes_at c p) j) (by-terminal z w l refl) b;
    split = λ p m hp z hm lm b. splits p m (record { inside = hp; order = hi; stop = hj }) z hm lm b;
    owner = λ p e hp o. owners p e (record { inside = hp; order = hi; stop = hj }) o;
  }
    where
      splits : (p m : ℕ) → Place size n p i j → next_kind c p ≡ 2 → i ≤ m → m ≤ j → value_of c t n (p + 1) m j < none → cell_of n t p i j ≤ split_of c t n p i j m
      splits p m h z hm lm b =
          let a = cell_of n t (rule_at c p) i m in
          let y = fix (rule_at c p) i m (rule-place sh h m z hm lm) in
          elim (dec_lt a none) as (λ _. cell_of n t p i j ≤ split_of c t n p i j m) [
            | yes l ↦ (fix p i j h).least (split_of c t n p i j m) (by-split m z hm lm refl) (omega (arith, up_is a l, y.small l))
            | no l ↦ omega (arith, up_none a (omega arith), (fix p i j h).most)
          ]

      owners : (p e : ℕ) → Place size n p i j → owner_at c p ≡ e + 1 → cell_of n t e i j ≤ value_of c t n p i j
      owners p e h o =
          let y = fix e i j (owner-place sh h e o) in
          elim (dec_lt (value_of c t n p i j) none) as (λ _. cell_of n t e i j ≤ value_of c t n p i j) [
            | yes l ↦ y.least (value_of c t n p i j) (by-owned p h.inside o refl) l
            | no l ↦ omega (arith, y.most)
          ]

  all_closed : Before c f size n (n + 1) t
  all_closed i j h l = closed_at i j h (omega arith)

  small : (p i j : ℕ) → Place size n p i j → cell_of n t p i j < none → cell_of n t p i j + 1 < none
  small p i j h = (fix p i j h).small

  pub fixed-heights : size * stretches n ≤ length t → Heights c f g r size top first k t
  fixed-heights = heights-of c f g r size top first k t sound (λ p i j h. (fix p i j h).most) all_closed small
