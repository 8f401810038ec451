-- Stretches one after another, up to a whole sweep.
use mathlib.Core.Bool.{Bool, false, ◌||◌}
use mathlib.Core.Path.{◌≡◌, sym, subst, ◌∙◌}
use mathlib.Core.List.{List}
use Prim.Native.Nat.{ℕ, ◌+◌, ◌-◌, ◌<◌, ◌≤◌}
use native.Mathlib.Decide.{dec_lt, ℕ_discrete}
use native.Mathlib.Omega.{arith}
use Rattle.chart.specs.Code.{goes_at}
use Rattle.chart.specs.Heights.{none}
use Rattle.heights.specs.Table.{cell_of, Place}
use Rattle.heights.specs.Filling.{Gives, by-terminal, by-split, by-owned, Steps, stay, Only, EndsAt, Any}
use Rattle.heights.proofs.Lowering.{steps-widen, steps-same, value_same, split-same}
use Rattle.sweeps.specs.Layers.{Upto, Running, Done, DoneAll, Passed, Visited, Swept}
use Rattle.sweeps.proofs.Visits.{adds-stay, passed-join}

module _ (c f : List ℕ) (size n h : ℕ) where
  -- a stretch stays done while stretches that are no part of it change
  module _ {A : ℕ → ℕ → Type 0} {t u : List ℕ} (s : Steps c f size n A t u) (i j : ℕ) (hi : i ≤ j) (hj : j ≤ n) (o : (k l : ℕ) → i ≤ k → l ≤ j → A k l → ⊥) where
    gives_same : (p : ℕ) → Gives c f size n u p i j h → Gives c f size n t p i j h
    gives_same p (by-terminal k w l e) = by-terminal k w l (e ∙ value_same c f size n s (p + 1) (i + goes_at c p) j l hj (o (i + goes_at c p) j (omega arith) (omega arith)))
    gives_same p (by-split m k hm lm e) = by-split m k hm lm (e ∙ split-same c f size n s p i j m hm lm hj (o i m (omega arith) lm) (o m j hm (omega arith)))
    gives_same p (by-owned q hq z e) = by-owned q hq z (e ∙ value_same c f size n s q i j hi hj (o i j (omega arith) (omega arith)))

    cell_same : (p : ℕ) → cell_of n u p i j ≡ cell_of n t p i j
    cell_same p = steps-same c f size n s p i j hi hj (o i j (omega arith) (omega arith))

    all-kept : DoneAll c f size n h t i j → DoneAll c f size n h u i j
    all-kept a p hp = record {
      dot = λ d g. omega (arith, cell_same p, (a p hp).dot d (gives_same p g));
      owner = λ e z v. omega (arith, cell_same e, (a p hp).owner e z (sym (value_same c f size n s p i j hi hj (o i j (omega arith) (omega arith))) ∙ v));
    }

  passed-widen : {A B : ℕ → ℕ → Type 0} {P : List ℕ → Type 0} {t u : List ℕ} {r : Bool} → ((i j : ℕ) → A i j → B i j) → Passed c f size n h A P t r u → Passed c f size n h B P t r u
  passed-widen w a = record { steps = steps-widen c f size n w a.steps; running = a.running; done = a.done; adds = a.adds }

  passed-stay : {A : ℕ → ℕ → Type 0} {P : List ℕ → Type 0} {t : List ℕ} → Running c f size n h t → P t → Passed c f size n h A P t false t
  passed-stay {t = t} run d = record { steps = stay; running = run; done = d; adds = adds-stay c size n t }

  -- the positions of a stretch from p on
  abbrev pub FromDot : ℕ → ℕ → ℕ → List ℕ → Type 0
  FromDot i j p t = (q : ℕ) → p ≤ q → q < size → Done c f size n h t i j q

  pub dots-start : {t : List ℕ} (i j : ℕ) → Running c f size n h t → Passed c f size n h (Only i j) (FromDot i j size) t false t
  dots-start i j run = passed-stay run (λ q a b. absurd (omega arith))

  pub dots-next : {t u w : List ℕ} {r s : Bool} (i j p : ℕ) → 0 < p → Passed c f size n h (Only i j) (FromDot i j p) t r u
      → Passed c f size n h (Only i j) (Visited c f size n h i j (p - 1) u) u s w → Passed c f size n h (Only i j) (FromDot i j (p - 1)) t (r || s) w
  dots-next {w = w} i j p hp a b = passed-join a b (λ x y q l m. elim (ℕ_discrete (p - 1) q) as (λ _. Done c f size n h w i j q) [
    | yes e ↦ subst (Done c f size n h w i j) e y.here
    | no e ↦ y.kept q (omega arith) m (x q (omega arith) m)
  ])

  passed-as : {A : ℕ → ℕ → Type 0} {P Q : List ℕ → Type 0} {t u : List ℕ} {r : Bool} → Passed c f size n h A P t r u → (P u → Q u) → Passed c f size n h A Q t r u
  passed-as a d = record { steps = a.steps; running = a.running; done = d a.done; adds = a.adds }

  pub dots-all : {t u : List ℕ} {r : Bool} (i j p : ℕ) → p ≡ 0 → Passed c f size n h (Only i j) (FromDot i j p) t r u
      → Passed c f size n h (Only i j) (λ w. DoneAll c f size n h w i j) t r u
  dots-all i j p e a = passed-as a (λ x q m. x q (omega arith) m)

  -- the stretches that end at j, from i on
  abbrev pub FromStart : ℕ → ℕ → List ℕ → Type 0
  FromStart j i t = (k : ℕ) → i ≤ k → k ≤ j → DoneAll c f size n h t k j

  pub starts-start : {t : List ℕ} (j : ℕ) → Running c f size n h t → Passed c f size n h (EndsAt j) (FromStart j (j + 1)) t false t
  starts-start j run = passed-stay run (λ k a b. absurd (omega arith))

  pub starts-next : {t u w : List ℕ} {r s : Bool} (j i : ℕ) → 0 < i → j ≤ n → Passed c f size n h (EndsAt j) (FromStart j i) t r u
      → Passed c f size n h (Only (i - 1) j) (λ x. DoneAll c f size n h x (i - 1) j) u s w → Passed c f size n h (EndsAt j) (FromStart j (i - 1)) t (r || s) w
  starts-next {w = w} j i hi hj a b = passed-join a (passed-widen (λ k l e. e.1) b) (λ x y k l m. elim (ℕ_discrete (i - 1) k) as (λ _. DoneAll c f size n h w k j) [
    | yes e ↦ subst (λ (z : ℕ). DoneAll c f size n h w z j) e y
    | no e ↦ all-kept b.steps k j m hj (λ k' l' a' b' e'. omega (arith, e'.0)) (x k (omega arith) m)
  ])

  pub starts-all : {t u : List ℕ} {r : Bool} (j i : ℕ) → i ≡ 0 → Passed c f size n h (EndsAt j) (FromStart j i) t r u
      → Passed c f size n h (EndsAt j) (FromStart j 0) t r u
  starts-all j i e a = passed-as a (λ x k l m. x k (omega arith) m)

  -- the stretches that end before j
  abbrev pub BeforeEnd : ℕ → List ℕ → Type 0
  BeforeEnd j t = (k l : ℕ) → k ≤ l → l < j → DoneAll c f size n h t k l

  pub ends-start : {t : List ℕ} → Running c f size n h t → Passed c f size n h Any (BeforeEnd 0) t false t
  ends-start run = passed-stay run (λ k l a b. absurd (omega arith))

  pub ends_next : {t u w : List ℕ} {r s : Bool} (j : ℕ) → j ≤ n → Passed c f size n h Any (BeforeEnd j) t r u
      → Passed c f size n h (EndsAt j) (FromStart j 0) u s w → Passed c f size n h Any (BeforeEnd (j + 1)) t (r || s) w
  ends_next {w = w} j hj a b = passed-join a (passed-widen (λ k l e. tt) b) (λ x y k l m m'. elim (ℕ_discrete l j) as (λ _. DoneAll c f size n h w k l) [
    | yes e ↦ subst (λ (z : ℕ). DoneAll c f size n h w k z) (sym e) (y k (omega arith) (omega arith))
    | no e ↦ all-kept b.steps k l m (omega arith) (λ k' l' a' b' e'. omega arith) (x k l m (omega arith))
  ])

  -- a whole sweep
  pub begun : {t : List ℕ} → h < none → Upto c f size n h t → Running c f size n h t
  begun l a = record { height = l; capped = record { most = a.most; low = λ p i j w b. omega (arith, a.low p i j w b); closed = a.closed } }

  at-height : {t : List ℕ} → BeforeEnd (n + 1) t → (p i j : ℕ) → Place size n p i j → Gives c f size n t p i j h → cell_of n t p i j ≤ h
  at-height d p i j w (by-terminal k a b e) = (d i j w.order (omega (arith, w.stop)) p w.inside).dot (λ z. omega arith) (by-terminal k a b e)
  at-height d p i j w (by-split m k a b e) = (d i j w.order (omega (arith, w.stop)) p w.inside).dot (λ z. omega arith) (by-split m k a b e)
  at-height d p i j w (by-owned q hq o e) = (d i j w.order (omega (arith, w.stop)) q hq).owner p o (sym e)

  swept : {t u : List ℕ} {r : Bool} → Passed c f size n h Any (BeforeEnd (n + 1)) t r u → Swept c f size n h t r u
  swept {u = u} a = record {
    steps = a.steps;
    adds = a.adds;
    upto = record {
      most = a.running.capped.most;
      low = a.running.capped.low;
      closed = λ p i j v w g b. elim (dec_lt v h) as (λ _. cell_of n u p i j ≤ v) [
        | yes l ↦ a.running.capped.closed p i j v w g l
        | no l ↦ (let e : v ≡ h = omega arith in omega (arith, at-height a.done p i j w (subst (Gives c f size n u p i j) e g)))
      ];
    };
  }

  pub swept-by : {t u : List ℕ} {r : Bool} (j : ℕ) → j ≡ n + 1 → Passed c f size n h Any (BeforeEnd j) t r u → Swept c f size n h t r u
  swept-by j e a = swept (passed-as a (λ x k l m b. x k l m (omega arith)))
