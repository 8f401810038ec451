-- The uses of each rule, linked from the last to the first.
use mathlib.Core.Path.{◌≡◌, refl, sym, subst, ◌∙◌}
use mathlib.Core.List.{List}
use Prim.Native.Nat.{ℕ, zero, suc, ◌+◌, ◌*◌, ◌<◌, ◌≤◌}
use native.Mathlib.Decide.{ℕ_discrete}
use native.Mathlib.Omega.{arith}
use lib.ListN.{length, get_or, set, replicate, length-set}
use lib.Seq.{get_or-set_same, get_or-set_other}
use Rattle.chart.specs.Code.{next_kind, rule_at}
use Rattle.chart.specs.Uses.{LastUse, Uses}

-- a fresh table
pub all-zero : (k x : ℕ) → get_or {A = ℕ} (replicate k 0) x 0 ≡ 0
all-zero zero x = refl
all-zero (suc k) zero = refl
all-zero (suc k) (suc x) = all-zero k x

module _ (c : List ℕ) where
  -- in the beginning
  uses-start : (size : ℕ) (U : List ℕ) → ((x : ℕ) → get_or U x 0 ≡ 0) → Uses c size 0 U
  uses-start size U z = record {
    last = λ e h. let w = z (2 * e) in record { below = omega arith; last = λ q a b. absurd (omega arith); is = λ u k. absurd (omega arith) };
    next = λ u h. absurd (omega arith);
  }

  -- p is no use of e
  last-other : {e p x : ℕ} → (next_kind c p ≡ 2 → rule_at c p ≡ e → ⊥) → LastUse c e p x → LastUse c e (p + 1) x
  last-other {e} {p} {x} o a = record {
    below = omega (arith, a.below);
    last = λ q h l k r. elim (ℕ_discrete q p) as (λ _. ⊥) [
      | yes w ↦ o (subst (λ (z : ℕ). next_kind c z ≡ 2) w k) (subst (λ (z : ℕ). rule_at c z ≡ e) w r)
      | no w ↦ a.last q h (omega arith) k r
    ];
    is = a.is;
  }

  -- p is the last use
  last-this : (p : ℕ) → next_kind c p ≡ 2 → LastUse c (rule_at c p) (p + 1) (p + 1)
  last-this p k = record {
    below = omega arith;
    last = λ q h l. absurd (omega arith);
    is = λ u e. let w : p ≡ u = omega arith in subst (λ (z : ℕ). (next_kind c z ≡ 2) × (rule_at c z ≡ rule_at c p)) w (k, refl);
  }

  uses-other : (size p : ℕ) (U : List ℕ) → (next_kind c p ≡ 2 → ⊥) → Uses c size p U → Uses c size (p + 1) U
  uses-other size p U o a = record {
    last = λ e h. last-other (λ k r. o k) (a.last e h);
    next = λ u h k. elim (ℕ_discrete u p) as (λ _. LastUse c (rule_at c u) u (get_or U (2 * u + 1) 0)) [
      | yes w ↦ absurd (o (subst (λ (z : ℕ). next_kind c z ≡ 2) w k))
      | no w ↦ a.next u (omega arith) k
    ];
  }

  -- a use
  module _ (size p : ℕ) (U : List ℕ) (hp : p < size) (k : next_kind c p ≡ 2) (hr : rule_at c p < size) (room : 2 * size ≤ length U) where
    abbrev e : ℕ
    e = rule_at c p

    abbrev U₁ : List ℕ
    U₁ = set U (2 * p + 1) (get_or U (2 * e) 0)

    abbrev U₂ : List ℕ
    U₂ = set U₁ (2 * e) (p + 1)

    at-rule : get_or U₂ (2 * e) 0 ≡ p + 1
    at-rule = get_or-set_same U₁ (2 * e) (p + 1) 0 (omega (arith, length-set U (2 * p + 1) (get_or U (2 * e) 0)))

    at-use : get_or U₂ (2 * p + 1) 0 ≡ get_or U (2 * e) 0
    at-use = get_or-set_other U₁ (2 * e) (2 * p + 1) (p + 1) 0 (λ w. omega arith) ∙ get_or-set_same U (2 * p + 1) (get_or U (2 * e) 0) 0 (omega arith)

    at_other : (x : ℕ) → (x ≡ 2 * e → ⊥) → (x ≡ 2 * p + 1 → ⊥) → get_or U₂ x 0 ≡ get_or U x 0
    at_other x h l = get_or-set_other U₁ (2 * e) x (p + 1) 0 h ∙ get_or-set_other U (2 * p + 1) x (get_or U (2 * e) 0) 0 l

    uses-next : Uses c size p U → Uses c size (p + 1) U₂
    uses-next a = record {
      last = λ d h. elim (ℕ_discrete d e) as (λ _. LastUse c d (p + 1) (get_or U₂ (2 * d) 0)) [
        | yes w ↦ subst (λ (z : ℕ). LastUse c z (p + 1) (get_or U₂ (2 * z) 0)) (sym w) (subst (LastUse c e (p + 1)) (sym at-rule) (last-this p k))
        | no w ↦ subst (LastUse c d (p + 1)) (sym (at_other (2 * d) (λ z. omega arith) (λ z. omega arith))) (last-other (λ _ r. w (sym r)) (a.last d h))
      ];
      next = λ u h q. elim (ℕ_discrete u p) as (λ _. LastUse c (rule_at c u) u (get_or U₂ (2 * u + 1) 0)) [
        | yes w ↦ subst (λ (z : ℕ). LastUse c (rule_at c z) z (get_or U₂ (2 * z + 1) 0)) (sym w) (subst (LastUse c e p) (sym at-use) (a.last e hr))
        | no w ↦ subst (LastUse c (rule_at c u) u) (sym (at_other (2 * u + 1) (λ z. omega arith) (λ z. omega arith))) (a.next u (omega arith) q)
      ];
    }

  -- the same with the table's length, which stays
  abbrev pub Listed : ℕ → List ℕ → ℕ → List ℕ → Type 0
  Listed size U₀ p U = (p ≤ size) × (length U ≡ length U₀) × Uses c size p U

  module _ (size : ℕ) (U₀ : List ℕ) where
    pub listed_start : ((x : ℕ) → get_or U₀ x 0 ≡ 0) → Listed size U₀ 0 U₀
    listed_start z = (omega arith, refl, uses-start size U₀ z)

    module _ (p : ℕ) (U : List ℕ) (h : p < size) (a : Listed size U₀ p U) where
      pub listed-other : (next_kind c p ≡ 2 → ⊥) → Listed size U₀ (p + 1) U
      listed-other o = (omega arith, a.1, uses-other size p U o a.2)

      pub listed_next : next_kind c p ≡ 2 → rule_at c p < size → 2 * size ≤ length U₀ → Listed size U₀ (p + 1) (set (set U (2 * p + 1) (get_or U (2 * rule_at c p) 0)) (2 * rule_at c p) (p + 1))
      listed_next k r room = (
        omega arith,
        length-set (set U (2 * p + 1) (get_or U (2 * rule_at c p) 0)) (2 * rule_at c p) (p + 1) ∙ length-set U (2 * p + 1) (get_or U (2 * rule_at c p) 0) ∙ a.1,
        uses-next size p U h k r (omega (arith, a.1)) a.2,
      )
