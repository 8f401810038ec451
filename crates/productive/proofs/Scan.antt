-- The last scan: whether a rule is missing.
use mathlib.Core.Bool.{true, false, not}
use mathlib.Core.List.{List}
use mathlib.Core.Logic.{inl, inr}
use mathlib.Core.Path.{◌≡◌, refl, sym, subst, ap, ◌∙◌}
use Prim.Native.Nat.{ℕ, ◌+◌, ◌-◌, ◌<◌, ◌≤◌}
use native.Mathlib.Decide.{ℕ_discrete}
use native.Mathlib.Omega.{arith}
use lib.ListN.{get_or}
use lib.Dec.{eqb, eqb→eq}
use borrow.Author.Tests.{eq-eqb}
use Rattle.text.proofs.Tests.{look, is_t, clash}
use Rattle.chart.specs.Code.{owner_at}
use Rattle.productive.specs.Made.{Shape}
use Rattle.productive.specs.State.{Done, Answer, Answers}

pub owner-below : {c : List ℕ} {size p : ℕ} → Shape c size → p < size → (owner_at c p ≡ 0 → ⊥) → owner_at c p - 1 < 512
owner-below {c} {p = p} s h n = omega (arith, s.small, s.owner p (owner_at c p - 1) h (omega arith))

module _ (c O : List ℕ) (p : ℕ) where
  pub answer-none : owner_at c p ≡ 0 → Answer c O p false
  answer-none o = record { some = λ e. absurd (clash refl e); every = λ _ e i. absurd (omega arith) }

  module _ (n : owner_at c p ≡ 0 → ⊥) where
    answer-some : (get_or O (owner_at c p - 1) 0 ≡ 0 → ⊥) → Answer c O p true
    answer-some d = record { some = λ _. record { rule = owner_at c p - 1; owner = omega arith; is = d }; every = λ e. absurd (clash e refl) }

    answer-found : get_or O (owner_at c p - 1) 0 ≡ 0 → Answer c O p false
    answer-found d = record {
      some = λ e. absurd (clash refl e);
      every = λ _ e i. subst (Done O) (let z : owner_at c p - 1 ≡ e = omega arith in z) d;
    }

    pub answer-of : Answer c O p (not (eqb (get_or O (owner_at c p - 1) 0) 0))
    answer-of = elim (look (eqb (get_or O (owner_at c p - 1) 0) 0)) as (λ _. Answer c O p (not (eqb (get_or O (owner_at c p - 1) 0) 0))) [
      | inl e ↦ rw e (answer-found (eqb→eq (get_or O (owner_at c p - 1) 0) 0 (is_t e)))
      | inr e ↦ rw e (answer-some (λ z. clash e (eq-eqb (get_or O (owner_at c p - 1) 0) 0 z)))
    ]

-- no rule of an alternative that begins before p is missing
abbrev pub Scanned : List ℕ → List ℕ → ℕ → Type 0
Scanned c O p = (q e : ℕ) → q < p → owner_at c q ≡ e + 1 → Done O e

pub scanned-next : {c O : List ℕ} (p : ℕ) → Scanned c O p → Answer c O p false → Scanned c O (p + 1)
scanned-next {c} {O} p s a q e l o = elim (ℕ_discrete q p) as (λ _. Done O e) [
  | yes z ↦ a.every refl e (ap (owner_at c) (sym z) ∙ o)
  | no z ↦ s q e (omega arith) o
]

pub scan-some : {c O : List ℕ} {size : ℕ} (p : ℕ) → p < size → Answer c O p true → Answers c size O true
scan-some p h a = record { some = λ _. (p, h, a.some refl); every = λ e. absurd (clash e refl) }

pub scan-every : {c O : List ℕ} {size p : ℕ} → Scanned c O p → size ≤ p → Answers c size O false
scan-every s h = record { some = λ e. absurd (clash refl e); every = λ _ q e l o. s q e (omega arith) o }
