-- Tests and searches in the tables.
use mathlib.Core.Path.{◌≡◌, refl, sym, subst}
use mathlib.Core.Bool.{Bool, true, false, not}
use mathlib.Core.List.{List}
use Prim.Native.Nat.{ℕ, ◌+◌, ◌<◌, ◌≤◌}
use native.Mathlib.Decide.{dec_lt, ℕ_discrete}
use native.Mathlib.Omega.{arith}
use lib.Dec.{leb, eqb}
use borrow.Author.Tests.{leb-true, le-leb, not-true, eqb-false, ne_eqb}
use Rattle.chart.specs.Code.{next_kind}
use Rattle.candidates.specs.Candidates.{Tells, Ends, LowEnd, SomeEnd, FirstEnd, OtherEnd}

never : {P : Type 0} (b : Bool) → b ≡ true → b ≡ false → P
never b e f = absurd (let z : ◌≡◌ {A = ℕ} 0 1 = cc in omega arith)

pub tells-yes : {P : Type 0} → P → Tells true P
tells-yes p = record { holds = λ _. p; told = λ _. refl }

pub tells-no : {P : Type 0} → (P → ⊥) → Tells false P
tells-no f = record { holds = λ e. never true refl (sym e); told = λ p. absurd (f p) }

pub tells-le : {P : Type 0} (a b : ℕ) → (a ≤ b → P) → (P → a ≤ b) → Tells (leb a b) P
tells-le a b f h = record { holds = λ e. f (leb-true a b e); told = λ p. le-leb a b (h p) }

pub tells-ne : {P : Type 0} (a b : ℕ) → ((a ≡ b → ⊥) → P) → (P → a ≡ b → ⊥) → Tells (not (eqb a b)) P
tells-ne a b f h = record { holds = λ e. f (eqb-false a b (not-true (eqb a b) e)); told = λ p. subst (λ (x : Bool). not x ≡ true) (sym (ne_eqb a b (h p))) refl }

pub untold : {P : Type 0} {b : Bool} → Tells b P → b ≡ false → P → ⊥
untold {b = b} t e p = never b (t.told p) e

-- a search that has not found yet
pub record Unmet (P : ℕ → Type 0) (i m : ℕ) : Type 0 where
  pub order : i ≤ m
  pub none : (l : ℕ) → i ≤ l → l < m → P l → ⊥

module _ {P : ℕ → Type 0} where
  pub unmet : (i : ℕ) → Unmet P i i
  unmet i = record { order = omega arith; none = λ l a b. absurd (omega arith) }

  pub unmet-next : {i m : ℕ} → Unmet P i m → (P m → ⊥) → Unmet P i (m + 1)
  unmet-next {i} {m} u f = record {
    order = omega (arith, u.order);
    none = λ l a b. elim (ℕ_discrete l m) as (λ _. P l → ⊥) [ yes e ↦ subst (λ (x : ℕ). P x → ⊥) (sym e) f | no e ↦ u.none l a (omega arith) ];
  }

  -- places that are passed over have it not
  pub unmet-over : {i m e : ℕ} → Unmet P i m → m ≤ e → ((l : ℕ) → m ≤ l → l < e → P l → ⊥) → Unmet P i e
  unmet-over {i} {m} {e} u h f = record {
    order = omega (arith, u.order);
    none = λ l a b. elim (dec_lt l m) as (λ _. P l → ⊥) [ yes q ↦ u.none l a q | no q ↦ f l (omega arith) b ];
  }

  -- what is there lies ahead
  pub ahead : {i m : ℕ} → Unmet P i m → (l : ℕ) → i ≤ l → P l → m ≤ l
  ahead {i} {m} u l a p = elim (dec_lt l m) as (λ _. m ≤ l) [ yes q ↦ absurd (u.none l a q p) | no q ↦ omega arith ]

-- the end of an alternative
abbrev pub EndIs : List ℕ → ℕ → Type 0
EndIs c p = next_kind c p ≡ 0

pub end-ahead : {c : List ℕ} {q e p : ℕ} → Ends c q e → Unmet (EndIs c) q p → p ≤ e
end-ahead {e = e} E u = ahead u e E.order E.is

pub end-found : {c : List ℕ} {q e p : ℕ} → Ends c q e → Unmet (EndIs c) q p → next_kind c p ≡ 0 → Ends c q p
end-found E u z = record { order = u.order; inside = omega (arith, end-ahead E u, E.inside); is = z; before = u.none }

-- on an empty stretch a symbol has one end
pub only_end : {c M F H : List ℕ} {size n p i j k : ℕ} → SomeEnd c M F size n H p i j k → i ≡ j → FirstEnd c M F size n H p i j k i
only_end {c} {M} {F} {H} {size} {n} {p} {i} {j} {k} s e =
    let z : s.place ≡ i = omega (arith, s.after, s.before) in
    record { after = omega arith; before = omega arith; low = subst (LowEnd c M F size n H p i j k) z s.low; first = λ l a b. absurd (omega arith) }

pub no_other : {c M F H : List ℕ} {size n p i j m : ℕ} → i ≡ j → m ≡ i → OtherEnd c M F size n H p i j m → ⊥
no_other e f o = o.too.other (omega (arith, o.after, o.before))
