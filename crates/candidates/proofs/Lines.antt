-- Rows of alternatives in the code: a first position has one, and it is no longer than a grammar's size.
use mathlib.Core.Path.{◌≡◌, refl, sym, ap, subst, ◌∙◌}
use mathlib.Core.List.{List, ◌∷◌}
use Prim.Native.Nat.{ℕ, zero, suc, ◌+◌, ◌<◌, ◌≤◌}
use native.Mathlib.Decide.{dec_lt}
use native.Mathlib.Omega.{arith}
use lib.ListN.{length, get_or, drop, length-drop}
use Rattle.chart.specs.Code.{goes_at}
use Rattle.splits.specs.Splits.{Position}
use Rattle.candidates.specs.Candidates.{Ends, Line, ln-last, ln-next}
use Rattle.candidates.proofs.Few.{few}

pub ends-one : {c : List ℕ} {q e d : ℕ} → Ends c q e → Ends c q d → e ≡ d
ends-one {e = e} {d = d} u v = elim (dec_lt e d) as (λ _. e ≡ d) [
  | yes h ↦ absurd (v.before e u.order h u.is)
  | no h ↦ (elim (dec_lt d e) as (λ _. e ≡ d) [ yes l ↦ absurd (u.before d v.order l v.is) | no l ↦ omega arith ])
]

-- what follows an alternative
goes_one : {c : List ℕ} {q e d : ℕ} → Ends c q e → Ends c q d → goes_at c e ≡ goes_at c d
goes_one {c} u v = ap (λ (z : ℕ). goes_at c z) (ends-one u v)

-- the alternative after that at a
pub record After (a : ℕ) (qs : List ℕ) (next : ℕ) : Type 0 where
  pub exists : a + 1 < length qs
  pub is : get_or qs (a + 1) 0 + 1 ≡ next

module _ {c : List ℕ} {size : ℕ} where
  pub line-one : {q : ℕ} {xs ys : List ℕ} → Line c size q xs → Line c size q ys → xs ≡ ys
  line-one (ln-last p e z) (ln-last p' e' z') = refl
  line-one (ln-last p e z) (ln-next p' e' z' l) = absurd (omega (arith, goes_one e e'))
  line-one (ln-next p e z l) (ln-last p' e' z') = absurd (omega (arith, goes_one e e'))
  line-one {q = q} (ln-next {m = m} p e z l) (ln-next {m = m'} {qs = qs'} p' e' z' l') =
      let q' : m' ≡ m = omega (arith, goes_one e e') in
      ap (λ (xs : List ℕ). q ∷ xs) (line-one l (subst (λ (z : ℕ). Line c size z qs') q' l'))

  pub line-position : {q : ℕ} {qs : List ℕ} → Line c size q qs → Position c size q
  line-position (ln-last p e z) = p
  line-position (ln-next p e z l) = p

  pub line-ends : {q : ℕ} {qs : List ℕ} → Line c size q qs → (e : ℕ) × Ends c q e
  line-ends (ln-last {e = e} p u z) = (e, u)
  line-ends (ln-next {e = e} p u z l) = (e, u)

  pub line-drop : {q : ℕ} {qs : List ℕ} (a : ℕ) → Line c size q qs → a < length qs → Line c size (get_or qs a 0) (drop a qs)
  line-drop zero (ln-last p e z) h = ln-last p e z
  line-drop (suc a) (ln-last p e z) h = absurd (omega arith)
  line-drop zero (ln-next p e z l) h = ln-next p e z l
  line-drop (suc a) (ln-next p e z l) h = line-drop a l (omega arith)

  pub line_after : {q next : ℕ} {qs : List ℕ} (a : ℕ) → Line c size q qs → a < length qs
      → ((e : ℕ) → Ends c (get_or qs a 0) e → next ≡ goes_at c e) → (next ≡ 0 → ⊥) → After a qs next
  line_after zero (ln-last {e = e} p u z) h f g = absurd (g (f e u ∙ z))
  line_after (suc a) (ln-last p u z) h f g = absurd (omega arith)
  line_after zero (ln-next {e = e} p u z (ln-last p' u' z')) h f g = record { exists = omega arith; is = sym z ∙ sym (f e u) }
  line_after zero (ln-next {e = e} p u z (ln-next p' u' z' l)) h f g = record { exists = omega arith; is = sym z ∙ sym (f e u) }
  line_after (suc a) (ln-next {qs = qs} p u z l) h f g =
      let w = line_after a l (omega arith) f g in
      let e : suc a + 1 ≡ suc (a + 1) = omega arith in
      record { exists = omega (arith, w.exists); is = rw e w.is }

  -- where none follows, that was the last
  pub line-last : {q next : ℕ} {qs : List ℕ} (a : ℕ) → Line c size q qs → a < length qs
      → ((e : ℕ) → Ends c (get_or qs a 0) e → next ≡ goes_at c e) → next ≡ 0 → length qs ≡ a + 1
  line-last zero (ln-last p u z) h f g = refl
  line-last (suc a) (ln-last p u z) h f g = absurd (omega arith)
  line-last zero (ln-next {e = e} p u z l) h f g = absurd (omega (arith, f e u))
  line-last (suc a) (ln-next p u z l) h f g = omega (arith, line-last a l (omega arith) f g)

  pub line-few : {q : ℕ} {qs : List ℕ} → Line c size q qs → length qs ≤ size
  line-few {qs = qs} l = few size (length qs) (λ a. get_or qs a 0) (λ a h. (line-position (line-drop a l h)).inside) apart
    where
      apart : (a b : ℕ) → a < length qs → b < length qs → get_or qs a 0 ≡ get_or qs b 0 → a ≡ b
      apart a b h h' e =
          let w = line-one (line-drop a l h) (subst (λ (z : ℕ). Line c size z (drop b qs)) (sym e) (line-drop b l h')) in
          omega (arith, ap length w, length-drop a qs, length-drop b qs)
