-- A number as one of two: none where it is 0, else some with the number.
use mathlib.Core.Logic.{⊎_elim}
use mathlib.Core.Path.{◌≡◌, sym, ap, ◌∙◌}
use Prim.Native.Nat.{ℕ, ◌+◌}
use native.Mathlib.Omega.{arith}
use lib.Dec.{eqb}
use borrow.Author.Tests.{eq-eqb, ne_eqb, eqb-true, eqb-false}
use Rattle.text.specs.Lists.{pick}
use Rattle.text.proofs.Tests.{look}

-- a number that is not 0
pub record Some (k n : ℕ) : Type 0 where
  pub same : k ≡ n
  pub some : n ≡ 0 → ⊥

module _ {A : Type 0} (none : A) (some : ℕ → A) where
  abbrev pub numbered : ℕ → A
  numbered n = pick (eqb n 0) none (some n)

  pub on_none : {n : ℕ} → n ≡ 0 → none ≡ numbered n
  on_none {n} e = rw (eq-eqb n 0 e)

  pub on_some : {n : ℕ} → (n ≡ 0 → ⊥) → some n ≡ numbered n
  on_some {n} z = rw (ne_eqb n 0 z)

  -- which of the two it is, and with which number, can be read back
  module _ (back : A → ℕ) (of_none : back none ≡ 0) (of_some : (n : ℕ) → back (some n) ≡ n + 1) where
    pub none_of : (v : A) (n : ℕ) → v ≡ none → v ≡ numbered n → n ≡ 0
    none_of v n e f = ⊎_elim (λ q. eqb-true n 0 q) (λ q. absurd (let s = ap back (on_some (eqb-false n 0 q) ∙ sym f ∙ e) in omega (arith, of_none, of_some n))) (look (eqb n 0))

    pub some_of : (v : A) (k n : ℕ) → v ≡ some k → v ≡ numbered n → Some k n
    some_of v k n e f = ⊎_elim
        (λ q. absurd (let s = ap back (on_none (eqb-true n 0 q) ∙ sym f ∙ e) in omega (arith, of_none, of_some k)))
        (λ q. let s = ap back (on_some (eqb-false n 0 q) ∙ sym f ∙ e) in record { same = omega (arith, of_some n, of_some k); some = eqb-false n 0 q })
        (look (eqb n 0))
