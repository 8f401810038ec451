-- The turns of a round, and the count of the rules.
use mathlib.Core.Bool.{Bool, true, false}
use mathlib.Core.Path.{◌≡◌, ap, subst}
use mathlib.Core.List.{List}
use Prim.Native.Nat.{ℕ, suc, ◌+◌, ◌<◌, ◌≤◌}
use native.Mathlib.Omega.{arith}
use borrow.Author.Tests.{eq-eqb, ne_eqb}
use Rattle.chart.specs.Code.{next_kind, goes_at, flag}
use Rattle.sweeps.specs.Layers.{Swept}
use Rattle.numbering.specs.Names.{is_name, name_count}
use Rattle.advance.specs.Advanced.{Advanced, goes_on, idles, closes}

pub no_end : (c : List ℕ) (e : ℕ) → (next_kind c e ≡ 0 → ⊥) → 0 ≡ flag (is_name c e)
unfolding is_name
no_end c e z = simp (ne_eqb (next_kind c e) 0 z)

pub no_last : (c : List ℕ) (e : ℕ) → next_kind c e ≡ 0 → (goes_at c e ≡ 0 → ⊥) → 0 ≡ flag (is_name c e)
unfolding is_name
no_last c e y z = simp (eq-eqb (next_kind c e) 0 y, ne_eqb (goes_at c e) 0 z)

pub last_end : (c : List ℕ) (e : ℕ) → next_kind c e ≡ 0 → goes_at c e ≡ 0 → 1 ≡ flag (is_name c e)
unfolding is_name
last_end c e y z = simp (eq-eqb (next_kind c e) 0 y, eq-eqb (goes_at c e) 0 z)

pub flag-most : (b : Bool) → flag b ≤ 1
flag-most true = omega arith
flag-most false = omega arith

pub count_next : (c : List ℕ) (e x y : ℕ) → x ≡ name_count c e → y ≡ flag (is_name c e) → x + y ≡ name_count c (e + 1)
count_next c e x y a b = let q : e + 1 ≡ suc e = omega arith in let z : name_count c (e + 1) ≡ name_count c (suc e) = ap (name_count c) q in omega arith

pub count-all : (c : List ℕ) (x e size : ℕ) → e ≤ size → size ≤ e → x ≡ name_count c e → x ≡ name_count c size
count-all c x e size a b = subst (λ (y : ℕ). x ≡ name_count c y) (let q : e ≡ size = omega arith in q)

module _ {c f : List ℕ} {size n k most : ℕ} {t : List ℕ} where
  pub idled : {u : List ℕ} {b : Bool} → b ≡ false → Swept c f size n k t b u → Advanced c f size n k most t u true
  idled {u} e s = idles (subst (λ (b : Bool). Swept c f size n k t b u) e s)

  pub went_on : {u : List ℕ} {b : Bool} → b ≡ true → k + 1 < most → Swept c f size n k t b u → Advanced c f size n k most t u false
  went_on {u} e l s = goes_on (subst (λ (b : Bool). Swept c f size n k t b u) e s) l

  pub closed : {v u : List ℕ} {b d : Bool} → b ≡ true → most ≤ k + 1 → Swept c f size n k t b v → Swept c f size n (k + 1) v d u → Advanced c f size n k most t u true
  closed {v} e l s w = closes (subst (λ (b : Bool). Swept c f size n k t b v) e s) l w
