-- Terminals that are followed from one place.
use mathlib.Core.List.{List}
use mathlib.Core.Path.{◌≡◌, sym, subst}
use Prim.Native.Nat.{ℕ, ◌+◌, ◌<◌, ◌≤◌}
use native.Mathlib.Omega.{arith}
use Rattle.chart.specs.Code.{next_kind, goes_at}
use Rattle.reach.specs.Flags.{Fits}
use Rattle.sparse.specs.Cells.{Shape}
use Rattle.moves.specs.Moves.{move-terminal, move-symbol}
use Rattle.ends.specs.Spans.{Steps, here, by-terminal}
use Rattle.ends.specs.Table.{Rest, rest_end, rest-step, Leading, Led}

-- what goes on over a terminal does so from one place
over : {c M t : List ℕ} {n p x j : ℕ} → next_kind c p ≡ 1 → Rest c M n t p x j → Fits M p x × (x + goes_at c p ≤ n) × Rest c M n t (p + 1) (x + goes_at c p) j
over k (rest_end z) = absurd (omega (arith, k, z))
over k (rest-step (move-symbol i w d) r) = absurd (omega (arith, k, i))
over {c} {M} {t} {n} {p} {x} {j} k (rest-step (move-terminal i l) r) = (l.fits, l.within, subst (λ (z : ℕ). Rest c M n t (p + 1) z j) l.is r)

module _ {c M : List ℕ} {size n m q : ℕ} where
  pub led-start : Leading c M size n m q → Led c M size n m q q m
  led-start g = record { inside = g.inside; steps = λ h L. here; rest = λ t j r. (g.on, r) }

  pub led-next : {p x y : ℕ} → Shape c size → x ≤ n → Led c M size n m q p x → next_kind c p ≡ 1 → Fits M p x → y ≡ x + goes_at c p → y ≤ n → Led c M size n m q (p + 1) y
  led-next {p} {x} {y} shape h l k f e b = record {
    inside = shape.nexts p l.inside (λ z. omega (arith, z, k));
    steps = λ _ L. subst (λ (z : ℕ). Steps c L M n q m (p + 1) z) (sym e) (by-terminal (l.steps h L) k f (omega (arith, e, b)));
    rest = λ t j r. (b, subst (λ (z : ℕ). Rest c M n t (p + 1) z j) (sym e) (over k (l.rest t j r).1).2);
  }

  -- one that does not fit
  pub led-nowhere : {p x y : ℕ} → Led c M size n m q p x → next_kind c p ≡ 1 → (Fits M p x → x + goes_at c p ≤ n → ⊥) → n < y → Led c M size n m q p y
  led-nowhere l k f h = record {
    inside = l.inside;
    steps = λ g. absurd (omega (arith, g, h));
    rest = λ t j r. (let o = over k (l.rest t j r).1 in absurd (f o.0 o.1));
  }
