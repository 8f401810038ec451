-- The lists of a column: what is kept while its flags and notes change; what a listed row says of a dot.
use mathlib.Core.Bool.{true, false}
use mathlib.Core.List.{List}
use mathlib.Core.Path.{◌≡◌, sym, ap, subst, ◌∙◌}
use Prim.Native.Nat.{ℕ, ◌+◌, ◌<◌, ◌≤◌}
use native.Mathlib.Omega.{arith}
use lib.ListN.{length, get_or}
use Rattle.chart.specs.Code.{rule_at}
use Rattle.heights.specs.Table.{cell_of, up_of}
use Rattle.reach.specs.Flags.{Reached, Wanted, home_of}
use Rattle.sparse.specs.Cells.{is_last, rest_of, Shape}
use Rattle.sparse.specs.Steps.{Listed}
use Rattle.sparse.specs.Column.{UnitsTo, WakesBy, Wakes, Hands, WakesOf, HandsOf, Rows}
use Rattle.sparse.proofs.Rows.{rule-cell, rest-last, rest-row}

-- the lists stand before the flags
abbrev pub SameLists : List ℕ → List ℕ → Type 0
SameLists C D = (z : ℕ) → z < 2563 → get_or D z 0 ≡ get_or C z 0

pub listed_kept : {c M : List ℕ} {size j : ℕ} {C D : List ℕ} → length D ≡ length C → ((z : ℕ) → z < 513 → get_or D z 0 ≡ get_or C z 0) → Listed c M size j C → Listed c M size j D
listed_kept {c} {M} {size} {j} {C} {D} e same l = record {
  long = e ∙ l.long;
  count = omega (arith, same 512 (omega arith), l.count);
  each = λ k h. let w = same k (omega (arith, same 512 (omega arith), l.count)) in
      subst (λ (x : ℕ). (x < size) × Wanted M (home_of c x) j) (sym w) (l.each k (omega (arith, same 512 (omega arith))));
  all = λ p h w. let x = l.all p h w in (x.0, omega (arith, same 512 (omega arith), x.1), same x.0 (omega (arith, l.count, x.1)) ∙ x.2);
}

pub units-kept : (c F : List ℕ) (size : ℕ) (C D : List ℕ) → Shape c size → ((z : ℕ) → 2051 ≤ z → z < 2563 → get_or D z 0 ≡ get_or C z 0) → UnitsTo c F size C → UnitsTo c F size D
units-kept c F size C D shape same u p h k s z =
    u p h k s (sym (same (2051 + rule_at c p) (omega arith) (omega (arith, (shape.names p h k).0, shape.small))) ∙ z)

-- of fewer rows
module _ {c M : List ℕ} {size j : ℕ} {C : List ℕ} where
  pub wakes-of : {F : List ℕ} {P Q : ℕ → Type 0} → ((x : ℕ) → Q x → P x) → WakesOf c M size j F P C → WakesOf c M size j F Q C
  wakes-of f r = record {
    count = r.count;
    each = r.each;
    rule = λ p h z e d. r.rule p h z e (f (rule_at c p) d);
    dot = λ q h z o b v d. r.dot q h z o b v (f (q + 1) d);
  }

  pub hands-of : {P Q : ℕ → Type 0} → ((x : ℕ) → Q x → P x) → HandsOf c M size j P C → HandsOf c M size j Q C
  hands-of f r = record { count = r.count; each = r.each; all = λ p h z o w d. r.all p h z o w (f (p + 1) d) }

-- each list goes by its own cells
module _ {c M : List ℕ} {size j : ℕ} {C D : List ℕ} where
  pub wakes-kept : {F : List ℕ} {P : ℕ → Type 0} → get_or D 2049 0 ≡ get_or C 2049 0 → ((k : ℕ) → k < 512 → get_or D (513 + k) 0 ≡ get_or C (513 + k) 0)
      → WakesOf c M size j F P C → WakesOf c M size j F P D
  wakes-kept e same r = record {
    count = omega (arith, r.count);
    each = λ k h. subst (Wakes c M size j) (sym (same k (omega (arith, r.count)))) (r.each k (omega arith));
    rule = λ p h z l d. by (rule_at c p) (r.rule p h z l d);
    dot = λ q h z o b v d. by (q + 1) (r.dot q h z o b v d);
  }
    where
      by : (x : ℕ) → WakesBy C x → WakesBy D x
      by x w = (w.0, omega (arith, w.1), same w.0 (omega (arith, r.count, w.1)) ∙ w.2)

  pub hands-kept : {P : ℕ → Type 0} → get_or D 2050 0 ≡ get_or C 2050 0
      → ((k : ℕ) → k < 512 → (get_or D (1025 + k) 0 ≡ get_or C (1025 + k) 0) × (get_or D (1537 + k) 0 ≡ get_or C (1537 + k) 0))
      → HandsOf c M size j P C → HandsOf c M size j P D
  hands-kept e same r = record {
    count = omega (arith, r.count);
    each = λ k h. let w = same k (omega (arith, r.count)) in subst (λ (y : ℕ). Hands c M size j (get_or D (1025 + k) 0) y) (sym w.1)
        (subst (λ (x : ℕ). Hands c M size j x (get_or C (1537 + k) 0)) (sym w.0) (r.each k (omega arith)));
    all = λ p h z o w d. let x = r.all p h z o w d in (x.0, omega (arith, x.1), (same x.0 (omega (arith, r.count, x.1))).0 ∙ x.2);
  }

  pub rows-kept : {F : List ℕ} → Shape c size → length D ≡ length C → SameLists C D → Rows c M size j F C → Rows c M size j F D
  rows-kept {F} shape e same r = record {
    listed = listed_kept e (λ z h. same z (omega arith)) r.listed;
    units = units-kept c F size C D shape (λ z _ h. same z h) r.units;
    wakes = wakes-kept (same 2049 (omega arith)) (λ k h. same (513 + k) (omega arith)) r.wakes;
    hands = hands-kept (same 2050 (omega arith)) (λ k h. (same (1025 + k) (omega arith), same (1537 + k) (omega arith))) r.hands;
  }

-- the height of a dot that hands on, by its row
module _ {c M : List ℕ} {size j x y : ℕ} (h : Hands c M size j x y) (F : List ℕ) (n : ℕ) (t : List ℕ) (i : ℕ) (wide : i < j) (u : Reached M x i) where
  pub hand-own : is_last c x ≡ false → rest_of c M F n t x i j ≡ cell_of n t y i j
  hand-own b = rest-row c M F n t x i j (λ e. omega arith) h.kind u b h.live ∙ ap (λ (z : ℕ). cell_of n t z i j) (sym (h.own b))

  pub hand-last : is_last c x ≡ true → rest_of c M F n t x i j ≡ up_of (cell_of n t y i j)
  hand-last b = let w = h.last b in rest-last c M F n t x i j (λ e. omega arith) h.kind u b
      ∙ ap up_of (rule-cell c M F n t (rule_at c x) i j (λ e. omega arith) w.1 ∙ ap (λ (z : ℕ). cell_of n t z i j) (sym w.0))
