-- Lowering heights, one dot after the other, until a sweep lowers none.
use mathlib.Core.Bool.{Bool, true, false, ◌||◌}
use mathlib.Core.List.{List}
use mathlib.Core.Path.{◌≡◌, refl, sym, subst, ap, ◌∙◌}
use Prim.Native.Nat.{ℕ, ◌+◌, ◌-◌, ◌<◌, ◌≤◌}
use native.Mathlib.Decide.{ℕ_discrete}
use native.Mathlib.Omega.{arith}
use lib.ListN.{length, get_or, set, length-set}
use lib.Seq.{get_or-set_other}
use Rattle.text.proofs.Tests.{clash}
use Rattle.chart.specs.Code.{next_kind, owner_at}
use Rattle.chart.specs.Heights.{none}
use Rattle.heights.specs.Filling.{total}
use Rattle.heights.proofs.Lowering.{sum-set}
use Rattle.sparse.specs.Cells.{row_of, Shape}
use Rattle.empties.specs.Empty.{offer_of, Done, Derived, Moved, Eased, Cleared, Found}
use Rattle.empties.proofs.Derived.{lower-derived, clear-derived, all-empties}

-- nothing changed
pub stay : {c : List ℕ} {size : ℕ} {P : List ℕ → Type 0} {F : List ℕ} → P F → Moved c size P F false F
stay p = record { long = refl; below = λ x h. refl; derived = λ d. d; fell = λ e. absurd (clash refl e); same = λ e. refl; holds = λ e. p }

-- one move after another
module _ {c : List ℕ} {size : ℕ} {P Q : List ℕ → Type 0} (R : List ℕ → Type 0) {F G H : List ℕ} (both : P F → Q F → R F) where
  falls : (a b : Bool) → Moved c size P F a G → Moved c size Q G b H → (a || b) ≡ true → total H < total F
  falls true true m n e = omega (arith, m.fell refl, n.fell refl)
  falls true false m n e = let y = ap total (n.same refl) in omega (arith, m.fell refl)
  falls false true m n e = let y = ap total (m.same refl) in omega (arith, n.fell refl)
  falls false false m n e = absurd (clash refl e)

  stays : (a b : Bool) → Moved c size P F a G → Moved c size Q G b H → (a || b) ≡ false → (H ≡ F) × R F
  stays true b m n e = absurd (clash e refl)
  stays false true m n e = absurd (clash e refl)
  stays false false m n e = (n.same refl ∙ m.same refl, both (m.holds refl) (subst Q (m.same refl) (n.holds refl)))

  pub after : (a b : Bool) {r : Bool} → Moved c size P F a G → Moved c size Q G b H → r ≡ (a || b) → Moved c size R F r H
  after a b m n e = record {
    long = n.long ∙ m.long;
    below = λ x h. n.below x h ∙ m.below x h;
    derived = λ d. n.derived (m.derived d);
    fell = λ z. falls a b m n (sym e ∙ z);
    same = λ z. (stays a b m n (sym e ∙ z)).0;
    holds = λ z. (stays a b m n (sym e ∙ z)).1;
  }

-- a dot's height is lowered to what is offered, or is not above it
module _ {c : List ℕ} {size : ℕ} (s : Shape c size) (F : List ℕ) (long : length F ≡ 2048) (p v x : ℕ) (h : p < size)
    (own : next_kind c p ≡ 0 → owner_at c p ≡ 0 → ⊥) (e : v ≡ offer_of c F p) (at : x ≡ 1536 + row_of c p) where
  pub lower-row : v < get_or F x 0 → get_or F x 0 ≤ none → Moved c size (Done c p) F true (set F x v)
  lower-row l most = record {
    long = length-set F x v;
    below = λ y b. get_or-set_other F x y v 0 (λ z. omega arith);
    derived = λ d. subst (λ (y : ℕ). Derived c size (set F y v)) (sym at) (lower-derived s F long p v h own e (omega arith) d);
    fell = λ z. sum-set F x v l;
    same = λ z. absurd (clash z refl);
    holds = λ z. absurd (clash z refl);
  }

  pub keep_row : get_or F x 0 ≤ v → Moved c size (Done c p) F false F
  keep_row l = stay (λ z. let y = ap (λ (a : ℕ). get_or F a 0) at in omega arith)

-- the dots from p on are done
abbrev pub From : List ℕ → ℕ → ℕ → List ℕ → Type 0
From c size p F = (q : ℕ) → p ≤ q → q < size → Done c q F

pub from_end : (c : List ℕ) (size : ℕ) (F : List ℕ) → From c size size F
from_end c size F q a b = absurd (omega arith)

pub from_next : (c : List ℕ) (size p : ℕ) (F : List ℕ) → From c size p F → Done c (p - 1) F → From c size (p - 1) F
from_next c size p F f d q a b = elim (ℕ_discrete q (p - 1)) as (λ _. Done c q F) [
  | yes e ↦ subst (λ (x : ℕ). Done c x F) (sym e) d
  | no e ↦ f q (omega arith) b
]

pub from_all : (c : List ℕ) (size p : ℕ) {F F' : List ℕ} {r : Bool} → p ≤ 0 → Moved c size (From c size p) F r F'
    → Moved c size (λ H. ((q : ℕ) → q < size → Done c q H)) F r F'
from_all c size p l m = record {
  long = m.long;
  below = m.below;
  derived = m.derived;
  fell = m.fell;
  same = m.same;
  holds = λ e q h. m.holds e q (omega arith) h;
}

-- the sweeps so far
pub record Swept (c : List ℕ) (size : ℕ) (F₀ F : List ℕ) : Type 0 where
  pub long : length F ≡ length F₀
  pub below : (x : ℕ) → x < 1536 → get_or F x 0 ≡ get_or F₀ x 0
  pub derived : Derived c size F

pub swept-start : {c : List ℕ} {size : ℕ} {F₀ F : List ℕ} → Shape c size → Cleared size F₀ F → Swept c size F F
swept-start s w = record { long = refl; below = λ x h. refl; derived = clear-derived s w }

pub swept-next : {c : List ℕ} {size : ℕ} {P : List ℕ → Type 0} {F₀ F F' : List ℕ} {r : Bool} → Swept c size F₀ F → Moved c size P F r F' → Swept c size F₀ F'
swept-next w m = record { long = m.long ∙ w.long; below = λ x h. m.below x h ∙ w.below x h; derived = m.derived w.derived }

pub swept-end : {c : List ℕ} {size : ℕ} {F₀ F₁ F F' : List ℕ} {r : Bool} → Cleared size F₀ F₁ → Swept c size F₁ F
    → Moved c size (λ H. ((p : ℕ) → p < size → Done c p H)) F r F' → r ≡ false → Found c size F₀ F'
swept-end {c} z w m e =
    let y = swept-next w m in
    record {
      long = y.long ∙ z.long;
      below = λ x h. y.below x h ∙ z.below x h;
      empties = all-empties y.derived (λ p h. subst (Done c p) (sym (m.same e)) (m.holds e p h));
    }

-- along a chain of rules
pub eased-none : (c : List ℕ) (size : ℕ) (F : List ℕ) → Eased c size F F
eased-none c size F = record { long = refl; below = λ x h. refl; derived = λ d. d; most = omega arith }

not-above : {c : List ℕ} {size : ℕ} {P : List ℕ → Type 0} {F G : List ℕ} (r : Bool) → Moved c size P F r G → total G ≤ total F
not-above true b = omega (arith, b.fell refl)
not-above false b = let y = ap total (b.same refl) in omega arith

pub moved-not : {c : List ℕ} {size : ℕ} {P : List ℕ → Type 0} {F G : List ℕ} {r : Bool} → r ≡ false → Moved c size P F r G → Moved c size P F false G
moved-not {c} {size} {P} {F} {G} e a = subst (λ (b : Bool). Moved c size P F b G) e a

module _ {c : List ℕ} {size : ℕ} {P : List ℕ → Type 0} {F G H : List ℕ} where
  pub eased-next : (r : Bool) → Eased c size F G → Moved c size P G r H → Eased c size F H
  eased-next r a b = record {
    long = b.long ∙ a.long;
    below = λ x h. b.below x h ∙ a.below x h;
    derived = λ d. b.derived (a.derived d);
    most = omega (arith, not-above r b, a.most);
  }

  pub moved_on : {r : Bool} → r ≡ true → Moved c size P F r G → Eased c size G H → Moved c size P F true H
  moved_on e a b = record {
    long = b.long ∙ a.long;
    below = λ x h. b.below x h ∙ a.below x h;
    derived = λ d. b.derived (a.derived d);
    fell = λ _. omega (arith, b.most, a.fell e);
    same = λ z. absurd (clash z refl);
    holds = λ z. absurd (clash z refl);
  }
