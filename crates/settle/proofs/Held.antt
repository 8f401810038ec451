-- What holds on a stretch while a row of it falls.
use mathlib.Core.Bool.{Bool, true, false}
use mathlib.Core.List.{List}
use mathlib.Core.Logic.{◌⊎◌, inl, inr, ⊎_elim}
use mathlib.Core.Path.{◌≡◌, refl, sym, ap, subst, ◌∙◌}
use Prim.Native.Nat.{ℕ, ◌+◌, ◌<◌, ◌≤◌, max}
use native.Mathlib.Decide.{ℕ_discrete}
use native.Mathlib.Omega.{arith}
use lib.ListN.{set}
use Rattle.text.proofs.Tests.{look, clash}
use Rattle.chart.specs.Code.{next_kind, goes_at, rule_at, owner_at}
use Rattle.chart.specs.Heights.{cell_at}
use Rattle.heights.specs.Table.{cell_of, up_of}
use Rattle.heights.specs.Filling.{Only}
use Rattle.heights.proofs.Lowering.{sum-set}
use Rattle.heights.proofs.Part.{toward-rest}
use Rattle.sparse.specs.Cells.{is_last, row_of, empty_rest, rule_of, rest_of, Shape}
use Rattle.sparse.specs.Steps.{toward_of, Lowered, lowered, kept, Fell, over_of}
use Rattle.sparse.proofs.Rows.{last-is, row-inner, row_first, rest-row}
use Rattle.sparse.proofs.Falls.{rule-same, rest-same, fell-refl, own, rules, fell-set, lowered-cell, other_row}
use Rattle.sparse.proofs.Toward.{toward-row, fell-toward}
use Rattle.queue.specs.Queue.{Pending, Queued}
use Rattle.queue.specs.Queue.{Put as Enqueued}
use Rattle.settle.specs.Settle.{LeftHeld, RightHeld, Pends, Offered, Put}

module _ (c M F : List ℕ) (size n i j : ℕ) where
  -- a dot keeps what it holds where the dot after it does not change; nothing rises
  pub left-kept : {t u : List ℕ} → Fell c M F size n (j + 1) (Only i j) t u → (q : ℕ) → rest_of c M F n u (q + 1) i j ≡ rest_of c M F n t (q + 1) i j
      → LeftHeld c M F size n i j t q → LeftHeld c M F size n i j u q
  left-kept {t} {u} f q e h l =
      let v : over_of c M F q i (rest_of c M F n u (q + 1) i j) ≡ over_of c M F q i (rest_of c M F n t (q + 1) i j) = ap (over_of c M F q i) e in
      omega (arith, fell-toward f q i j, h (omega arith))

  pub right_kept : {t u : List ℕ} → Fell c M F size n (j + 1) (Only i j) t u → (q : ℕ)
      → (next_kind c q ≡ 2 → rule_of c M F n u (rule_at c q) i j ≡ rule_of c M F n t (rule_at c q) i j) → RightHeld c M F size n i j t q → RightHeld c M F size n i j u q
  right_kept {t} {u} f q e h k l =
      let v : max (up_of (rule_of c M F n u (rule_at c q) i j)) (empty_rest c F (q + 1)) ≡ max (up_of (rule_of c M F n t (rule_at c q) i j)) (empty_rest c F (q + 1)) =
      ap (λ (z : ℕ). max (up_of z) (empty_rest c F (q + 1))) (e k) in
      omega (arith, fell-toward f q i j, h k (omega arith))

  pub pending-kept : (Q R : List ℕ) → ((e : ℕ) → e < 512 → Pending Q e → Pending R e) → (q : ℕ) → rule_at c q < 512 → Pends c M F size n i j Q q → Pends c M F size n i j R q
  pending-kept Q R f q h p = (p.0, f (rule_at c q) h p.1)

  module _ (shape : Shape c size) (wide : i < j) (stop : j ≤ n) where
    -- the rule of a symbol is named by an end
    pub rule_end : (q : ℕ) → q < size → next_kind c q ≡ 2 → (rule_at c q < size) × (next_kind c (rule_at c q) ≡ 0)
    rule_end q h k = let w = shape.names q h k in (w.0, (shape.owners (goes_at c q) (rule_at c q) w.1 w.2).1)

    last-rule : (q : ℕ) → q < size → is_last c q ≡ true → (rule_at c q < size) × (next_kind c (rule_at c q) ≡ 0)
    last-rule q h e = rule_end q h (last-is c q e).symbol

    -- the row of the dot p itself falls
    module _ {t : List ℕ} {p v : ℕ} (o : Offered c M F size n i j t p v) (inner : owner_at c p ≡ 0) (low : v < cell_of n t p i j) where
      abbrev lower_dot : List ℕ
      lower_dot = set t (cell_at n p i j) v

      dot-fell : Fell c M F size n (j + 1) (Only i j) t lower_dot
      dot-fell = fell-set c M F size n shape t p p i j v o.on.inside o.kind (own inner) wide stop o.some low o.offer

      dot-other : (y : ℕ) → (y ≡ p → ⊥) → cell_of n lower_dot y i j ≡ cell_of n t y i j
      dot-other y d = other_row c M F size n shape t p p i j v o.on.inside o.kind (own inner) wide stop o.some low o.offer y i j (omega arith) stop d

      dot-rest : rest_of c M F n lower_dot p i j ≡ v
      dot-rest = rest-row c M F n lower_dot p i j (λ q. omega arith) o.kind o.on.used o.row o.on.live
          ∙ lowered-cell c M F size n shape t p p i j v o.on.inside o.kind (own inner) wide stop o.some low o.offer

      dot-low : toward_of c M F n lower_dot p i j ≤ v
      dot-low = omega (arith, toward-rest c (rule_of c M F n lower_dot) (rest_of c M F n lower_dot) p i j inner, dot-rest)

      pub put-dot : {Q : List ℕ} → Queued size Q → Put c M F size n i j t Q lower_dot Q p v true
      put-dot {Q} y = record {
        fell = dot-fell;
        queued = y;
        pending = λ e h x. x;
        falls = omega (arith, sum-set t (cell_at n p i j) v low);
        rules = λ e h z. inr (rule-same c M F n t lower_dot e i j (dot-other e (λ d. o.kind (subst (λ (x : ℕ). next_kind c x ≡ 0) d z))));
        rests = λ q h. elim (ℕ_discrete q p) as (λ _. ((true ≡ true) × (q ≡ p)) ⊎ (Pends c M F size n i j Q q ⊎ (rest_of c M F n lower_dot q i j ≡ rest_of c M F n t q i j))) [
          | yes d ↦ inl (refl, d)
          | no d ↦ inr (inr (rest-same c M F n t lower_dot q i j (λ _. dot-other q d)
              (λ e. dot-other (rule_at c q) (λ x. o.kind (subst (λ (z : ℕ). next_kind c z ≡ 0) x (last-rule q h e).1)))))
        ];
        low = dot-low;
        is = λ _. (dot-rest, inner);
      }

    -- the row of its rule does
    module _ {t : List ℕ} {p v : ℕ} (e : ℕ) (o : Offered c M F size n i j t p v) (owner : owner_at c p ≡ e + 1) (low : v < cell_of n t e i j) where
      abbrev lower_rule : List ℕ
      lower_rule = set t (cell_at n e i j) v

      named : next_kind c e ≡ 0
      named = (shape.owners p e o.on.inside owner).1

      rule-fell : Fell c M F size n (j + 1) (Only i j) t lower_rule
      rule-fell = fell-set c M F size n shape t p e i j v o.on.inside o.kind (rules owner) wide stop o.some low o.offer

      rule-other : (y : ℕ) → (y ≡ e → ⊥) → cell_of n lower_rule y i j ≡ cell_of n t y i j
      rule-other y d = other_row c M F size n shape t p e i j v o.on.inside o.kind (rules owner) wide stop o.some low o.offer y i j (omega arith) stop d

      rule-low : toward_of c M F n lower_rule p i j ≤ v
      rule-low = omega (
        arith,
        toward-row c M F size n lower_rule p i j o.on wide o.kind o.row,
        ap (λ (y : ℕ). cell_of n lower_rule y i j) (row_first c p e owner),
        lowered-cell c M F size n shape t p e i j v o.on.inside o.kind (rules owner) wide stop o.some low o.offer,
      )

      pub put-rule : {Q R : List ℕ} → Enqueued size Q R e → Put c M F size n i j t Q lower_rule R p v false
      put-rule {Q} {R} y = record {
        fell = rule-fell;
        queued = y.queued;
        pending = λ x h a. elim (ℕ_discrete x e) as (λ _. Pending R x) [
          | yes d ↦ subst (Pending R) (sym d) y.pending
          | no d ↦ (λ z. a (sym (y.others x h d) ∙ z))
        ];
        falls = omega (arith, sum-set t (cell_at n e i j) v low, y.count);
        rules = λ x h z. elim (ℕ_discrete x e) as (λ _. Pending R x ⊎ (rule_of c M F n lower_rule x i j ≡ rule_of c M F n t x i j)) [
          | yes d ↦ inl (subst (Pending R) (sym d) y.pending)
          | no d ↦ inr (rule-same c M F n t lower_rule x i j (rule-other x d))
        ];
        rests = λ q h. inr (elim (ℕ_discrete (rule_at c q) e) as (λ _. Pends c M F size n i j R q ⊎ (rest_of c M F n lower_rule q i j ≡ rest_of c M F n t q i j)) [
          | yes d ↦ ⊎_elim (λ b. inl (b, subst (Pending R) (sym d) y.pending)) (λ b. inr (same q (λ b'. absurd (clash b b')))) (look (is_last c q))
          | no d ↦ inr (same q (λ _. rule-other (rule_at c q) d))
        ]);
        low = rule-low;
        is = λ b. absurd (clash refl b);
      }
        where
          same : (q : ℕ) → (is_last c q ≡ true → cell_of n lower_rule (rule_at c q) i j ≡ cell_of n t (rule_at c q) i j) → rest_of c M F n lower_rule q i j ≡ rest_of c M F n t q i j
          same q a = rest-same c M F n t lower_rule q i j (λ k. rule-other q (λ d. k (subst (λ (z : ℕ). next_kind c z ≡ 0) (sym d) named))) a

    -- the row is not above v
    pub put-none : {t Q : List ℕ} {p v : ℕ} → Offered c M F size n i j t p v → cell_of n t (row_of c p) i j ≤ v → Queued size Q → Put c M F size n i j t Q t Q p v false
    put-none {t} {Q} {p} {v} o l y = record {
      fell = fell-refl c M F size n (j + 1);
      queued = y;
      pending = λ e h x. x;
      falls = omega arith;
      rules = λ e h z. inr refl;
      rests = λ q h. inr (inr refl);
      low = omega (arith, toward-row c M F size n t p i j o.on wide o.kind o.row);
      is = λ b. absurd (clash refl b);
    }

    -- by what lowering the row says
    pub put-own : {t : List ℕ} {p v : ℕ} {u Q : List ℕ} {r : Bool} → Offered c M F size n i j t p v → owner_at c p ≡ 0 → Lowered t (cell_at n p i j) v r u → Queued size Q
        → Put c M F size n i j t Q u Q p v r
    put-own o z (lowered l) y = put-dot o z l y
    put-own {t} {p = p} o z (kept l) y = put-none o (omega (arith, ap (λ (x : ℕ). cell_of n t x i j) (row-inner c p z))) y

    pub put-owner : {t : List ℕ} (e : ℕ) {p v : ℕ} {u Q R : List ℕ} {r : Bool} → Offered c M F size n i j t p v → owner_at c p ≡ e + 1 → Lowered t (cell_at n e i j) v r u
        → r ≡ true → Enqueued size Q R e → Put c M F size n i j t Q u R p v false
    put-owner e o z (lowered l) b y = put-rule e o z l y
    put-owner e o z (kept l) b y = absurd (clash refl b)

    pub put-above : {t : List ℕ} (e : ℕ) {p v : ℕ} {u Q : List ℕ} {r : Bool} → Offered c M F size n i j t p v → owner_at c p ≡ e + 1 → Lowered t (cell_at n e i j) v r u
        → r ≡ false → Queued size Q → Put c M F size n i j t Q u Q p v false
    put-above e o z (lowered l) b y = absurd (clash b refl)
    put-above {t} e {p = p} o z (kept l) b y = put-none o (omega (arith, ap (λ (x : ℕ). cell_of n t x i j) (row_first c p e z))) y
