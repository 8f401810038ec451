-- The uses of a rule that was found, and the queue of such rules.
use mathlib.Core.Bool.{Bool, true, false}
use mathlib.Core.List.{List}
use mathlib.Core.Logic.{◌⊎◌, inl, inr, ⊎_elim}
use mathlib.Core.Path.{◌≡◌, refl, sym, subst, ap, ◌∙◌}
use Prim.Native.Nat.{ℕ, ◌+◌, ◌*◌, ◌-◌, ◌<◌, ◌≤◌}
use native.Mathlib.Decide.{ℕ_discrete}
use native.Mathlib.Omega.{arith}
use lib.ListN.{length, get_or, set, length-set}
use lib.Seq.{get_or-set_same}
use Rattle.text.proofs.Tests.{split}
use Rattle.chart.specs.Code.{next_kind, rule_at}
use Rattle.chart.specs.Uses.{LastUse, Uses}
use Rattle.productive.specs.Made.{Good, Sure, RuleMade}
use Rattle.productive.specs.State.{tail_of, Waits, Kept, Moved, Always, Visited, Pending, Drained, Draining}
use Rattle.productive.proofs.Steps.{mark-other, mark-grows, waits-on, waits-from, moved_none, moved-join}

-- x is 0, or the dot after a use of e, and all later uses are visited
pub record Visits (c : List ℕ) (size : ℕ) (M₀ : List Bool) (O₀ Q₀ : List ℕ) (M : List Bool) (O Q : List ℕ) (e x : ℕ) : Type 0 where
  pub visited : Visited c size M₀ O₀ Q₀ M O Q e x
  pub below : x ≤ size
  pub is : (u : ℕ) → x ≡ u + 1 → (next_kind c u ≡ 2) × (rule_at c u ≡ e)

-- the rules up to the place h of the queue are visited
pub record Drains (c : List ℕ) (size : ℕ) (M₀ : List Bool) (O₀ Q₀ : List ℕ) (M : List Bool) (O Q : List ℕ) (h : ℕ) : Type 0 where
  pub moved : Moved c size M₀ O₀ Q₀ M O Q size Always
  pub pending : Pending c size M O Q h
  pub low : h ≤ tail_of Q

module _ {c : List ℕ} {size : ℕ} where
  -- the symbol before the dot x is a use of the rule e
  module _ {M : List Bool} {O Q : List ℕ} {e u : ℕ} (k : Kept c size M O Q size) (hu : u < size) (kind : next_kind c u ≡ 2) (rule : rule_at c u ≡ e) where
    after : u + 1 < size
    after = k.shape.after u hu (λ z. omega arith)

    pub sure-room : 512 + (u + 1) < length M
    sure-room = omega (arith, after, k.shape.small, k.marks-long)

    abbrev M₁ : List Bool
    M₁ = set M (512 + (u + 1)) true

    grow : (x : ℕ) → get_or M x false ≡ true → get_or M₁ x false ≡ true
    grow x h = mark-grows M (512 + (u + 1)) x h sure-room

    good-back : (x : ℕ) → x < size → Good M₁ x → Good M x
    good-back x h g = sym (mark-other M (512 + (u + 1)) x (λ z. omega (arith, k.shape.small))) ∙ g

    sure-back : (y : ℕ) → (y ≡ u → ⊥) → Sure M₁ (y + 1) → Sure M (y + 1)
    sure-back y n s = sym (mark-other M (512 + (u + 1)) (512 + (y + 1)) (λ z. n (omega arith))) ∙ s

    pub sure-set : Moved c size M O Q M₁ O Q (u + 1) (λ F. RuleMade c F size e)
    sure-set = record {
      kept = record {
        shape = k.shape;
        room = k.room;
        marks-long = length-set M (512 + (u + 1)) true ∙ k.marks-long;
        missing-long = k.missing-long;
        queue_long = k.queue_long;
        count = k.count;
        flags = k.flags;
        queued = k.queued;
        bottom = mark-other M (512 + (u + 1)) 512 (λ z. omega arith) ∙ k.bottom;
        closed = λ y h n g s. grow y (k.closed y h (λ z. omega arith) (good-back (y + 1) h g) (sure-back y (λ z. n (omega arith)) s));
        owner = λ x d h g o. k.owner x d h (good-back x h g) o;
      };
      grown = record { marks = grow; more = omega arith; same = λ i h l. refl; fresh = λ d h. inl h };
      sound = λ F s w. record {
        good = λ x h g. s.good x h (good-back x h g);
        sure = λ y h v. elim (ℕ_discrete y u) as (λ _. ((next_kind c y ≡ 1) × Sure F (y + 1)) ⊎ ((next_kind c y ≡ 2) × RuleMade c F size (rule_at c y))) [
          | yes z ↦ inr (ap (next_kind c) z ∙ kind, subst (RuleMade c F size) (sym (ap (rule_at c) z ∙ rule)) w)
          | no z ↦ s.sure y h (sure-back y z v)
        ];
        done = s.done;
      };
    }

    pub sure-here : Sure M₁ (u + 1)
    sure-here = get_or-set_same M (512 + (u + 1)) true false sure-room

  pub visits-start : {M : List Bool} {O Q : List ℕ} {e x : ℕ} → Kept c size M O Q size → LastUse c e size x → Visits c size M O Q M O Q e x
  visits-start k l = record {
    visited = record { moved = moved_none k; uses = λ u a b d r. absurd (l.last u a b d r) };
    below = l.below;
    is = l.is;
  }

  module _ {M₀ M : List Bool} {O₀ Q₀ O Q : List ℕ} {e x : ℕ} (v : Visits c size M₀ O₀ Q₀ M O Q e x) (h : 0 < x) where
    abbrev u : ℕ
    u = x - 1

    x-is : x ≡ u + 1
    x-is = omega arith

    kept : Kept c size M O Q size
    kept = v.visited.moved.kept

    inside : u < size
    inside = omega (arith, v.below)

    pub visit-inside : x < size
    visit-inside = omega (arith, kept.shape.after u inside (λ z. omega (arith, (v.is u x-is).0)))

    marking : Moved c size M O Q (set M (512 + x) true) O Q x (λ F. RuleMade c F size e)
    marking = subst (λ (z : ℕ). Moved c size M O Q (set M (512 + z) true) O Q z (λ F. RuleMade c F size e)) (sym x-is) (sure-set kept inside (v.is u x-is).0 (v.is u x-is).1)

    pub visit-kept : Kept c size (set M (512 + x) true) O Q x
    visit-kept = marking.kept

    -- the use before
    pub use-before : {U : List ℕ} → Uses c size size U → LastUse c e u (get_or U (2 * x - 1) 0)
    use-before {U} w = subst (λ (z : ℕ). LastUse c e u (get_or U z 0)) (let i : 2 * u + 1 ≡ 2 * x - 1 = omega arith in i)
        (subst (λ (d : ℕ). LastUse c d u (get_or U (2 * u + 1) 0)) (v.is u x-is).1 (w.next u inside (v.is u x-is).0))

    pub visit-next : {M' : List Bool} {O' Q' : List ℕ} {y : ℕ} → Moved c size (set M (512 + x) true) O Q M' O' Q' size Always → LastUse c e u y → Visits c size M₀ O₀ Q₀ M' O' Q' e y
    visit-next {M'} m l = record {
      visited = record {
        moved = moved-join (λ F s a. a) (λ F s a. tt) (moved-join (λ F s a. a) (λ F s a. a) v.visited.moved marking) m;
        uses = λ w a b d r. ⊎_elim
            (λ i. absurd (l.last w a i d r))
            (λ i. elim (ℕ_discrete w u) as (λ _. Sure M' (w + 1)) [
              | yes z ↦ m.grown.marks (512 + (w + 1)) (subst (λ (n : ℕ). get_or (set M (512 + x) true) (512 + n) false ≡ true) (let n : x ≡ w + 1 = omega arith in n) here)
              | no z ↦ m.grown.marks (512 + (w + 1)) (marking.grown.marks (512 + (w + 1)) (v.visited.uses w (omega arith) b d r))
            ])
            (split w u);
      };
      below = omega (arith, l.below, v.below);
      is = l.is;
    }
      where
        here : Sure (set M (512 + x) true) x
        here = subst (λ (z : ℕ). Sure (set M (512 + z) true) z) (sym x-is) (sure-here kept inside (v.is u x-is).0 (v.is u x-is).1)

  pub visits-end : {M₀ M : List Bool} {O₀ Q₀ O Q : List ℕ} {e x : ℕ} → Visits c size M₀ O₀ Q₀ M O Q e x → (0 < x → ⊥) → Visited c size M₀ O₀ Q₀ M O Q e 0
  visits-end v n = record { moved = v.visited.moved; uses = λ u a b d r. v.visited.uses u (omega arith) b d r }

  pub drains-start : {U : List ℕ} {M : List Bool} {O Q : List ℕ} → Draining c size U M O Q → Drains c size M O Q M O Q 0
  drains-start d = record { moved = moved_none d.kept; pending = d.pending; low = omega arith }

  module _ {M₀ M : List Bool} {O₀ Q₀ O Q : List ℕ} {h : ℕ} (v : Drains c size M₀ O₀ Q₀ M O Q h) (l : h < tail_of Q) where
    pub drain-inside : get_or Q (h + 1) 0 < size
    drain-inside = (v.moved.kept.queued (h + 1) (omega arith) (omega arith)).0

    pub drain-next : {M' : List Bool} {O' Q' : List ℕ} → Visited c size M O Q M' O' Q' (get_or Q (h + 1) 0) 0 → Drains c size M₀ O₀ Q₀ M' O' Q' (h + 1)
    drain-next {M'} {O'} {Q'} w = record {
      moved = moved-join (λ F s a. a) (λ F s a. s.done (get_or Q (h + 1) 0) drain-inside (v.moved.kept.queued (h + 1) (omega arith) (omega arith)).1) v.moved w.moved;
      pending = λ d i n. ⊎_elim (λ o. ⊎_elim (waiting d) (λ f. inr (λ u a b r. w.moved.grown.marks (512 + (u + 1)) (f u a b r))) (v.pending d i o))
          (λ q. inl (waits-from (omega arith) q)) (w.moved.grown.fresh d n);
      low = omega (arith, w.moved.grown.more);
    }
      where
        waiting : (d : ℕ) → Waits Q h d → Waits Q' (h + 1) d ⊎ ((u : ℕ) → u < size → next_kind c u ≡ 2 → rule_at c u ≡ d → Sure M' (u + 1))
        waiting d q = elim (ℕ_discrete q.at (h + 1)) as (λ _. Waits Q' (h + 1) d ⊎ ((u : ℕ) → u < size → next_kind c u ≡ 2 → rule_at c u ≡ d → Sure M' (u + 1))) [
          | yes z ↦ inr (λ u a b r. w.uses u (omega arith) a b (r ∙ sym (ap (λ (n : ℕ). get_or Q n 0) (sym z) ∙ q.is)))
          | no z ↦ inl (waits-on w.moved.grown (record { at = q.at; after = omega (arith, q.after); before = q.before; is = q.is }))
        ]

  pub drains-end : {M₀ M : List Bool} {O₀ Q₀ O Q : List ℕ} {h : ℕ} → Drains c size M₀ O₀ Q₀ M O Q h → (h < tail_of Q → ⊥) → Drained c size M₀ O₀ Q₀ M O Q
  drains-end v n = record {
    moved = v.moved;
    uses = λ e i d. ⊎_elim (λ q. absurd (n (omega (arith, q.after, q.before)))) (λ f. f) (v.pending e i d);
  }
