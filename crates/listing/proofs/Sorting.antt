-- One listed dot after the other is looked at: what the lists then hold.
use mathlib.Core.List.{List}
use mathlib.Core.Logic.{◌⊎◌, inl, inr, ⊎_elim}
use mathlib.Core.Path.{◌≡◌, refl, sym, ap, subst, ◌∙◌}
use Prim.Native.Nat.{ℕ, ◌+◌, ◌<◌, ◌≤◌}
use native.Mathlib.Decide.{ℕ_discrete}
use native.Mathlib.Omega.{arith}
use lib.ListN.{length, get_or, set, length-set}
use lib.Seq.{get_or-set_same, get_or-set_other}
use Rattle.chart.specs.Code.{rule_at}
use Rattle.reach.specs.Flags.{Wanted, home_of}
use Rattle.sparse.specs.Cells.{Shape}
use Rattle.sparse.specs.Steps.{Listed}
use Rattle.sparse.specs.Column.{UnitsTo, WakesBy, Wakes, Hands, Due, Rows}
use Rattle.sparse.proofs.Column.{listed_kept, units-kept, wakes-kept, hands-kept, wakes-of, hands-of}
use Rattle.listing.specs.Listing.{wake_added, hand_added, Idle, Rowed, Handing, Keeping, FirstIn, Sorted}

-- the first k + 1 dots are the first k and one more
first_next : (C D : List ℕ) (k x : ℕ) → ((z : ℕ) → z < 513 → get_or D z 0 ≡ get_or C z 0) → k < 512 → x ≡ get_or C k 0 → (y : ℕ) → FirstIn (k + 1) D y → (y ≡ x) ⊎ FirstIn k C y
first_next C D k x same small is y w = elim (ℕ_discrete w.0 k) as (λ _. (y ≡ x) ⊎ FirstIn k C y) [
  | yes d ↦ inl (sym w.2 ∙ same w.0 (omega (arith, w.1)) ∙ ap (λ (z : ℕ). get_or C z 0) d ∙ sym is)
  | no d ↦ inr (w.0, omega (arith, w.1), sym (same w.0 (omega (arith, w.1))) ∙ w.2)
]

first-same : (C D : List ℕ) (k : ℕ) → ((z : ℕ) → z < 513 → get_or D z 0 ≡ get_or C z 0) → k < 513 → (y : ℕ) → FirstIn k D y → FirstIn k C y
first-same C D k same small y w = (w.0, w.1, sym (same w.0 (omega (arith, w.1))) ∙ w.2)

module _ (c M F : List ℕ) (size j : ℕ) (shape : Shape c size) (C : List ℕ) (k x : ℕ) (below : k < get_or C 512 0) (is : x ≡ get_or C k 0) where
  -- the dot wakes nothing
  pub wake-skipped : Idle c F size x → Sorted c M F size j k k C → Sorted c M F size j (k + 1) k C
  wake-skipped i r =
      let next = first_next C C k x (λ z h. refl) (omega (arith, r.listed.count)) is in
      record {
        listed = r.listed;
        units = r.units;
        wakes = record {
          count = r.wakes.count;
          each = r.wakes.each;
          rule = λ p h z e d. ⊎_elim (λ q. absurd (i.rule p h z e q)) (r.wakes.rule p h z e) (next (rule_at c p) d);
          dot = λ q h z o b v d. ⊎_elim (λ w. absurd (i.dot q (sym w) z o b v)) (r.wakes.dot q h z o b v) (next (q + 1) d);
        };
        hands = r.hands;
        few-wakes = omega (arith, r.few-wakes);
        few-hands = r.few-hands;
      }

  -- or is added
  module _ (w : Rowed c x) (r : Sorted c M F size j k k C) where
    abbrev q : ℕ
    q = get_or C 2049 0

    abbrev D : List ℕ
    D = wake_added C x

    aside : (z : ℕ) → (z ≡ 2049 → ⊥) → (z ≡ 513 + q → ⊥) → get_or D z 0 ≡ get_or C z 0
    aside z o o' = get_or-set_other (set C (513 + q) x) 2049 z (q + 1) 0 o ∙ get_or-set_other C (513 + q) z x 0 o'

    count-is : get_or D 2049 0 ≡ q + 1
    count-is = get_or-set_same (set C (513 + q) x) 2049 (q + 1) 0 (omega (arith, length-set C (513 + q) x, r.listed.long))

    new_is : get_or D (513 + q) 0 ≡ x
    new_is = get_or-set_other (set C (513 + q) x) 2049 (513 + q) (q + 1) 0 (λ e. omega (arith, r.few-wakes, r.listed.count))
        ∙ get_or-set_same C (513 + q) x 0 (omega (arith, r.few-wakes, r.listed.long, r.listed.count))

    dots : (z : ℕ) → z < 513 → get_or D z 0 ≡ get_or C z 0
    dots z h = aside z (λ e. omega arith) (λ e. omega arith)

    old-is : (l : ℕ) → l < q → get_or D (513 + l) 0 ≡ get_or C (513 + l) 0
    old-is l h = aside (513 + l) (λ e. omega (arith, r.few-wakes, r.listed.count)) (λ e. omega arith)

    row : Wakes c M size j x
    row = let e = r.listed.each k below in
        record { inside = omega (arith, e.0); live = subst (λ (y : ℕ). Wanted M (home_of c y) j) (sym is) e.1; dot = w }

    old : (y : ℕ) → WakesBy C y → WakesBy D y
    old y v = (v.0, omega (arith, count-is, v.1), old-is v.0 v.1 ∙ v.2)

    new : (y : ℕ) → y ≡ x → WakesBy D y
    new y e = (q, omega (arith, count-is), new_is ∙ sym e)

    next : (y : ℕ) → FirstIn (k + 1) D y → (y ≡ x) ⊎ FirstIn k C y
    next = first_next C D k x dots (omega (arith, r.listed.count)) is

    pub wake-added : Sorted c M F size j (k + 1) k D
    wake-added = record {
      listed = listed_kept (length-set (set C (513 + q) x) 2049 (q + 1) ∙ length-set C (513 + q) x) dots r.listed;
      units = units-kept c F size C D shape (λ z a b. aside z (λ e. omega arith) (λ e. omega (arith, r.few-wakes, r.listed.count))) r.units;
      wakes = record {
        count = omega (arith, count-is, r.few-wakes, r.listed.count);
        each = λ l h. elim (ℕ_discrete l q) as (λ _. Wakes c M size j (get_or D (513 + l) 0)) [
          | yes e ↦ subst (Wakes c M size j) (sym (ap (λ (z : ℕ). get_or D (513 + z) 0) e ∙ new_is)) row
          | no e ↦ (let g : l < q = omega (arith, count-is) in subst (Wakes c M size j) (sym (old-is l g)) (r.wakes.each l g))
        ];
        rule = λ p h z e d. ⊎_elim (new (rule_at c p)) (λ v. old (rule_at c p) (r.wakes.rule p h z e v)) (next (rule_at c p) d);
        dot = λ p h z o b v d. ⊎_elim (new (p + 1)) (λ u. old (p + 1) (r.wakes.dot p h z o b v u)) (next (p + 1) d);
      };
      hands = hands-of (first-same C D k dots (omega (arith, r.listed.count))) (hands-kept (aside 2050 (λ e. omega arith) (λ e. omega (arith, r.few-wakes, r.listed.count)))
          (λ l h. (
            aside (1025 + l) (λ e. omega arith) (λ e. omega (arith, r.few-wakes, r.listed.count)),
            aside (1537 + l) (λ e. omega arith) (λ e. omega (arith, r.few-wakes, r.listed.count)),
          )) r.hands);
      few-wakes = omega (arith, count-is, r.few-wakes);
      few-hands = omega (arith, r.few-hands, aside 2050 (λ e. omega arith) (λ e. omega (arith, r.few-wakes, r.listed.count)));
    }

  -- the dot hands on nothing
  pub hand-skipped : Keeping c M j x → Sorted c M F size j (k + 1) k C → Sorted c M F size j (k + 1) (k + 1) C
  hand-skipped i r =
      let next = first_next C C k x (λ z h. refl) (omega (arith, r.listed.count)) is in
      record {
        listed = r.listed;
        units = r.units;
        wakes = r.wakes;
        hands = record {
          count = r.hands.count;
          each = r.hands.each;
          all = λ p h z o b d. ⊎_elim (λ w. absurd (i p (sym w) z o b)) (r.hands.all p h z o b) (next (p + 1) d);
        };
        few-wakes = r.few-wakes;
        few-hands = omega (arith, r.few-hands);
      }

  module _ (y : ℕ) (w : Handing c M size j x y) (r : Sorted c M F size j (k + 1) k C) where
    abbrev b : ℕ
    b = get_or C 2050 0

    abbrev B : List ℕ
    B = set (set C (1025 + b) x) (1537 + b) y

    abbrev E : List ℕ
    E = hand_added C x y

    room : b < 512
    room = omega (arith, r.few-hands, r.listed.count)

    B-long : length B ≡ 3789
    B-long = length-set (set C (1025 + b) x) (1537 + b) y ∙ length-set C (1025 + b) x ∙ r.listed.long

    past : (z : ℕ) → (z ≡ 2050 → ⊥) → (z ≡ 1025 + b → ⊥) → (z ≡ 1537 + b → ⊥) → get_or E z 0 ≡ get_or C z 0
    past z o o' o'' = get_or-set_other B 2050 z (b + 1) 0 o ∙ get_or-set_other (set C (1025 + b) x) (1537 + b) z y 0 o'' ∙ get_or-set_other C (1025 + b) z x 0 o'

    number_is : get_or E 2050 0 ≡ b + 1
    number_is = get_or-set_same B 2050 (b + 1) 0 (omega (arith, B-long))

    dot-is : get_or E (1025 + b) 0 ≡ x
    dot-is = get_or-set_other B 2050 (1025 + b) (b + 1) 0 (λ e. omega (arith, room)) ∙ get_or-set_other (set C (1025 + b) x) (1537 + b) (1025 + b) y 0 (λ e. omega arith)
        ∙ get_or-set_same C (1025 + b) x 0 (omega (arith, room, r.listed.long))

    row_is : get_or E (1537 + b) 0 ≡ y
    row_is = get_or-set_other B 2050 (1537 + b) (b + 1) 0 (λ e. omega (arith, room))
        ∙ get_or-set_same (set C (1025 + b) x) (1537 + b) y 0 (omega (arith, room, length-set C (1025 + b) x, r.listed.long))

    firsts : (z : ℕ) → z < 513 → get_or E z 0 ≡ get_or C z 0
    firsts z h = past z (λ e. omega arith) (λ e. omega arith) (λ e. omega arith)

    before : (l : ℕ) → l < b → (get_or E (1025 + l) 0 ≡ get_or C (1025 + l) 0) × (get_or E (1537 + l) 0 ≡ get_or C (1537 + l) 0)
    before l h = (
      past (1025 + l) (λ e. omega (arith, room)) (λ e. omega arith) (λ e. omega (arith, room)),
      past (1537 + l) (λ e. omega (arith, room)) (λ e. omega (arith, room)) (λ e. omega arith),
    )

    hand : Hands c M size j x y
    hand = let e = r.listed.each k below in
        record {
          later = w.later;
          inside = omega (arith, e.0);
          row = w.row;
          kind = w.kind;
          live = subst (λ (z : ℕ). Wanted M (home_of c z) j) (sym is) e.1;
          own = w.own;
          last = w.last;
        }

    pub hand-added : Sorted c M F size j (k + 1) (k + 1) E
    hand-added = record {
      listed = listed_kept (length-set B 2050 (b + 1) ∙ B-long ∙ sym r.listed.long) firsts r.listed;
      units = units-kept c F size C E shape (λ z l h. past z (λ e. omega arith) (λ e. omega (arith, room)) (λ e. omega (arith, room))) r.units;
      wakes = wakes-of (first-same C E (k + 1) firsts (omega (arith, r.listed.count))) (wakes-kept (past 2049 (λ e. omega arith) (λ e. omega (arith, room)) (λ e. omega (arith, room)))
          (λ l h. past (513 + l) (λ e. omega arith) (λ e. omega arith) (λ e. omega arith)) r.wakes);
      hands = record {
        count = omega (arith, number_is, room);
        each = λ l h. elim (ℕ_discrete l b) as (λ _. Hands c M size j (get_or E (1025 + l) 0) (get_or E (1537 + l) 0)) [
          | yes e ↦ subst (λ (z : ℕ). Hands c M size j (get_or E (1025 + z) 0) (get_or E (1537 + z) 0)) (sym e)
              (subst (λ (z : ℕ). Hands c M size j (get_or E (1025 + b) 0) z) (sym row_is) (subst (λ (z : ℕ). Hands c M size j z y) (sym dot-is) hand))
          | no e ↦ (let g : l < b = omega (arith, number_is) in let v = before l g in
              subst (λ (z : ℕ). Hands c M size j (get_or E (1025 + l) 0) z) (sym v.1) (subst (λ (z : ℕ). Hands c M size j z (get_or C (1537 + l) 0)) (sym v.0) (r.hands.each l g)))
        ];
        all = λ p h z o v d. ⊎_elim (λ e. (b, omega (arith, number_is), dot-is ∙ sym e))
            (λ u. let g = r.hands.all p h z o v u in (g.0, omega (arith, number_is, g.1), (before g.0 g.1).0 ∙ g.2))
            (first_next C E k x firsts (omega (arith, r.listed.count)) is (p + 1) d);
      };
      few-wakes = omega (arith, r.few-wakes, past 2049 (λ e. omega arith) (λ e. omega (arith, room)) (λ e. omega (arith, room)));
      few-hands = omega (arith, number_is, r.few-hands);
    }

-- none is looked at yet, and all are
module _ (c M F : List ℕ) (size j : ℕ) (C : List ℕ) where
  pub sorted_none : Shape c size → Listed c M size j C → UnitsTo c F size C → Sorted c M F size j 0 0 (set (set C 2049 0) 2050 0)
  sorted_none shape l u =
      let e : get_or (set (set C 2049 0) 2050 0) 2050 0 ≡ 0 = get_or-set_same (set C 2049 0) 2050 0 0 (omega (arith, length-set C 2049 0, l.long)) in
      let d : get_or (set (set C 2049 0) 2050 0) 2049 0 ≡ 0 = get_or-set_other (set C 2049 0) 2050 2049 0 0 (λ z. omega arith) ∙ get_or-set_same C 2049 0 0 (omega (arith, l.long)) in
      record {
        listed = listed_kept (length-set (set C 2049 0) 2050 0 ∙ length-set C 2049 0) (λ z h. same z (λ o. omega arith) (λ o. omega arith)) l;
        units = units-kept c F size C (set (set C 2049 0) 2050 0) shape (λ z a b. same z (λ o. omega arith) (λ o. omega arith)) u;
        wakes = record { count = omega arith; each = λ k h. absurd (omega arith); rule = λ p h z g v. absurd (omega (arith, v.1)); dot = λ q h z o b v s. absurd (omega (arith, s.1)) };
        hands = record { count = omega arith; each = λ k h. absurd (omega arith); all = λ p h z o b s. absurd (omega (arith, s.1)) };
        few-wakes = omega arith;
        few-hands = omega arith;
      }
    where
      same : (z : ℕ) → (z ≡ 2049 → ⊥) → (z ≡ 2050 → ⊥) → get_or (set (set C 2049 0) 2050 0) z 0 ≡ get_or C z 0
      same z o o' = get_or-set_other (set C 2049 0) 2050 z 0 0 o' ∙ get_or-set_other C 2049 z 0 0 o

  pub sorted_all : Shape c size → (k : ℕ) → get_or C 512 0 ≤ k → Sorted c M F size j k k C → Rows c M size j F C
  sorted_all shape k most r = record {
    listed = r.listed;
    units = r.units;
    wakes = record {
      count = r.wakes.count;
      each = r.wakes.each;
      rule = λ p h z e d. r.wakes.rule p h z e (due (rule_at c p) (shape.names p h z).0 d);
      dot = λ q h z o b v d. r.wakes.dot q h z o b v (due (q + 1) h d);
    };
    hands = record { count = r.hands.count; each = r.hands.each; all = λ p h z o b d. r.hands.all p h z o b (due (p + 1) h d) };
  }
    where
      due : (x : ℕ) → x < size → Due c M size j x → FirstIn k C x
      due x h d = let w = r.listed.all x h d in (w.0, omega (arith, w.1), w.2)
