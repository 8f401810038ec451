-- What uses of a rule have taken account of, one after the other.
use mathlib.Core.Bool.{true, false}
use mathlib.Core.List.{List}
use mathlib.Core.Logic.{◌⊎◌, inl, inr, ⊎_elim}
use mathlib.Core.Path.{◌≡◌, refl, sym, ap, subst, ◌∙◌}
use Prim.Native.Nat.{ℕ, ◌+◌, ◌*◌, ◌-◌, ◌<◌, ◌≤◌, max}
use native.Mathlib.Decide.{ℕ_discrete, dec_lt}
use native.Mathlib.Omega.{arith}
use lib.Dec.{eqb}
use lib.ListN.{get_or}
use Rattle.text.proofs.Tests.{clash}
use Rattle.chart.specs.Code.{next_kind, rule_at}
use Rattle.chart.specs.Heights.{none}
use Rattle.chart.specs.Uses.{LastUse, Uses}
use Rattle.heights.specs.Table.{up_of}
use Rattle.heights.specs.Part.{by-split}
use Rattle.heights.proofs.Values.{up_none, up-most}
use Rattle.reach.specs.Flags.{dot_at, Reached, Wanted, home_of}
use Rattle.reach.proofs.Closed.{home-next}
use Rattle.sparse.specs.Cells.{is_last, empty_in, empty_rest, rule_of, rest_of, Shape}
use Rattle.sparse.specs.Steps.{On}
use Rattle.sparse.proofs.Rows.{Over, by-terminal as over-t, by-symbol as over-s, over-some, last-is, rest-away, rest-last, rest-empty, empty-end}
use Rattle.sparse.proofs.Falls.{fell-refl, fell-join}
use Rattle.sparse.proofs.Toward.{toward-last}
use Rattle.queue.specs.Queue.{Pending, Queued}
use Rattle.settle.specs.Settle.{LeftHeld, RightHeld, Pends, Moved, Offered, Carried, AtLeft, LeftCarried, RightDone, LastDone, Falls, Used, Revisited}
use Rattle.settle.proofs.Held.{pending-kept, rule_end}
use Rattle.settle.proofs.Carrying.{pick-most, end-left}

module _ (c M F : List ℕ) (size n i j : ℕ) where
  -- the uses of e from x on
  pub record Revisiting (t₀ Q₀ t Q : List ℕ) (e x : ℕ) : Type 0 where
    pub moved : Moved c M F size n i j t₀ Q₀ t Q
    pub falls : Falls c M F size n i j t₀ Q₀ t Q
    pub right : (p : ℕ) → x ≤ p → p < size → next_kind c p ≡ 2 → rule_at c p ≡ e → RightDone c M F size n i j t Q p
    pub last : (q : ℕ) → x ≤ q + 1 → q + 1 < size → next_kind c (q + 1) ≡ 2 → rule_at c (q + 1) ≡ e → LastDone c M F size n i j t Q q
    pub below : x ≤ size
    pub is-use : (u : ℕ) → x ≡ u + 1 → (next_kind c u ≡ 2) × (rule_at c u ≡ e)

module _ (c M F : List ℕ) (size n i j : ℕ) (shape : Shape c size) (wide : i < j) (stop : j ≤ n) where
  over-above : (q v w : ℕ) → Over c M F q i v w → v ≤ w
  over-above q v w (over-t k g f is) = omega arith
  over-above q v w (over-s k is) = omega arith

  -- where the dot after it has no height
  pub left-of-none : (t : List ℕ) (q : ℕ) → rest_of c M F n t (q + 1) i j ≡ none → LeftHeld c M F size n i j t q
  left-of-none t q e l = absurd (omega (arith, over-above q (rest_of c M F n t (q + 1) i j) _ (over-some c M F q i (rest_of c M F n t (q + 1) i j) l).1))

  -- or its rule has none
  pub last-of-none : (t : List ℕ) (q : ℕ) → is_last c (q + 1) ≡ true → rule_of c M F n t (rule_at c (q + 1)) i j ≡ none → LeftHeld c M F size n i j t q
  last-of-none t q b z = let w = last-is c (q + 1) b in elim (dec_lt 0 (dot_at M (q + 1) i)) as (λ _. LeftHeld c M F size n i j t q) [
    | no u ↦ left-of-none t q (rest-away c M F n t (q + 1) i j (λ x. omega arith) (λ x. omega (arith, w.symbol)) (λ x. omega arith))
    | yes u ↦ left-of-none t q (rest-last c M F n t (q + 1) i j (λ x. omega arith) (λ x. omega (arith, w.symbol)) (omega arith) b
        ∙ up_none (rule_of c M F n t (rule_at c (q + 1)) i j) (omega arith))
  ]

  pub right-of-none : (t : List ℕ) (q : ℕ) → rule_of c M F n t (rule_at c q) i j ≡ none → RightHeld c M F size n i j t q
  right-of-none t q z k l = absurd (omega (arith, up_none (rule_of c M F n t (rule_at c q) i j) (omega arith)))

  pub moved-refl : {t Q : List ℕ} → Queued size Q → Moved c M F size n i j t Q t Q
  moved-refl y = record { fell = fell-refl c M F size n (j + 1); queued = y; pending = λ e h z. z; left = λ q on h. inr h; right = λ q on h. inr h }

  module _ {t Q t' Q' : List ℕ} (m : Moved c M F size n i j t Q t' Q') where
    pends-kept : (q : ℕ) → q + 1 < size → Pends c M F size n i j Q (q + 1) → Pends c M F size n i j Q' (q + 1)
    pends-kept q h x =
        let w = rule_end c M F size n i j shape wide stop (q + 1) h (last-is c (q + 1) x.0).symbol in
        pending-kept c M F size n i j Q Q' m.pending (q + 1) (omega (arith, w.0, shape.small)) x

    -- what is done stays done
    pub left-stays : (q : ℕ) → On c M size q i j → q + 1 < size → Pends c M F size n i j Q (q + 1) ⊎ LeftHeld c M F size n i j t q
        → Pends c M F size n i j Q' (q + 1) ⊎ LeftHeld c M F size n i j t' q
    left-stays q on h x = ⊎_elim (λ y. inl (pends-kept q h y)) (λ y. m.left q on y) x

    pub right-stays : (q : ℕ) → q < size → next_kind c q ≡ 2 → RightDone c M F size n i j t Q q → RightDone c M F size n i j t' Q' q
    right-stays q h k d on =
        let w = rule_end c M F size n i j shape wide stop q h k in
        ⊎_elim (λ x. inl (m.pending (rule_at c q) (omega (arith, w.0, shape.small)) x)) (λ x. m.right q on x) (d on)

    pub last-stays : (q : ℕ) → q + 1 < size → LastDone c M F size n i j t Q q → LastDone c M F size n i j t' Q' q
    last-stays q h d on b = left-stays q on h (d on b)

  -- the dot after q is in the table, or nothing is to hold at q
  pub left-next : {t Q t' Q' : List ℕ} → Moved c M F size n i j t Q t' Q' → (q : ℕ) → On c M size q i j
      → Pends c M F size n i j Q (q + 1) ⊎ LeftHeld c M F size n i j t q → Pends c M F size n i j Q' (q + 1) ⊎ LeftHeld c M F size n i j t' q
  left-next {t} {Q} {t'} {Q'} m q on x = elim (ℕ_discrete (next_kind c q) 0) as (λ _. Pends c M F size n i j Q' (q + 1) ⊎ LeftHeld c M F size n i j t' q) [
    | yes z ↦ inr (end-left c M F size n i j shape wide stop t' q z)
    | no z ↦ left-stays m q on (shape.nexts q on.inside z) x
  ]

  pub right-next : {t Q t' Q' : List ℕ} → Moved c M F size n i j t Q t' Q' → (q : ℕ) → On c M size q i j
      → Pending Q (rule_at c q) ⊎ RightHeld c M F size n i j t q → Pending Q' (rule_at c q) ⊎ RightHeld c M F size n i j t' q
  right-next {t} {Q} {t'} {Q'} m q on x = elim (ℕ_discrete (next_kind c q) 2) as (λ _. Pending Q' (rule_at c q) ⊎ RightHeld c M F size n i j t' q) [
    | no z ↦ inr (λ k l. absurd (z k))
    | yes z ↦ right-stays m q on.inside z (λ _. x) on
  ]

  pub moved-join : {t Q t' Q' u R : List ℕ} → Moved c M F size n i j t Q t' Q' → Moved c M F size n i j t' Q' u R → Moved c M F size n i j t Q u R
  moved-join m k = record {
    fell = fell-join c M F size n (j + 1) m.fell k.fell;
    queued = k.queued;
    pending = λ e h z. k.pending e h (m.pending e h z);
    left = λ q on h. left-next k q on (m.left q on h);
    right = λ q on h. right-next k q on (m.right q on h);
  }

  -- one use
  module _ (p : ℕ) (inside : p < size) (kind : next_kind c p ≡ 2) where
    -- nothing to do
    idle : {t Q : List ℕ} → Queued size Q → RightDone c M F size n i j t Q p → ((q : ℕ) → p ≡ q + 1 → LastDone c M F size n i j t Q q) → Used c M F size n i j t Q t Q p
    idle y r l = record { moved = moved-refl y; falls = omega arith; right = r; last = l }

    pub use-away : {t Q : List ℕ} → Queued size Q → (Reached M p i → ⊥) → Used c M F size n i j t Q t Q p
    use-away {t} y u = idle y (λ on. absurd (u on.used)) (λ q e on b. inr (left-of-none t q
        (ap (λ (x : ℕ). rest_of c M F n t x i j) (sym e) ∙ rest-away c M F n t p i j (λ x. omega arith) (λ x. omega arith) u)))

    pub use-unwanted : {t Q : List ℕ} → Queued size Q → (Wanted M (home_of c p) j → ⊥) → Used c M F size n i j t Q t Q p
    use-unwanted {t} y u = idle y (λ on. absurd (u on.live))
        (λ q e on b. absurd (u (subst (λ (x : ℕ). Wanted M x j) (sym (ap (home_of c) e ∙ home-next c q (last-is c (q + 1) b).inner)) on.live)))

    module _ (t : List ℕ) (v : ℕ) (is : v ≡ max (up_of (rule_of c M F n t (rule_at c p) i j)) (empty_rest c F (p + 1))) where
      pub use-some : empty_in F (p + 1) ≤ none → (v ≡ none → ⊥) → v < none
      use-some h d =
          let e = pick-most (eqb (next_kind c (p + 1)) 0) 0 (empty_in F (p + 1)) none (omega arith) h in
          omega (arith, up-most (rule_of c M F n t (rule_at c p) i j), d)

      -- the height of the dot itself
      pub last-value : is_last c p ≡ true → Reached M p i → v ≡ rest_of c M F n t p i j
      last-value b u =
          let w = last-is c p b in
          let z = empty-end c (p + 1) F w.stop in
          omega (arith, rest-last c M F n t p i j (λ x. omega arith) (λ x. omega arith) u b)

      pub use-none : {Q : List ℕ} → Queued size Q → v ≡ none → Used c M F size n i j t Q t Q p
      use-none y z = idle y (λ on. inr (λ k l. absurd (omega arith))) (λ q e on b. inr (left-of-none t q (none-at q e b)))
        where
          none-at : (q : ℕ) → p ≡ q + 1 → is_last c (q + 1) ≡ true → rest_of c M F n t (q + 1) i j ≡ none
          none-at q e b = elim (dec_lt 0 (dot_at M (q + 1) i)) as (λ _. rest_of c M F n t (q + 1) i j ≡ none) [
            | no u ↦ rest-away c M F n t (q + 1) i j (λ x. omega arith) (λ x. omega (arith, (last-is c (q + 1) b).symbol)) (λ x. omega arith)
            | yes u ↦ (let b' : is_last c p ≡ true = ap (is_last c) e ∙ b in
                let r = last-value b' (subst (λ (x : ℕ). Reached M x i) (sym e) (omega arith)) in
                sym (ap (λ (x : ℕ). rest_of c M F n t x i j) e) ∙ sym r ∙ z)
          ]

      pub use-left : is_last c p ≡ true → Reached M p i → Wanted M (home_of c p) j → v < none → AtLeft c M F size n i j t p v
      use-left b u l h = record { inside = inside; kind = λ z. omega arith; inner = (last-is c p b).inner; live = l; is = last-value b u; some = h }

      pub use-offer : is_last c p ≡ false → Reached M p i → Wanted M (home_of c p) j → v < none → Offered c M F size n i j t p v
      use-offer b u l h = record {
        on = record { inside = inside; used = u; live = l };
        kind = λ z. omega arith;
        row = b;
        offer = by-split j kind (omega arith) (omega arith) tt
            (is ∙ ap (λ (x : ℕ). max (up_of (rule_of c M F n t (rule_at c p) i j)) x) (sym (rest-empty c M F n t (p + 1) j j refl)));
        some = h;
      }

      pub used-last : {Q t' Q' : List ℕ} → is_last c p ≡ true → LeftCarried c M F size n i j t Q t' Q' p → Used c M F size n i j t Q t' Q' p
      used-last {Q} {t'} {Q'} b d = record {
        moved = d.moved;
        falls = d.falls;
        right = λ on. inr (λ k l. omega (arith, toward-last c M F size n t' p i j on wide (λ z. omega arith) b));
        last = λ q e on _. subst (λ (x : ℕ). Pends c M F size n i j Q' x ⊎ LeftHeld c M F size n i j t' q) e (d.left q e on);
      }

      pub used-carried : {Q t' Q' : List ℕ} → is_last c p ≡ false → Carried c M F size n i j t Q t' Q' p v → Used c M F size n i j t Q t' Q' p
      used-carried {Q} {t'} {Q'} b d = record {
        moved = d.moved;
        falls = d.falls;
        right = λ on. let w = rule_end c M F size n i j shape wide stop p inside kind in ⊎_elim (λ x. inl x)
            (λ x. inr (λ k l. omega (arith, d.low, ap (λ (z : ℕ). max (up_of z) (empty_rest c F (p + 1))) x))) (d.rules (rule_at c p) w.0 w.1);
        last = λ q e on y. absurd (clash b (ap (is_last c) e ∙ y));
      }

  pub revisit-start : {t Q : List ℕ} {e x : ℕ} → Queued size Q → LastUse c e size x → Revisiting c M F size n i j t Q t Q e x
  revisit-start y l = record {
    moved = moved-refl y;
    falls = omega arith;
    right = λ p h b k z. absurd (l.last p h b k z);
    last = λ q h b k z. absurd (l.last (q + 1) h b k z);
    below = l.below;
    is-use = l.is;
  }

  pub revisit-next : {t₀ Q₀ t Q t' Q' : List ℕ} (e u x' : ℕ) → Revisiting c M F size n i j t₀ Q₀ t Q e (u + 1) → Used c M F size n i j t Q t' Q' u → LastUse c (rule_at c u) u x' →
      Revisiting c M F size n i j t₀ Q₀ t' Q' e x'
  revisit-next {t' = t'} {Q' = Q'} e u x' a b l = record {
    moved = moved-join a.moved b.moved;
    falls = omega (arith, a.falls, b.falls);
    right = λ p h s k z. elim (dec_lt p u) as (λ _. RightDone c M F size n i j t' Q' p) [
      | yes d ↦ absurd (l.last p h d k (z ∙ sym is))
      | no d ↦ (elim (ℕ_discrete p u) as (λ _. RightDone c M F size n i j t' Q' p) [
        | yes w ↦ subst (RightDone c M F size n i j t' Q') (sym w) b.right
        | no w ↦ right-stays b.moved p s k (a.right p (omega arith) s k z)
      ])
    ];
    last = λ q h s k z. elim (dec_lt (q + 1) u) as (λ _. LastDone c M F size n i j t' Q' q) [
      | yes d ↦ absurd (l.last (q + 1) h d k (z ∙ sym is))
      | no d ↦ (elim (ℕ_discrete u (q + 1)) as (λ _. LastDone c M F size n i j t' Q' q) [
        | yes w ↦ b.last q w
        | no w ↦ last-stays b.moved q s (a.last q (omega arith) s k z)
      ])
    ];
    below = omega (arith, l.below, a.below);
    is-use = λ v w. let y = l.is v w in (y.0, y.1 ∙ is);
  }
    where
      is : rule_at c u ≡ e
      is = (a.is-use u refl).1

  -- as the code counts: x is one more than the use
  module _ {x x' : ℕ} (noted : Uses c size size F) (some : 0 < x) (below : x ≤ size) (k : next_kind c (x - 1) ≡ 2) (is : x' ≡ get_or F (2 * x - 1) 0) where
    pub link : LastUse c (rule_at c (x - 1)) (x - 1) x'
    link = let z : 2 * x - 1 ≡ 2 * (x - 1) + 1 = omega arith in
        subst (LastUse c (rule_at c (x - 1)) (x - 1)) (sym (is ∙ ap (λ (y : ℕ). get_or F y 0) z)) (noted.next (x - 1) (omega arith) k)

    pub revisit-again : {t₀ Q₀ t Q t' Q' : List ℕ} {e : ℕ} → Revisiting c M F size n i j t₀ Q₀ t Q e x → Used c M F size n i j t Q t' Q' (x - 1) → Revisiting c M F size n i j t₀ Q₀ t' Q' e x'
    revisit-again {t₀} {Q₀} {t} {Q} {e = e} a b = let z : x ≡ x - 1 + 1 = omega arith in
        revisit-next e (x - 1) x' (subst (Revisiting c M F size n i j t₀ Q₀ t Q e) z a) b link

  pub revisit-end : {t₀ Q₀ t Q : List ℕ} {e : ℕ} → Revisiting c M F size n i j t₀ Q₀ t Q e 0 → Revisited c M F size n i j t₀ Q₀ t Q e
  revisit-end a = record { moved = a.moved; falls = a.falls; right = λ p h k z. a.right p (omega arith) h k z; last = λ q h k z. a.last q (omega arith) h k z }
