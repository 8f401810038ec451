-- A height goes from dot to dot, to the left.
use mathlib.Core.Bool.{Bool, true, false}
use mathlib.Core.List.{List}
use mathlib.Core.Logic.{◌⊎◌, inl, inr, ⊎_elim}
use mathlib.Core.Path.{◌≡◌, refl, sym, ap, subst, ◌∙◌}
use Prim.Native.Nat.{ℕ, ◌+◌, ◌*◌, ◌-◌, ◌<◌, ◌≤◌, max}
use native.Mathlib.Decide.{ℕ_discrete}
use native.Mathlib.Omega.{arith}
use lib.Dec.{eqb, leb}
use Rattle.text.specs.Lists.{pick}
use Rattle.text.proofs.Tests.{clash}
use Rattle.chart.specs.Code.{next_kind, goes_at, rule_at, owner_at}
use Rattle.chart.specs.Heights.{none}
use Rattle.heights.specs.Table.{up_of}
use Rattle.heights.specs.Filling.{total, Only}
use Rattle.heights.specs.Part.{by-terminal, by-split}
use Rattle.heights.proofs.Values.{up-most}
use Rattle.reach.specs.Flags.{dot_at, Wanted, home_of}
use Rattle.reach.proofs.Closed.{home-next}
use Rattle.sparse.specs.Cells.{empty_in, rule_of, rest_of, Shape}
use Rattle.sparse.specs.Steps.{toward_of, OffersAt, Fell, On, over_of}
use Rattle.sparse.proofs.Rows.{Over, by-terminal as over-t, by-symbol as over-s, over-some, last-is, last-not, rule-empty}
use Rattle.sparse.proofs.Falls.{fell-refl, fell-join}
use Rattle.sparse.proofs.Toward.{fell-toward}
use Rattle.queue.specs.Queue.{Pending, count_of, Queued}
use Rattle.settle.specs.Settle.{LeftHeld, RightHeld, Pends, Offered, Put, Carried, AtLeft, LeftCarried}
use Rattle.settle.proofs.Held.{left-kept, right_kept, pending-kept, rule_end}

pub pick-most : (b : Bool) (x y m : ℕ) → x ≤ m → y ≤ m → pick b x y ≤ m
pick-most true x y m h l = h
pick-most false x y m h l = l

pub over-most : (c M F : List ℕ) (p i v : ℕ) → v ≤ none → over_of c M F p i v ≤ none
unfolding over_of
over-most c M F p i v h = pick-most (leb 1 (dot_at M p i)) _ _ none (pick-most (eqb (next_kind c p) 1) _ _ none
    (pick-most (eqb (goes_at c p) 0) _ _ none (pick-most (leb 2 (dot_at M p i)) _ _ none h (omega arith)) (omega arith))
    (pick-most (eqb (next_kind c p) 2) _ _ none (omega (arith, up-most (empty_in F (rule_at c p)))) (omega arith))) (omega arith)

module _ (c M F : List ℕ) (size n i j : ℕ) where
  -- the height v is to be put at p; what the dot p had from the dot after it may not hold any more, and v is that
  pub record Carrying (t₀ Q₀ t Q : List ℕ) (p₀ v₀ p v : ℕ) : Type 0 where
    pub fell : Fell c M F size n (j + 1) (Only i j) t₀ t
    pub queued : Queued size Q
    pub pending : (e : ℕ) → e < 512 → Pending Q₀ e → Pending Q e
    pub falls : 2 * total t + count_of Q ≤ 2 * total t₀ + count_of Q₀
    pub left : (q : ℕ) → On c M size q i j → LeftHeld c M F size n i j t₀ q
        → ((q ≡ p) × (v ≡ over_of c M F p i (rest_of c M F n t (p + 1) i j))) ⊎ (Pends c M F size n i j Q (q + 1) ⊎ LeftHeld c M F size n i j t q)
    pub right : (q : ℕ) → On c M size q i j → RightHeld c M F size n i j t₀ q → Pending Q (rule_at c q) ⊎ RightHeld c M F size n i j t q
    pub low : ((p ≡ p₀) × (v ≡ v₀)) ⊎ (toward_of c M F n t p₀ i j ≤ v₀)
    pub offer : Offered c M F size n i j t p v
    pub down : p ≤ p₀
    pub rules : (e : ℕ) → e < size → next_kind c e ≡ 0 → Pending Q e ⊎ (rule_of c M F n t e i j ≡ rule_of c M F n t₀ e i j)
    pub rests : (q : ℕ) → p₀ < q → q < size → Pends c M F size n i j Q q ⊎ (rest_of c M F n t q i j ≡ rest_of c M F n t₀ q i j)

module _ (c M F : List ℕ) (size n i j : ℕ) (shape : Shape c size) (wide : i < j) (stop : j ≤ n) where
  -- what the dot after q has, q is offered where its symbol takes nothing
  over_by : (t : List ℕ) (q v w : ℕ) → v ≡ rest_of c M F n t (q + 1) i j → Over c M F q i v w → OffersAt c M F size n t q i j w
  over_by t q v w e (over-t k g f is) =
      let z : i + goes_at c q ≡ i = omega arith in
      by-terminal k f (omega arith) (is ∙ e ∙ ap (λ (x : ℕ). rest_of c M F n t (q + 1) x j) (sym z))
  over_by t q v w e (over-s k is) =
      by-split i k (omega arith) (omega arith) tt (is ∙ (λ ι. max (up_of (sym (rule-empty c M F n t (rule_at c q) i i refl) ι)) (e ι)))

  over-kind : (q v w : ℕ) → Over c M F q i v w → next_kind c q ≡ 0 → ⊥
  over-kind q v w (over-t k g f is) z = omega arith
  over-kind q v w (over-s k is) z = omega arith

  -- at an end nothing is to hold
  pub end-left : (t : List ℕ) (q : ℕ) → next_kind c q ≡ 0 → LeftHeld c M F size n i j t q
  end-left t q z l = absurd (over-kind q (rest_of c M F n t (q + 1) i j) _ (over-some c M F q i (rest_of c M F n t (q + 1) i j) l).1 z)

  -- where the dot after it has no height that it gets
  pub none_left : (t : List ℕ) (q v : ℕ) → v ≡ rest_of c M F n t (q + 1) i j → over_of c M F q i v ≡ none → LeftHeld c M F size n i j t q
  none_left t q v e z l = absurd (omega (arith, ap (over_of c M F q i) e))

  pub over-offered : (t : List ℕ) (q x v : ℕ) → x ≡ q + 1 → x < size → (next_kind c x ≡ 0 → ⊥) → owner_at c x ≡ 0 → Wanted M (home_of c x) j → v ≡ rest_of c M F n t x i j
      → over_of c M F q i v < none → Offered c M F size n i j t q (over_of c M F q i v)
  over-offered t q x v ex h k o live e l =
      let y = over-some c M F q i v l in
      let e' : v ≡ rest_of c M F n t (q + 1) i j = e ∙ ap (λ (z : ℕ). rest_of c M F n t z i j) ex in
      let o' : owner_at c (q + 1) ≡ 0 = subst (λ (z : ℕ). owner_at c z ≡ 0) ex o in
      let same : home_of c x ≡ home_of c q = ap (home_of c) ex ∙ home-next c q o' in
      record {
        on = record { inside = omega arith; used = y.0; live = subst (λ (z : ℕ). Wanted M z j) same live };
        kind = over-kind q v _ y.1;
        row = last-not c q (λ d. k (subst (λ (z : ℕ). next_kind c z ≡ 0) (sym ex) d.stop));
        offer = over_by t q v _ e' y.1;
        some = l;
      }

  pub carrying-start : {t Q : List ℕ} {p v : ℕ} → Queued size Q → Offered c M F size n i j t p v → Carrying c M F size n i j t Q t Q p v p v
  carrying-start q o = record {
    fell = fell-refl c M F size n (j + 1);
    queued = q;
    pending = λ e h x. x;
    falls = omega arith;
    left = λ x h l. inr (inr l);
    right = λ x h l. inr l;
    low = inl (refl, refl);
    offer = o;
    down = omega arith;
    rules = λ e h z. inr refl;
    rests = λ q l h. inr refl;
  }

  module _ {t₀ Q₀ t Q t' Q' : List ℕ} {p₀ v₀ p v : ℕ} {r : Bool} (a : Carrying c M F size n i j t₀ Q₀ t Q p₀ v₀ p v) (b : Put c M F size n i j t Q t' Q' p v r) where
    Left : ℕ → Type 0
    Left q = ((r ≡ true) × (q + 1 ≡ p)) ⊎ (Pends c M F size n i j Q' (q + 1) ⊎ LeftHeld c M F size n i j t' q)

    -- the dot q, with the dot after it in the table
    module _ (q : ℕ) (on : On c M size q i j) (kind : next_kind c q ≡ 0 → ⊥) where
      next : q + 1 < size
      next = shape.nexts q on.inside kind

      kept : LeftHeld c M F size n i j t q → Left q
      unfolding Left
      kept h = ⊎_elim (λ x. inl x) (λ x. inr (⊎_elim (λ y. inl y) (λ y. inr (left-kept c M F size n i j b.fell q y h)) x)) (b.rests (q + 1) next)

      pends : Pends c M F size n i j Q (q + 1) → Left q
      unfolding Left
      pends x =
          let w = rule_end c M F size n i j shape wide stop (q + 1) next (last-is c (q + 1) x.0).symbol in
          inr (inl (pending-kept c M F size n i j Q Q' b.pending (q + 1) (omega (arith, w.0, shape.small)) x))

      broken : q ≡ p → v ≡ over_of c M F p i (rest_of c M F n t (p + 1) i j) → Left q
      unfolding Left
      broken d e = ⊎_elim (λ x. absurd (omega (arith, x.1)))
          (λ x. inr (⊎_elim (λ y. inl y) (λ y. inr (λ l.
          let z : over_of c M F q i (rest_of c M F n t' (q + 1) i j) ≡ v = ap (over_of c M F q i) y ∙ ap (λ (x : ℕ). over_of c M F x i (rest_of c M F n t (x + 1) i j)) d ∙ sym e in
          omega (arith, b.low, ap (λ (x : ℕ). toward_of c M F n t' x i j) d))) x)) (b.rests (q + 1) next)

    after-left : (q : ℕ) → On c M size q i j → LeftHeld c M F size n i j t₀ q → Left q
    unfolding Left
    after-left q on h = elim (ℕ_discrete (next_kind c q) 0) as (λ _. Left q) [
      | yes z ↦ inr (inr (end-left t' q z))
      | no z ↦ ⊎_elim (λ x. broken q on z x.0 x.1) (λ x. ⊎_elim (pends q on z) (kept q on z) x) (a.left q on h)
    ]

    after-right : (q : ℕ) → On c M size q i j → RightHeld c M F size n i j t₀ q → Pending Q' (rule_at c q) ⊎ RightHeld c M F size n i j t' q
    after-right q on h = elim (ℕ_discrete (next_kind c q) 2) as (λ _. Pending Q' (rule_at c q) ⊎ RightHeld c M F size n i j t' q) [
      | no z ↦ inr (λ k l. absurd (z k))
      | yes z ↦ (let w = rule_end c M F size n i j shape wide stop q on.inside z in
          ⊎_elim (λ x. inl (b.pending (rule_at c q) (omega (arith, w.0, shape.small)) x))
          (λ x. ⊎_elim (λ y. inl y) (λ y. inr (right_kept c M F size n i j b.fell q (λ _. y) x)) (b.rules (rule_at c q) w.0 w.1)) (a.right q on h))
    ]

    after-low : toward_of c M F n t' p₀ i j ≤ v₀
    after-low = ⊎_elim (λ x. omega (arith, b.low, ap (λ (z : ℕ). toward_of c M F n t' z i j) x.0, x.1)) (λ x. omega (arith, fell-toward b.fell p₀ i j)) a.low

    after-rules : (e : ℕ) → e < size → next_kind c e ≡ 0 → Pending Q' e ⊎ (rule_of c M F n t' e i j ≡ rule_of c M F n t₀ e i j)
    after-rules e h z = ⊎_elim (λ x. inl (b.pending e (omega (arith, shape.small)) x))
        (λ x. ⊎_elim (λ y. inl y) (λ y. inr (y ∙ x)) (b.rules e h z)) (a.rules e h z)

    after-rests : (q : ℕ) → p₀ < q → q < size → Pends c M F size n i j Q' q ⊎ (rest_of c M F n t' q i j ≡ rest_of c M F n t₀ q i j)
    after-rests q l h = ⊎_elim
        (λ x. let w = rule_end c M F size n i j shape wide stop q h (last-is c q x.0).symbol in
        inl (pending-kept c M F size n i j Q Q' b.pending q (omega (arith, w.0, shape.small)) x))
        (λ x. ⊎_elim (λ y. absurd (omega (arith, y.1, a.down))) (λ y. ⊎_elim (λ z. inl z) (λ z. inr (z ∙ x)) y) (b.rests q h)) (a.rests q l h)

    carried : ((q : ℕ) → On c M size q i j → (r ≡ true) × (q + 1 ≡ p) → LeftHeld c M F size n i j t' q) → Carried c M F size n i j t₀ Q₀ t' Q' p₀ v₀
    unfolding Left
    carried w = record {
      moved = record {
        fell = fell-join c M F size n (j + 1) a.fell b.fell;
        queued = b.queued;
        pending = λ e h x. b.pending e h (a.pending e h x);
        left = λ q on h. ⊎_elim (λ x. inr (w q on x)) (λ x. x) (after-left q on h);
        right = after-right;
      };
      falls = omega (arith, a.falls, b.falls);
      low = after-low;
      rules = after-rules;
      rests = after-rests;
    }

    pub carry-end : r ≡ false → Carried c M F size n i j t₀ Q₀ t' Q' p₀ v₀
    carry-end e = carried (λ q on x. absurd (clash e x.0))

    pub carry-first : p ≡ 0 → Carried c M F size n i j t₀ Q₀ t' Q' p₀ v₀
    carry-first e = carried (λ q on x. absurd (omega (arith, x.1)))

    module _ (is : r ≡ true) (some : p ≡ 0 → ⊥) where
      before : p ≡ p - 1 + 1
      before = omega arith

      value : v ≡ rest_of c M F n t' (p - 1 + 1) i j
      value = sym (b.is is).0 ∙ ap (λ (z : ℕ). rest_of c M F n t' z i j) before

      pub carry-none : over_of c M F (p - 1) i v ≡ none → Carried c M F size n i j t₀ Q₀ t' Q' p₀ v₀
      carry-none e = carried (λ q on x. let d : p - 1 ≡ q = omega (arith, x.1) in
          subst (λ (z : ℕ). LeftHeld c M F size n i j t' z) d (none_left t' (p - 1) v value e))

      pub carry-next : over_of c M F (p - 1) i v < none → Carrying c M F size n i j t₀ Q₀ t' Q' p₀ v₀ (p - 1) (over_of c M F (p - 1) i v)
      unfolding Left
      carry-next l = record {
        fell = fell-join c M F size n (j + 1) a.fell b.fell;
        queued = b.queued;
        pending = λ e h x. b.pending e h (a.pending e h x);
        falls = omega (arith, a.falls, b.falls);
        left = λ q on h. ⊎_elim (λ x. inl (omega (arith, x.1), ap (over_of c M F (p - 1) i) value)) (λ x. inr x) (after-left q on h);
        right = after-right;
        low = inr after-low;
        offer = over-offered t' (p - 1) p v before a.offer.on.inside a.offer.kind (b.is is).1 a.offer.on.live (sym (b.is is).0) l;
        down = omega (arith, a.down);
        rules = after-rules;
        rests = after-rests;
      }

      pub carry-next-at : (h : ℕ) → h ≡ over_of c M F (p - 1) i v → (h ≡ none → ⊥) → Carrying c M F size n i j t₀ Q₀ t' Q' p₀ v₀ (p - 1) h
      carry-next-at h e d =
          let some : over_of c M F (p - 1) i v ≡ none → ⊥ = λ z. d (e ∙ z) in
          let most = over-most c M F (p - 1) i v (omega (arith, a.offer.some)) in
          subst (Carrying c M F size n i j t₀ Q₀ t' Q' p₀ v₀ (p - 1)) (sym e) (carry-next (omega arith))

  -- the dot before x, of which the height is known
  module _ {t : List ℕ} {x v : ℕ} (a : AtLeft c M F size n i j t x v) where
    stays : {Q : List ℕ} → Queued size Q → ((q : ℕ) → x ≡ q + 1 → On c M size q i j → LeftHeld c M F size n i j t q) → LeftCarried c M F size n i j t Q t Q x
    stays y w = record {
      moved = record {
        fell = fell-refl c M F size n (j + 1);
        queued = y;
        pending = λ e h z. z;
        left = λ q on h. inr h;
        right = λ q on h. inr h;
      };
      falls = omega arith;
      left = λ q e on. inr (w q e on);
    }

    pub left-first : {Q : List ℕ} → Queued size Q → x ≡ 0 → LeftCarried c M F size n i j t Q t Q x
    left-first y e = stays y (λ q d on. absurd (omega arith))

    module _ (some : x ≡ 0 → ⊥) where
      is-next : x ≡ x - 1 + 1
      is-next = omega arith

      pub left-none : {Q : List ℕ} → Queued size Q → over_of c M F (x - 1) i v ≡ none → LeftCarried c M F size n i j t Q t Q x
      left-none y e = stays y (λ q d on. let w : x - 1 ≡ q = omega arith in
          subst (λ (z : ℕ). LeftHeld c M F size n i j t z) w (none_left t (x - 1) v (a.is ∙ ap (λ (z : ℕ). rest_of c M F n t z i j) is-next) e))

      pub left-offer : over_of c M F (x - 1) i v < none → Offered c M F size n i j t (x - 1) (over_of c M F (x - 1) i v)
      left-offer l = over-offered t (x - 1) x v is-next a.inside a.kind a.inner a.live a.is l

      -- the height is carried on from there
      pub left-carried : {Q t' Q' : List ℕ} (h : ℕ) → h ≡ over_of c M F (x - 1) i v → Carried c M F size n i j t Q t' Q' (x - 1) h → LeftCarried c M F size n i j t Q t' Q' x
      left-carried {Q} {t'} {Q'} h e d = record {
        moved = d.moved;
        falls = d.falls;
        left = λ q z on. ⊎_elim (λ y. inl y) (λ y. inr (λ l.
            let w : x - 1 ≡ q = omega arith in
            let u : rest_of c M F n t' (q + 1) i j ≡ v = ap (λ (k : ℕ). rest_of c M F n t' k i j) (sym z) ∙ y ∙ sym a.is in
            let k : over_of c M F q i (rest_of c M F n t' (q + 1) i j) ≡ h = ap (over_of c M F q i) u ∙ ap (λ (k : ℕ). over_of c M F k i v) (sym w) ∙ sym e in
            omega (arith, d.low, ap (λ (k : ℕ). toward_of c M F n t' k i j) w))) (d.rests x (omega arith) a.inside);
      }

      pub left-offer-at : (h : ℕ) → h ≡ over_of c M F (x - 1) i v → (h ≡ none → ⊥) → Offered c M F size n i j t (x - 1) h
      left-offer-at h e d =
          let some : over_of c M F (x - 1) i v ≡ none → ⊥ = λ z. d (e ∙ z) in
          let most = over-most c M F (x - 1) i v (omega (arith, a.some)) in
          subst (Offered c M F size n i j t (x - 1)) (sym e) (left-offer (omega arith))
