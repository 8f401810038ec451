-- Laws of the flags: what is added, and what is kept by a step.
use mathlib.Core.Bool.{Bool, true, false}
use mathlib.Core.List.{List}
use mathlib.Core.Logic.{◌⊎◌, inl, inr, ⊎_elim}
use mathlib.Core.Path.{◌≡◌, refl, sym, ap, subst, ◌∙◌}
use Prim.Native.Nat.{ℕ, ◌+◌, ◌*◌, ◌-◌, ◌<◌, ◌≤◌}
use native.Mathlib.Decide.{ℕ_discrete}
use native.Mathlib.Omega.{arith}
use lib.Dec.{leb, leb→le, le→leb}
use lib.ListN.{length, get_or, set, length-set}
use lib.Seq.{get_or-set_same, get_or-set_other}
use Rattle.text.proofs.Tests.{is_t, not_t}
use Rattle.chart.specs.Code.{next_kind, goes_at, rule_at}
use Rattle.chart.specs.Heights.{none}
use Rattle.heights.specs.Filling.{total}
use Rattle.heights.proofs.Lowering.{sum-set}
use Rattle.reach.specs.Flags.{Fits}
use Rattle.reach.specs.Work.{Listed, l-here, l-next, Linked}
use Rattle.sparse.specs.Cells.{rule_of}
use Rattle.stands.specs.Viable.{Begins, Next, by-terminal, by-entering, by-passing, Viable, at_first, onward, Ground}
use Rattle.stands.specs.State.{flag_at, Stood, Bare, Added, Is, Entered, PassedAt, Passed, Standing, Following, Followed}
use Rattle.stands.specs.State.{Sound, Done, Quiet, Grown, Stepped, Closed, Exact}

-- 1. What is added.
pub added_none : {W : List ℕ} {N : ℕ → Type 0} → Added W W N
added_none = record { long = refl; sum = omega arith; cell = λ x. inl refl }

pub added-le : {W W' : List ℕ} {N : ℕ → Type 0} → Added W W' N → (x : ℕ) → get_or W' x 0 ≤ get_or W x 0
added-le a x = ⊎_elim (λ e. omega arith) (λ e. omega (arith, e.1, e.2)) (a.cell x)

pub added-join : {W W' W'' : List ℕ} {N : ℕ → Type 0} → Added W W' N → Added W' W'' N → Added W W'' N
added-join {W} {W'} {W''} {N} a b = record { long = b.long ∙ a.long; sum = omega (arith, a.sum, b.sum); cell = cell }
  where
    cell : (x : ℕ) → (get_or W'' x 0 ≡ get_or W x 0) ⊎ (N x × (1 < get_or W x 0) × (get_or W'' x 0 ≡ 1))
    cell x = ⊎_elim
        (λ e. ⊎_elim (λ f. inl (e ∙ f)) (λ f. inr (f.0, f.1, e ∙ f.2)) (a.cell x))
        (λ e. inr (e.0, omega (arith, e.1, added-le a x), e.2))
        (b.cell x)

pub added-as : {W W' : List ℕ} {N P : ℕ → Type 0} → ((x : ℕ) → N x → P x) → Added W W' N → Added W W' P
added-as f a = record { long = a.long; sum = a.sum; cell = λ x. ⊎_elim inl (λ e. inr (f x e.0, e.1, e.2)) (a.cell x) }

-- a flag outside N is as it was
pub added-same : {W W' : List ℕ} {N : ℕ → Type 0} → Added W W' N → (x : ℕ) → (N x → ⊥) → get_or W' x 0 ≡ get_or W x 0
added-same a x n = ⊎_elim (λ e. e) (λ e. absurd (n e.0)) (a.cell x)

pub is_set : (W : List ℕ) (x : ℕ) → x < length W → 1 < get_or W x 0 → Is W (set W x 1) x
is_set W x h l = record {
  added = record { long = length-set W x 1; sum = let s = sum-set W x 1 l in omega arith; cell = cell };
  there = let e = get_or-set_same W x 1 0 h in omega arith;
}
  where
    cell : (y : ℕ) → (get_or (set W x 1) y 0 ≡ get_or W y 0) ⊎ ((y ≡ x) × (1 < get_or W y 0) × (get_or (set W x 1) y 0 ≡ 1))
    cell y = elim (ℕ_discrete y x) as (λ _. (get_or (set W x 1) y 0 ≡ get_or W y 0) ⊎ ((y ≡ x) × (1 < get_or W y 0) × (get_or (set W x 1) y 0 ≡ 1))) [
      | yes e ↦ inr (e, subst (λ (z : ℕ). 1 < get_or W z 0) (sym e) l, ap (λ (z : ℕ). get_or (set W x 1) z 0) e ∙ get_or-set_same W x 1 0 h)
      | no e ↦ inl (get_or-set_other W x y 1 0 e)
    ]

pub is-kept : (W : List ℕ) (x : ℕ) → get_or W x 0 ≤ 1 → Is W W x
is-kept W x l = record { added = added_none; there = omega arith }

-- 2. The dots of a list.
pub list-below : {L : List ℕ} {size e : ℕ} → Linked size L → e < size → (q : ℕ) → Begins L e q → q < size
list-below {L} {size} {e} w h q l = go (get_or L (2 * e) 0) (w.last e h) (λ u v. v) l
  where
    go : (x : ℕ) → x ≤ size → ((u : ℕ) → Listed L x u → Begins L e u) → Listed L x q → q < size
    go x b f (l-here z) = omega arith
    go x b f (l-next v z r) =
        let n = w.next e v h (f v (l-here z)) in
        go (get_or L (2 * v + 1) 0) (omega arith) (λ u y. f u (l-next v z y)) r

-- the dots of the list before x are done; `at` is the first flag of the place
pub record Enters (L W₀ W : List ℕ) (size at e next low x : ℕ) : Type 0 where
  pub added : Added W₀ W (λ y. (q : ℕ) × Begins L e q × (y ≡ at + q))
  pub least : low ≤ next
  pub below : x ≤ size
  pub within : (u : ℕ) → Listed L x u → Begins L e u
  pub done : (u : ℕ) → Begins L e u → Listed L x u ⊎ (get_or W (at + u) 0 < 2)
  pub kept : (q : ℕ) → q < low → get_or W (at + q) 0 ≡ get_or W₀ (at + q) 0

pub enters-start : {L W : List ℕ} {size at e : ℕ} (next : ℕ) → Linked size L → e < size → Enters L W W size at e next next (get_or L (2 * e) 0)
enters-start {e = e} next w h = record { added = added_none; least = omega arith; below = w.last e h; within = λ u l. l; done = λ u l. inl l; kept = λ q l. refl }

module _ {L W₀ W : List ℕ} {size at e next low x : ℕ} (w : Linked size L) (inside : e < size) (s : Enters L W₀ W size at e next low x) where
  same-link : 0 < x → get_or L (2 * (x - 1) + 1) 0 ≡ get_or L (2 * x - 1) 0
  same-link h = ap (λ (z : ℕ). get_or L z 0) (let z : 2 * (x - 1) + 1 ≡ 2 * x - 1 = omega arith in z)

  here : 0 < x → Listed L x (x - 1)
  here h = l-here (let z : x ≡ (x - 1) + 1 = omega arith in z)

  pub enters-less : 0 < x → get_or L (2 * x - 1) 0 < x
  enters-less h = omega (arith, same-link h, w.next e (x - 1) inside (s.within (x - 1) (here h)))

  pub enters-next : {W' : List ℕ} {low' : ℕ} → 0 < x → low' ≤ low → low' ≤ x - 1 → Is W W' (at + (x - 1)) → Enters L W₀ W' size at e next low' (get_or L (2 * x - 1) 0)
  enters-next {W'} {low'} h l1 l2 a = record {
    added = added-join s.added (added-as (λ y z. (x - 1, s.within (x - 1) (here h), z)) a.added);
    least = omega (arith, s.least);
    below = omega (arith, enters-less h, s.below);
    within = λ u v. s.within u (l-next (x - 1) (let z : x ≡ (x - 1) + 1 = omega arith in z) (subst (λ (y : ℕ). Listed L y u) (sym (same-link h)) v));
    done = λ u v. ⊎_elim (step u) (λ f. inr (omega (arith, f, added-le a.added (at + u)))) (s.done u v);
    kept = λ b c. added-same a.added (at + b) (λ z. omega arith) ∙ s.kept b (omega arith);
  }
    where
      step : (u : ℕ) → Listed L x u → Listed L (get_or L (2 * x - 1) 0) u ⊎ (get_or W' (at + u) 0 < 2)
      step u (l-here z) = let t : x - 1 ≡ u = omega arith in inr (subst (λ (y : ℕ). get_or W' (at + y) 0 < 2) t a.there)
      step u (l-next v z r) = inl (subst (λ (y : ℕ). Listed L y u) (ap (λ (y : ℕ). get_or L (2 * y + 1) 0) (let y : v ≡ x - 1 = omega arith in y) ∙ same-link h) r)

pub enters-end : {L W₀ W : List ℕ} {size i e next low x : ℕ} → Enters L W₀ W size (512 * i) e next low x → (0 < x → ⊥) → Entered L W₀ W i e next low
enters-end {L} {W₀} {W} {size} {i} {e} {next} {low} {x} s n =
    record { added = s.added; there = λ q l. ⊎_elim (λ z. none q z) (λ z. z) (s.done q l); low = s.least; below = λ q h l. s.kept q h }
  where
    none : (u : ℕ) → Listed L x u → Stood W u i
    none u (l-here z) = absurd (n (omega arith))
    none u (l-next v z r) = absurd (n (omega arith))

-- 3. Past a symbol.
module _ {M F H W : List ℕ} {e n i p m : ℕ} where
  pub passed-at : {W' : List ℕ} {h : ℕ} → ((c : List ℕ) → h ≡ rule_of c M F n H e i m) → h < none → Is W W' (512 * m + (p + 1)) → PassedAt M F H W W' e n i p m
  passed-at {h = h} f l a = record {
    added = λ c. added-as (λ x z. (subst (λ (v : ℕ). v < none) (f c) l, z)) a.added;
    there = λ c _. a.there;
  }

  pub passed-not : {h : ℕ} → ((c : List ℕ) → h ≡ rule_of c M F n H e i m) → none ≤ h → PassedAt M F H W W e n i p m
  passed-not f l = record { added = λ c. added_none; there = λ c k. absurd (omega (arith, f c)) }

pub passed_none : {M F H W : List ℕ} {e n i p : ℕ} → Passed M F H W W e n i p i
passed_none = record { added = λ c. added_none; there = λ c m h l. absurd (omega arith) }

pub passed-next : {M F H W W' W'' : List ℕ} {e n i p m : ℕ} → i ≤ m → Passed M F H W W' e n i p m → PassedAt M F H W' W'' e n i p m → Passed M F H W W'' e n i p (m + 1)
passed-next {M} {F} {H} {W} {W'} {W''} {e} {n} {i} {p} {m} l a b = record {
  added = λ c. added-join (added-as (λ x z. (z.0, z.1, omega (arith, z.2), z.3, z.4)) (a.added c)) (added-as (λ x z. (m, l, omega arith, z.0, z.1)) (b.added c));
  there = λ c k h j r. elim (ℕ_discrete k m) as (λ _. Stood W'' (p + 1) k) [
    | yes z ↦ subst (λ (y : ℕ). Stood W'' (p + 1) y) (sym z) (b.there c (subst (λ (y : ℕ). rule_of c M F n H e i y < none) z r))
    | no z ↦ omega (arith, a.there c k h (omega arith) r, added-le (b.added c) (512 * k + (p + 1)))
  ];
}

pub passed-end : {M F H W W' : List ℕ} {e n i p m : ℕ} → m ≡ n + 1 → Passed M F H W W' e n i p m → Passed M F H W W' e n i p (n + 1)
passed-end {M} {F} {H} {W} {W'} {e} {n} {i} {p} z a = subst (λ (b : ℕ). Passed M F H W W' e n i p b) z a

-- a flag that says whether a terminal fits
pub fit-yes : {r : Bool} (x : ℕ) → r ≡ leb 2 x → r ≡ true → 2 ≤ x
fit-yes x e t = leb→le 2 x (is_t (sym e ∙ t))

pub fit-no : {r : Bool} (x : ℕ) → r ≡ leb 2 x → r ≡ false → 2 ≤ x → ⊥
fit-no x e t h = not_t (sym e ∙ t) (le→leb 2 x h)

-- 4. What a dot leads to.
module _ {c L M F H : List ℕ} {size n main : ℕ} (g : Ground c L M F main size n) where
  pub next-within : {p i q k : ℕ} → p < size → i ≤ n → Next c L M F H n p i q k → (q < size) × (i ≤ k) × (k ≤ n)
  next-within {p} {i} h l (by-terminal z f) = (g.tables.shape.nexts p h (λ y. omega arith), omega arith, g.within p i h l z f)
  next-within {p} {q = q} h l (by-entering z b) = (list-below g.linked (g.tables.shape.names p h z).0 q b, omega arith, l)
  next-within {p} h l (by-passing z a b r) = (g.tables.shape.nexts p h (λ y. omega arith), a, b)

module _ {c L M F H : List ℕ} {n i p : ℕ} where
  pub follow-none : {W : List ℕ} → ((q k : ℕ) → Next c L M F H n p i q k → ⊥) → Followed c L M F H W W n i p (p + 1)
  follow-none f = record { added = added_none; there = λ q k z. absurd (f q k z); low = omega arith; below = λ q h l. refl }

  -- nothing but a terminal or a symbol leads on
  no-next : {k : ℕ} → k ≡ next_kind c p → (k ≡ 1 → ⊥) → (k ≡ 2 → ⊥) → (q m : ℕ) → Next c L M F H n p i q m → ⊥
  no-next e a b q m (by-terminal z f) = a (e ∙ z)
  no-next e a b q m (by-entering z l) = b (e ∙ z)
  no-next e a b q m (by-passing z x y r) = b (e ∙ z)

  pub follow-end : {W : List ℕ} → (next_kind c p ≡ 1 → ⊥) → (next_kind c p ≡ 2 → ⊥) → Followed c L M F H W W n i p (p + 1)
  follow-end a b = follow-none (no-next refl a b)

  misfit : next_kind c p ≡ 1 → (Fits M p i → ⊥) → (q m : ℕ) → Next c L M F H n p i q m → ⊥
  misfit e a q m (by-terminal z f) = a f
  misfit e a q m (by-entering z l) = omega arith
  misfit e a q m (by-passing z x y r) = omega arith

  pub follow-misfit : {W : List ℕ} → next_kind c p ≡ 1 → (Fits M p i → ⊥) → Followed c L M F H W W n i p (p + 1)
  follow-misfit e a = follow-none (misfit e a)

  pub follow-fit : {W W' : List ℕ} → p + 1 < 512 → next_kind c p ≡ 1 → Fits M p i → Is W W' (512 * (i + goes_at c p) + (p + 1)) → Followed c L M F H W W' n i p (p + 1)
  follow-fit {W} {W'} s e f a = record {
    added = added-as (λ x z. (p + 1, i + goes_at c p, by-terminal e f, z)) a.added;
    there = there;
    low = omega arith;
    below = λ q h l. added-same a.added (512 * i + q) (λ z. omega arith);
  }
    where
      there : (q k : ℕ) → Next c L M F H n p i q k → Stood W' q k
      there q k (by-terminal z y) = a.there
      there q k (by-entering z l) = absurd (omega arith)
      there q k (by-passing z x y r) = absurd (omega arith)

  pub follow-symbol : {W W₁ W' : List ℕ} {r : ℕ} → p + 1 < 512 → next_kind c p ≡ 2 → Passed M F H W W₁ (rule_at c p) n i p (n + 1) → Entered L W₁ W' i (rule_at c p) (p + 1) r
      → Followed c L M F H W W' n i p r
  follow-symbol {W} {W₁} {W'} {r} s e a b = record {
    added = added-join (added-as (λ x z. (p + 1, z.0, by-passing e z.1 (omega (arith, z.2)) z.3, z.4)) (a.added c)) (added-as (λ x z. (z.0, i, by-entering e z.1, z.2)) b.added);
    there = there;
    low = b.low;
    below = λ q h l. b.below q h l ∙ added-same (a.added c) (512 * i + q) (λ z. omega (arith, z.1, z.4, b.low));
  }
    where
      there : (q k : ℕ) → Next c L M F H n p i q k → Stood W' q k
      there q k (by-terminal z y) = absurd (omega arith)
      there q k (by-entering z l) = b.there q l
      there q k (by-passing z x y t) = omega (arith, a.there c k x (omega arith) t, added-le b.added (512 * k + (p + 1)))

-- 5. Steps at a place.
pub record Closing (c L M F H W₀ W : List ℕ) (size n i p : ℕ) : Type 0 where
  pub grown : Grown c L M F H W₀ W size n i
  pub row : Quiet W p i
  pub low : p ≤ size

module _ {c L M F H : List ℕ} {size n i : ℕ} where
  pub grown-none : {W : List ℕ} → Grown c L M F H W W size n i
  grown-none = record { long = refl; stays = λ x h. h; sound = λ t s. s; done = λ d. d; before = λ q k h l. refl }

  pub grown-join : {W W' W'' : List ℕ} → Grown c L M F H W W' size n i → Grown c L M F H W' W'' size n i → Grown c L M F H W W'' size n i
  grown-join a b = record {
    long = b.long ∙ a.long;
    stays = λ x h. b.stays x (a.stays x h);
    sound = λ t s. b.sound t (a.sound t s);
    done = λ d. b.done (a.done d);
    before = λ q k h l. b.before q k h l ∙ a.before q k h l;
  }

  pub step_skip : {W : List ℕ} {p : ℕ} → (flag_at W p i ≡ 1 → ⊥) → Stepped c L M F H W W size n i p (p + 1)
  step_skip {W} {p} f = record { grown = grown-none; less = inr (omega arith, refl); low = omega arith; row = row }
    where
      row : Quiet W p i → Quiet W (p + 1) i
      row h q l e = elim (ℕ_discrete q p) as (λ _. ⊥) [ yes z ↦ f (subst (λ (y : ℕ). flag_at W y i ≡ 1) z e) | no z ↦ h q (omega arith) e ]

  module _ {W W' : List ℕ} {p r main : ℕ} (g : Following c L M F main W size n i p) (e : flag_at W p i ≡ 1) (a : Followed c L M F H (set W (512 * i + p) 0) W' n i p r) where
    abbrev x : ℕ
    x = 512 * i + p

    small : size ≤ 512
    small = g.standing.ground.tables.shape.small

    inside : x < length W
    inside = let s = small in let b = g.standing.ground.tables.short in omega (arith, g.standing.long, g.standing.on, g.inside)

    at_x : get_or (set W x 0) x 0 ≡ 0
    at_x = get_or-set_same W x 0 0 inside

    -- another flag that has changed is of a dot that p leads to
    cell : (y : ℕ) → (y ≡ x → ⊥) → (get_or W' y 0 ≡ get_or W y 0) ⊎ (((q : ℕ) × (k : ℕ) × Next c L M F H n p i q k × (y ≡ 512 * k + q)) × (1 < get_or W y 0) × (get_or W' y 0 ≡ 1))
    cell y h = let s = get_or-set_other W x y 0 0 h in ⊎_elim (λ z. inl (z ∙ s)) (λ z. inr (z.0, omega (arith, z.1), z.2)) (a.added.cell y)

    flag-x : get_or W' x 0 ≡ 0
    flag-x = let t = at_x in ⊎_elim (λ z. z ∙ t) (λ z. absurd (omega (arith, z.1))) (a.added.cell x)

    stays : (y : ℕ) → get_or W y 0 < 2 → get_or W' y 0 < 2
    stays y h = elim (ℕ_discrete y x) as (λ _. get_or W' y 0 < 2) [
      | yes z ↦ (let t = flag-x in let u : get_or W' y 0 ≡ get_or W' x 0 = ap (λ (v : ℕ). get_or W' v 0) z in omega arith)
      | no z ↦ ⊎_elim (λ v. omega arith) (λ v. omega (arith, v.1)) (cell y z)
    ]

    same_spot : (q k : ℕ) → q < size → 512 * k + q ≡ x → (q ≡ p) × (k ≡ i)
    same_spot q k h z = let s = small in let b = g.inside in (omega arith, omega arith)

    sound : (top : ℕ) → Sound c L M F H size n top W → Sound c L M F H size n top W'
    sound top s q k h l v = elim (ℕ_discrete (512 * k + q) x) as (λ _. Viable c L M F H n top q k) [
      | yes z ↦ (let w = same_spot q k h z in s q k h l (omega (arith, subst (λ (y : ℕ). get_or W y 0 ≡ 1) (sym z) e)))
      | no z ↦ ⊎_elim (λ y. s q k h l (omega arith)) (λ y. step y.0) (cell (512 * k + q) z)
    ]
      where
        step : ((q' : ℕ) × (k' : ℕ) × Next c L M F H n p i q' k' × (512 * k + q ≡ 512 * k' + q')) → Viable c L M F H n top q k
        step y =
            let w = next-within g.standing.ground g.inside g.standing.on y.2 in
            let sm = small in
            let eq : y.0 ≡ q = omega (arith, w.0, y.3) in
            let ek : y.1 ≡ k = omega (arith, w.0, y.3) in
            let o = onward (s p i g.inside g.standing.on (omega (arith, e))) y.2 in
            subst (λ (b : ℕ). Viable c L M F H n top q b) ek (subst (λ (b : ℕ). Viable c L M F H n top b y.1) eq o)

    done : Done c L M F H size n W → Done c L M F H size n W'
    done d q k h l z q' k' t = elim (ℕ_discrete (512 * k + q) x) as (λ _. Stood W' q' k') [
      | yes y ↦ (let w = same_spot q k h y in
          a.there q' k' (subst (λ (b : ℕ). Next c L M F H n p b q' k') w.1 (subst (λ (b : ℕ). Next c L M F H n b k q' k') w.0 t)))
      | no y ↦ ⊎_elim (λ v. stays (512 * k' + q') (d q k h l (sym v ∙ z) q' k' t)) (λ v. absurd (omega (arith, v.2))) (cell (512 * k + q) y)
    ]

    before : (q k : ℕ) → q < size → k < i → flag_at W' q k ≡ flag_at W q k
    before q k h l =
        let s = small in
        ⊎_elim (λ z. z) (λ z. absurd (let w = next-within g.standing.ground g.inside g.standing.on z.0.2 in omega (arith, w.0, w.1, z.0.3)))
        (cell (512 * k + q) (λ z. omega (arith, z, g.inside)))

    row : Quiet W p i → Quiet W' r i
    row f q l z = elim (ℕ_discrete q p) as (λ _. ⊥) [
      | yes y ↦ (let t = flag-x in let u : flag_at W' q i ≡ flag_at W' p i = ap (λ (v : ℕ). flag_at W' v i) y in omega arith)
      | no y ↦ (let b = a.below q l (let s = small in omega (arith, a.low, g.inside)) in
          let v = get_or-set_other W x (512 * i + q) 0 0 (λ w. y (omega arith)) in
          f q (omega (arith, a.low)) (omega arith))
    ]

    pub step-follow : Stepped c L M F H W W' size n i p r
    step-follow = record {
      grown = record { long = a.added.long ∙ length-set W x 0; stays = stays; sound = sound; done = done; before = before };
      less = inl (let s = sum-set W x 0 (omega (arith, e)) in omega (arith, a.added.sum));
      low = a.low;
      row = row;
    }

  pub closing-start : {W : List ℕ} → Closing c L M F H W W size n i 0
  closing-start = record { grown = grown-none; row = λ q h. absurd (omega arith); low = omega arith }

  pub closing-next : {W₀ W W' : List ℕ} {p r : ℕ} → Closing c L M F H W₀ W size n i p → p < size → Stepped c L M F H W W' size n i p r → Closing c L M F H W₀ W' size n i r
  closing-next k h s = record { grown = grown-join k.grown s.grown; row = s.row k.row; low = omega (arith, s.low) }

  pub closing-less : {W W' : List ℕ} {p r : ℕ} → size ≤ 512 → p < size → Stepped c L M F H W W' size n i p r → 513 * total W' + (size - r) < 513 * total W + (size - p)
  closing-less h l s = ⊎_elim (λ z. omega (arith, z)) (λ z. omega (arith, z.0, z.1)) s.less

  pub closing_end : {W₀ W : List ℕ} {p : ℕ} → Closing c L M F H W₀ W size n i p → size ≤ p → Closed c L M F H W₀ W size n i
  closing_end k h = record { grown = k.grown; quiet = λ q l. k.row q (omega arith) }

-- 6. All places.
pub record Marks (c L M F H W : List ℕ) (size n top i : ℕ) : Type 0 where
  pub long : length W ≡ 102912
  pub roots : (q : ℕ) → Begins L top q → Stood W q 0
  pub sound : Sound c L M F H size n top W
  pub done : Done c L M F H size n W
  pub quiet : (k : ℕ) → k < i → Quiet W size k
  pub low : i ≤ n + 1

module _ {c L M F H : List ℕ} {size n top : ℕ} where
  pub marks-start : {W W' : List ℕ} {main next r : ℕ} → top < size → Standing c L M F main W size n 0 → Bare W → Entered L W W' 0 top next r → Marks c L M F H W' size n top 0
  marks-start {W} {W'} top_inside g b a = record {
    long = a.added.long ∙ g.long;
    roots = a.there;
    sound = λ p i h l v. ⊎_elim (λ z. absurd (omega (arith, flat p i h l))) (λ z. root p i h z.0) (a.added.cell (512 * i + p));
    done = λ p i h l z. absurd (⊎_elim (λ v. omega (arith, flat p i h l)) (λ v. omega (arith, v.2)) (a.added.cell (512 * i + p)));
    quiet = λ k h. absurd (omega arith);
    low = omega arith;
  }
    where
      flat : (p i : ℕ) → p < size → i ≤ n → flag_at W p i ≡ 2
      flat p i h l = b (512 * i + p) (omega (arith, g.long, g.ground.tables.shape.small, g.ground.tables.short))

      root : (p i : ℕ) → p < size → ((q : ℕ) × Begins L top q × (512 * i + p ≡ 512 * 0 + q)) → Viable c L M F H n top p i
      root p i h z =
          let s = g.ground.tables.shape.small in
          let t : z.0 < size = list-below g.ground.linked top_inside z.0 z.1 in
          let ei : 0 ≡ i = omega (arith, z.2) in
          let ep : z.0 ≡ p = omega (arith, z.2) in
          subst (λ (y : ℕ). Viable c L M F H n top p y) ei (subst (λ (y : ℕ). Viable c L M F H n top y 0) ep (at_first z.1))

  pub marks-standing : {W W' : List ℕ} {main i : ℕ} → Standing c L M F main W size n 0 → Marks c L M F H W' size n top i → i ≤ n → Standing c L M F main W' size n i
  marks-standing g m h = record { ground = g.ground; on = h; long = m.long }

  pub marks-next : {W W' : List ℕ} {i : ℕ} → Marks c L M F H W size n top i → i ≤ n → Closed c L M F H W W' size n i → Marks c L M F H W' size n top (i + 1)
  marks-next {W} {W'} {i} m on a = record {
    low = omega arith;
    long = a.grown.long ∙ m.long;
    roots = λ q l. a.grown.stays (512 * 0 + q) (m.roots q l);
    sound = a.grown.sound top m.sound;
    done = a.grown.done m.done;
    quiet = λ k h q l e. elim (ℕ_discrete k i) as (λ _. ⊥) [
      | yes z ↦ a.quiet q l (subst (λ (y : ℕ). flag_at W' q y ≡ 1) z e)
      | no z ↦ m.quiet k (omega arith) q l (sym (a.grown.before q k l (omega arith)) ∙ e)
    ];
  }

  pub marks-end : {W : List ℕ} {main i : ℕ} → top < size → Ground c L M F main size n → Marks c L M F H W size n top i → n < i → Exact c L M F H W size n top
  marks-end {W} {i = i} t g m h = record { sound = m.sound; complete = complete }
    where
      complete : (p k : ℕ) → Viable c L M F H n top p k → (p < size) × (k ≤ n) × Stood W p k
      complete p k (at_first l) = (list-below g.linked t p l, omega arith, m.roots p l)
      complete p k (onward {p = q'} {i = k'} v s) =
          let w = complete q' k' v in
          let b = next-within g w.0 w.1 s in
          let z : flag_at W q' k' ≡ 0 = elim (ℕ_discrete (flag_at W q' k') 1) as (λ _. flag_at W q' k' ≡ 0) [
            | yes e ↦ absurd (m.quiet k' (omega (arith, w.1)) q' w.0 e)
            | no e ↦ omega (arith, w.2)
          ] in
          (b.0, b.2, m.done q' k' w.0 w.1 z p k s)
