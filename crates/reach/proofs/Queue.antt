-- The queue of a pass: a dot is lifted and put into it; growth composes.
use mathlib.Core.List.{List}
use mathlib.Core.Logic.{◌⊎◌, inl, inr, ⊎_elim}
use mathlib.Core.Path.{◌≡◌, refl, sym, subst, ap, ◌∙◌}
use Prim.Native.Nat.{ℕ, ◌+◌, ◌*◌, ◌-◌, ◌<◌, ◌≤◌}
use native.Mathlib.Decide.{ℕ_discrete}
use native.Mathlib.Omega.{arith}
use lib.ListN.{length, get_or, set, length-set}
use lib.Seq.{get_or-set_same, get_or-set_other}
use Rattle.reach.specs.Flags.{dot_at}
use Rattle.reach.proofs.Counts.{counted-one, counted-high, count-le, count_less, count-more, count_next, count-zero}
use Rattle.reach.specs.Work.{tail_of, Seen, Waits, at_most, Kept, Grown, Lift, Raised, Listed, l-here, l-next, Linked, Spreads, Spread}
use Rattle.reach.specs.Work.{Waking, Woken, Collects, Collecting, Collected}

-- a byte is raised
module _ (M : List ℕ) (x v : ℕ) where
  pub raise-none : v ≤ get_or M x 0 → Raised M M x v
  raise-none h = record { long = refl; there = h; cell = λ y. inl refl }

  pub raise-set : x < length M → get_or M x 0 < v → Raised M (set M x v) x v
  raise-set l h = record {
    long = length-set M x v;
    there = omega (arith, get_or-set_same M x v 0 l);
    cell = λ y. elim (ℕ_discrete y x) as (λ _. (get_or (set M x v) y 0 ≡ get_or M y 0) ⊎ ((y ≡ x) × (get_or M y 0 < v) × (get_or (set M x v) y 0 ≡ v))) [
      | yes e ↦ inr (e, subst (λ (z : ℕ). get_or M z 0 < v) (sym e) h, ap (λ (z : ℕ). get_or (set M x v) z 0) e ∙ get_or-set_same M x v 0 l)
      | no e ↦ inl (get_or-set_other M x y v 0 e)
    ];
  }

pub raised-le : {M M' : List ℕ} {x v : ℕ} → Raised M M' x v → (y : ℕ) → get_or M y 0 ≤ get_or M' y 0
raised-le r y = ⊎_elim (λ e. omega arith) (λ e. omega (arith, e.1, e.2)) (r.cell y)

-- growth
pub grown-le : {size low i : ℕ} {M Q M' Q' : List ℕ} → Grown size low M Q M' Q' i → (x : ℕ) → get_or M x 0 ≤ get_or M' x 0
grown-le g x = ⊎_elim (λ e. omega arith) (λ l. omega (arith, l.was, l.now-is)) (g.cell x)

pub waits-on : {Q Q' : List ℕ} {h p : ℕ} → tail_of Q ≤ tail_of Q' → ((k : ℕ) → 0 < k → k ≤ tail_of Q → get_or Q' k 0 ≡ get_or Q k 0) → Waits Q h p → Waits Q' h p
waits-on m s w = record { at = w.at; after = w.after; before = omega (arith, w.before); is = s w.at (omega (arith, w.after)) w.before ∙ w.is }

pub waits-from : {Q : List ℕ} {h l p : ℕ} → h ≤ l → Waits Q l p → Waits Q h p
waits-from h w = record { at = w.at; after = omega (arith, w.after); before = w.before; is = w.is }

pub grown-none : {size low i : ℕ} {M Q : List ℕ} → Kept size low M Q i → Grown size low M Q M Q i
grown-none k = record { kept = k; long = refl; cell = λ x. inl refl; rest = λ x h. refl; more = omega arith; same = λ x h l. refl; fresh = λ p h l. inl l }

pub grown-join : {size low i : ℕ} {M Q M₁ Q₁ M₂ Q₂ : List ℕ} → Grown size low M Q M₁ Q₁ i → Grown size low M₁ Q₁ M₂ Q₂ i → Grown size low M Q M₂ Q₂ i
grown-join {low = low} {i} {M} {Q} {M₁} {Q₁} {M₂} {Q₂} a b = record {
  kept = b.kept;
  long = b.long ∙ a.long;
  cell = λ x. ⊎_elim
      (λ e. ⊎_elim (λ f. inl (e ∙ f)) (λ f. inr (record { was = f.was; now-is = e ∙ f.now-is; from = f.from; to = f.to })) (a.cell x))
      (λ e. ⊎_elim (λ f. inr (record { was = sym f ∙ e.was; now-is = e.now-is; from = e.from; to = e.to })) (λ f. absurd (omega (arith, e.was, f.now-is))) (a.cell x))
      (b.cell x);
  rest = λ x h. b.rest x h ∙ a.rest x h;
  more = omega (arith, a.more, b.more);
  same = λ k h l. b.same k h (omega (arith, a.more)) ∙ a.same k h l;
  fresh = λ p h l. ⊎_elim
      (λ e. ⊎_elim inl (λ w. inr (waits-on b.more b.same w)) (a.fresh p h e))
      (λ w. inr (waits-from a.more w))
      (b.fresh p h l);
}

module _ {size low i p : ℕ} {M Q : List ℕ} (k : Kept size low M Q i) (hp : p < size) where
  pub lift-shut : get_or Q (513 + p) 0 ≡ 0 → Lift size low M Q M Q i p
  lift-shut z = record { grown = grown-none k; there = λ s l. absurd (omega arith) }

  pub lift-other : (get_or M (1536 * i + p) 0 ≡ low → ⊥) → Lift size low M Q M Q i p
  lift-other n = record { grown = grown-none k; there = λ s l. omega (arith, n) }

  module _ (e : get_or M (1536 * i + p) 0 ≡ low) where
    abbrev x : ℕ
    x = 1536 * i + p

    abbrev M' : List ℕ
    M' = set M x (low + 1)

    abbrev Q₁ : List ℕ
    Q₁ = set Q 0 (tail_of Q + 1)

    abbrev Q₂ : List ℕ
    Q₂ = set Q₁ (tail_of Q + 1) p

    pub lift-room : x < length M
    lift-room = omega (arith, k.marks-long, k.on, k.small)

    raised : Raised M M' x (low + 1)
    raised = raise-set M x (low + 1) lift-room (omega arith)

    less : at_most low M' (1536 * i) 512 + 1 ≤ at_most low M (1536 * i) 512
    less = count_less low M M' (1536 * i) 512 p (raised-le raised) (omega (arith, k.small)) (omega arith) (omega (arith, raised.there))

    pub tail-below : tail_of Q < 512
    tail-below = omega (arith, k.count, less)

    tail-is : tail_of Q₂ ≡ tail_of Q + 1
    tail-is = get_or-set_other Q₁ (tail_of Q + 1) 0 p 0 (λ z. omega arith) ∙ get_or-set_same Q 0 (tail_of Q + 1) 0 (omega (arith, k.work-long))

    new_is : get_or Q₂ (tail_of Q + 1) 0 ≡ p
    new_is = get_or-set_same Q₁ (tail_of Q + 1) p 0 (omega (arith, k.work-long, length-set Q 0 (tail_of Q + 1), tail-below))

    old-is : (j : ℕ) → 0 < j → (j ≡ tail_of Q + 1 → ⊥) → get_or Q₂ j 0 ≡ get_or Q j 0
    old-is j h n = get_or-set_other Q₁ (tail_of Q + 1) j p 0 n ∙ get_or-set_other Q 0 j (tail_of Q + 1) 0 (λ z. omega arith)

    pub lift-new : Lift size low M Q M' Q₂ i p
    lift-new = record {
      grown = record {
        kept = record {
          small = k.small;
          levels = k.levels;
          on = k.on;
          marks-long = omega (arith, raised.long, k.marks-long);
          work-long = length-set Q₁ (tail_of Q + 1) p ∙ length-set Q 0 (tail_of Q + 1) ∙ k.work-long;
          count = omega (arith, k.count, less, tail-is);
          queued = λ j h l. elim (ℕ_discrete j (tail_of Q + 1)) as (λ _. (get_or Q₂ j 0 < size) × (low < dot_at M' (get_or Q₂ j 0) i)) [
            | yes z ↦ subst (λ (y : ℕ). (y < size) × (low < dot_at M' y i)) (sym (ap (λ (y : ℕ). get_or Q₂ y 0) z ∙ new_is)) (hp, omega (arith, raised.there))
            | no z ↦ (let o = k.queued j h (omega (arith, tail-is)) in
                subst (λ (y : ℕ). (y < size) × (low < dot_at M' y i)) (sym (old-is j h z)) (o.0, omega (arith, o.1, raised-le raised (1536 * i + get_or Q j 0))))
          ];
        };
        long = raised.long;
        cell = λ y. ⊎_elim inl
            (λ z. inr (record { was = ap (λ (v : ℕ). get_or M v 0) z.0 ∙ e; now-is = z.2; from = omega (arith, z.0); to = omega (arith, z.0, k.small, hp) }))
            (raised.cell y);
        rest = λ y h. old-is y (omega arith) (λ z. omega (arith, tail-below));
        more = omega (arith, tail-is);
        same = λ j h l. old-is j h (λ z. omega arith);
        fresh = λ q h l. elim (ℕ_discrete q p) as (λ _. (low < dot_at M q i) ⊎ Waits Q₂ (tail_of Q) q) [
          | yes z ↦ inr (record { at = tail_of Q + 1; after = omega arith; before = omega (arith, tail-is); is = new_is ∙ sym z })
          | no z ↦ inl (omega (arith, get_or-set_other M x (1536 * i + q) (low + 1) 0 (λ v. z (omega arith))))
        ];
      };
      there = λ s l. omega (arith, raised.there);
    }

-- the dots of a list, from the link x on
pub record Spreading (size low : ℕ) (L M₀ Q₀ M Q : List ℕ) (i e x : ℕ) : Type 0 where
  pub grown : Grown size low M₀ Q₀ M Q i
  pub inside : e < size
  pub below : x ≤ size
  pub within : (u : ℕ) → Listed L x u → Listed L (get_or L (2 * e) 0) u
  pub done : (u : ℕ) → Listed L (get_or L (2 * e) 0) u → Listed L x u ⊎ (Seen Q₀ u → low ≤ dot_at M₀ u i → low < dot_at M u i)

pub spread-start : {size low i e : ℕ} {L M Q : List ℕ} → Spreads size low L M Q i e → Spreading size low L M Q M Q i e (get_or L (2 * e) 0)
spread-start {e = e} s = record { grown = grown-none s.kept; inside = s.inside; below = s.linked.last e s.inside; within = λ u l. l; done = λ u l. inl l }

module _ {size low i e x : ℕ} {L M₀ Q₀ M Q : List ℕ} (s : Spreading size low L M₀ Q₀ M Q i e x) where
  same : 0 < x → get_or L (2 * (x - 1) + 1) 0 ≡ get_or L (2 * x - 1) 0
  same h = ap (λ (z : ℕ). get_or L z 0) (let z : 2 * (x - 1) + 1 ≡ 2 * x - 1 = omega arith in z)

  pub spread-less : Linked size L → 0 < x → get_or L (2 * x - 1) 0 < x
  spread-less w h = omega (arith, same h, w.next e (x - 1) s.inside (s.within (x - 1) (l-here (let z : x ≡ (x - 1) + 1 = omega arith in z))))

  pub spread-next : {M' Q' : List ℕ} → Linked size L → 0 < x → Lift size low M Q M' Q' i (x - 1) → Spreading size low L M₀ Q₀ M' Q' i e (get_or L (2 * x - 1) 0)
  spread-next {M'} {Q'} w h l = record {
    grown = grown-join s.grown l.grown;
    inside = s.inside;
    below = omega (arith, spread-less w h, s.below);
    within = λ u v. s.within u (l-next (x - 1) (let z : x ≡ (x - 1) + 1 = omega arith in z) (subst (λ (y : ℕ). Listed L y u) (sym (same h)) v));
    done = λ u v. ⊎_elim (step u) (λ f. inr (λ a b. omega (arith, f a b, grown-le l.grown (1536 * i + u)))) (s.done u v);
  }
    where
      step : (u : ℕ) → Listed L x u → Listed L (get_or L (2 * x - 1) 0) u ⊎ (Seen Q₀ u → low ≤ dot_at M₀ u i → low < dot_at M' u i)
      step u (l-here z) = inr
          (λ a b. subst (λ (y : ℕ). Seen Q₀ y → low ≤ dot_at M₀ y i → low < dot_at M' y i) (let y : x - 1 ≡ u = omega arith in y)
          (λ c d. l.there (omega (arith, s.grown.rest (513 + (x - 1)) (omega arith))) (omega (arith, grown-le s.grown (1536 * i + (x - 1))))) a b)
      step u (l-next v z r) = inl (subst (λ (y : ℕ). Listed L y u) (ap (λ (y : ℕ). get_or L (2 * y + 1) 0) (let y : v ≡ x - 1 = omega arith in y) ∙ same h) r)

  pub spread_end : (0 < x → ⊥) → Spread size low L M₀ Q₀ M Q i e
  spread_end n = record { grown = s.grown; there = λ u v. ⊎_elim (none u) (λ f. f) (s.done u v) }
    where
      none : (u : ℕ) → Listed L x u → Seen Q₀ u → low ≤ dot_at M₀ u i → low < dot_at M u i
      none u (l-here z) = absurd (n (omega arith))
      none u (l-next v z r) = absurd (n (omega arith))

-- what the bytes gain keeps the rest
pub kept_more : {size low i : ℕ} {M M' Q : List ℕ} → Kept size low M Q i → length M' ≡ length M → ((x : ℕ) → get_or M x 0 ≤ get_or M' x 0) → Kept size low M' Q i
kept_more {low = low} {i} {M} {M'} {Q} k l h = record {
  small = k.small;
  levels = k.levels;
  on = k.on;
  marks-long = omega (arith, l, k.marks-long);
  work-long = k.work-long;
  count = omega (arith, k.count, count-le low M M' (1536 * i) 512 h);
  queued = λ j a b. (let o = k.queued j a b in (o.0, omega (arith, o.1, h (1536 * i + get_or Q j 0))));
}

module _ {size dots low column i e : ℕ} {L M Q : List ℕ} (w : Waking size dots low column L M Q i e) where
  abbrev y : ℕ
  y = 1536 * i + (column + e)

  pub wake-room : y < length M
  wake-room = let k = w.spreads.kept in omega (arith, k.marks-long, k.on, k.small, w.spreads.inside, w.to)

  pub wake-none : (get_or M y 0 ≡ low → ⊥) → Woken size dots low column L M Q M Q i e
  wake-none n = record {
    kept = w.spreads.kept;
    long = refl;
    cell = λ x. inl (inl refl);
    rest = λ x h. refl;
    more = omega arith;
    same = λ k h l. refl;
    fresh = λ p h l. inl l;
    there = λ h. omega (arith, n);
    woken = λ z. absurd (n z);
  }

  module _ {M₁ : List ℕ} (z : get_or M y 0 ≡ low) (r : Raised M M₁ y (low + 1)) where
    pub wake-spreads : Spreads size dots L M₁ Q i e
    wake-spreads = record { kept = kept_more w.spreads.kept r.long (raised-le r); linked = w.spreads.linked; inside = w.spreads.inside }

    dot-same : (x : ℕ) → x < 1536 * i + 512 → get_or M₁ x 0 ≡ get_or M x 0
    dot-same x h = ⊎_elim (λ a. a) (λ a. absurd (omega (arith, a.0, w.from))) (r.cell x)

    pub wake-some : {M' Q' : List ℕ} → Spread size dots L M₁ Q M' Q' i e → Woken size dots low column L M Q M' Q' i e
    wake-some {M'} s = record {
      kept = s.grown.kept;
      long = s.grown.long ∙ r.long;
      cell = λ x. ⊎_elim
          (λ a. ⊎_elim (λ b. inl (inl (a ∙ b))) (λ b. inr (b.0, ap (λ (v : ℕ). get_or M v 0) b.0 ∙ z, a ∙ b.2)) (r.cell x))
          (λ a. inl (inr (record { was = sym (dot-same x a.to) ∙ a.was; now-is = a.now-is; from = a.from; to = a.to })))
          (s.grown.cell x);
      rest = s.grown.rest;
      more = s.grown.more;
      same = s.grown.same;
      fresh = λ p h l. ⊎_elim (λ a. inl (omega (arith, dot-same (1536 * i + p) (omega arith)))) inr (s.grown.fresh p h l);
      there = λ h. omega (arith, r.there, grown-le s.grown y);
      woken = λ _ u l a b. s.there u l a (omega (arith, raised-le r (1536 * i + u)));
    }

-- collecting
pub collect-start : {size low i : ℕ} {M Q : List ℕ} → Collects size low M Q i → Collecting size low M Q (set Q 0 0) i 0
collect-start {size} {low} {i} {M} {Q} c = record {
  small = c.small;
  levels = c.levels;
  on = c.on;
  marks-long = c.marks-long;
  work-long = length-set Q 0 0 ∙ c.work-long;
  below = omega arith;
  count = omega (arith, none, count-zero low M (1536 * i));
  queued = λ k h l. absurd (omega (arith, none));
  rest = λ x h. get_or-set_other Q 0 x 0 0 (λ z. omega arith);
  listed = λ q h. absurd (omega arith);
}
  where
    none : tail_of (set Q 0 0) ≡ 0
    none = get_or-set_same Q 0 0 0 (omega (arith, c.work-long))

pub collect-here : {size low i p : ℕ} {M Q₀ Q : List ℕ} → Collecting size low M Q₀ Q i p → Collecting size low M Q Q i p
collect-here c = record {
  small = c.small;
  levels = c.levels;
  on = c.on;
  marks-long = c.marks-long;
  work-long = c.work-long;
  below = c.below;
  count = c.count;
  queued = c.queued;
  rest = λ x h. refl;
  listed = c.listed;
}

pub collect-join : {size low i p q : ℕ} {M Q₀ Q Q' : List ℕ} → Collecting size low M Q₀ Q i p → Collecting size low M Q Q' i q → Collecting size low M Q₀ Q' i q
collect-join a c = record {
  small = c.small;
  levels = c.levels;
  on = c.on;
  marks-long = c.marks-long;
  work-long = c.work-long;
  below = c.below;
  count = c.count;
  queued = c.queued;
  rest = λ x h. c.rest x h ∙ a.rest x h;
  listed = c.listed;
}

pub collect-end : {size low i p : ℕ} {M Q₀ Q : List ℕ} → Collecting size low M Q₀ Q i p → size ≤ p → Collected size low M Q₀ Q i
collect-end {size} {low} {i} {p} {M} {Q₀} {Q} c h = record {
  kept = record {
    small = c.small;
    levels = c.levels;
    on = c.on;
    marks-long = c.marks-long;
    work-long = c.work-long;
    count = omega (arith, c.count, c.below, c.small, count-more low M (1536 * i) 512 p (omega (arith, c.below, c.small)));
    queued = c.queued;
  };
  rest = c.rest;
  listed = λ q a. c.listed q (omega arith);
}

module _ {size low i p : ℕ} {M Q : List ℕ} (c : Collecting size low M Q Q i p) (hp : p < size) where
  pub gather_none : get_or M (1536 * i + p) 0 ≤ low → Collecting size low M Q Q i (p + 1)
  gather_none h = record {
    small = c.small;
    levels = c.levels;
    on = c.on;
    marks-long = c.marks-long;
    work-long = c.work-long;
    below = omega arith;
    count = omega (arith, c.count, count_next low M (1536 * i) p, counted-one low (get_or M (1536 * i + p) 0));
    queued = c.queued;
    rest = c.rest;
    listed = λ q a l. elim (ℕ_discrete q p) as (λ _. Waits Q 0 q) [
      | yes z ↦ absurd (omega (arith, ap (λ (v : ℕ). dot_at M v i) z))
      | no z ↦ c.listed q (omega arith) l
    ];
  }

  pub gather-tail : tail_of Q < 512
  gather-tail = omega (arith, c.count, c.small)

  pub gather-new : low < get_or M (1536 * i + p) 0 → Collecting size low M Q (set (set Q 0 (tail_of Q + 1)) (tail_of Q + 1) p) i (p + 1)
  gather-new h = record {
    small = c.small;
    levels = c.levels;
    on = c.on;
    marks-long = c.marks-long;
    work-long = length-set (set Q 0 (tail_of Q + 1)) (tail_of Q + 1) p ∙ length-set Q 0 (tail_of Q + 1) ∙ c.work-long;
    below = omega arith;
    count = omega (arith, c.count, count_next low M (1536 * i) p, counted-high low (get_or M (1536 * i + p) 0) h, tail-is);
    queued = λ j a l. elim (ℕ_discrete j (tail_of Q + 1)) as (λ _. (get_or Q₂ j 0 < size) × (low < dot_at M (get_or Q₂ j 0) i)) [
      | yes z ↦ subst (λ (v : ℕ). (v < size) × (low < dot_at M v i)) (sym (ap (λ (v : ℕ). get_or Q₂ v 0) z ∙ new_is)) (hp, h)
      | no z ↦ subst (λ (v : ℕ). (v < size) × (low < dot_at M v i)) (sym (old-is j a z)) (c.queued j a (omega (arith, tail-is)))
    ];
    rest = λ x a. old-is x (omega arith) (λ z. omega (arith, gather-tail));
    listed = λ q a l. elim (ℕ_discrete q p) as (λ _. Waits Q₂ 0 q) [
      | yes z ↦ record { at = tail_of Q + 1; after = omega arith; before = omega (arith, tail-is); is = new_is ∙ sym z }
      | no z ↦ waits-on {Q = Q} {Q' = Q₂} (omega (arith, tail-is)) (λ k d b. old-is k d (λ v. omega arith)) (c.listed q (omega arith) l)
    ];
  }
    where
      Q₂ : List ℕ
      Q₂ = set (set Q 0 (tail_of Q + 1)) (tail_of Q + 1) p

      tail-is : tail_of (set (set Q 0 (tail_of Q + 1)) (tail_of Q + 1) p) ≡ tail_of Q + 1
      tail-is = get_or-set_other (set Q 0 (tail_of Q + 1)) (tail_of Q + 1) 0 p 0 (λ z. omega arith) ∙ get_or-set_same Q 0 (tail_of Q + 1) 0 (omega (arith, c.work-long))

      new_is : get_or (set (set Q 0 (tail_of Q + 1)) (tail_of Q + 1) p) (tail_of Q + 1) 0 ≡ p
      new_is = get_or-set_same (set Q 0 (tail_of Q + 1)) (tail_of Q + 1) p 0 (omega (arith, c.work-long, length-set Q 0 (tail_of Q + 1), gather-tail))

      old-is : (j : ℕ) → 0 < j → (j ≡ tail_of Q + 1 → ⊥) → get_or (set (set Q 0 (tail_of Q + 1)) (tail_of Q + 1) p) j 0 ≡ get_or Q j 0
      old-is j a n = get_or-set_other (set Q 0 (tail_of Q + 1)) (tail_of Q + 1) j p 0 n ∙ get_or-set_other Q 0 j (tail_of Q + 1) 0 (λ z. omega arith)
