-- The pass from the left, from place to place.
use mathlib.Core.Bool.{true, false, not}
use mathlib.Core.List.{List}
use mathlib.Core.Logic.{◌⊎◌, inl, inr, ⊎_elim}
use mathlib.Core.Path.{◌≡◌, refl, sym, subst, ap, ◌∙◌}
use Prim.Native.Nat.{ℕ, ◌+◌, ◌*◌, ◌-◌, ◌<◌, ◌≤◌}
use native.Mathlib.Decide.{ℕ_discrete}
use native.Mathlib.Omega.{arith}
use borrow.Author.Tests.{eq-eqb, ne_eqb}
use lib.Dec.{T, eqb}
use lib.ListN.{length, get_or, drop}
use Rattle.text.specs.Lists.{Text}
use Rattle.text.proofs.Tests.{clash, split}
use Rattle.tree.specs.Tree.{Terminal}
use Rattle.plain.specs.Plain.{fits}
use Rattle.chart.specs.Code.{next_kind, goes_at, rule_at, owner_at}
use Rattle.rules.specs.Ready.{Token}
use Rattle.reach.specs.Flags.{dot_at, begin_at, end_at, Reached, Fits, Begins, Ends, home_of, LeftClosed, FitsOnly}
use Rattle.reach.specs.Work.{tail_of, Seen, Kept, Waking, Woken, Collects, Collected}
use Rattle.reach.specs.Lists.{after_key, Shape, Homes, Homed, Keying, Opened, Members}
use Rattle.left_pass.specs.Left.{Closing, Closed, Given, Shifted, Lefting, Lefted}
use Rattle.reach.proofs.Widths.{empty-fits}
use Rattle.reach.proofs.Counts.{count_most}
use Rattle.reach.proofs.Keys.{key-first, key-after, after_none, after-some, use-none}

-- the place k is closed
record ClosedAt (Tb c : List ℕ) (R : Text) (size : ℕ) (M : List ℕ) (k : ℕ) : Type 0 where
  begin : (p : ℕ) → p < size → next_kind c p ≡ 2 → Reached M p k → Begins M (rule_at c p) k
  first : (q e : ℕ) → q < size → owner_at c q ≡ e + 1 → Begins M e k → Reached M q k
  live : (p : ℕ) → p < size → (next_kind c p ≡ 1 → ⊥) → Reached M p k → Fits M p k
  fit : (p : ℕ) (x : Terminal) → p < size → next_kind c p ≡ 1 → Reached M p k → Token Tb p x → T (fits x (drop k R)) → Fits M p k × Reached M (p + 1) (k + goes_at c p)
  end : (p : ℕ) → p < size → next_kind c p ≡ 0 → Reached M p k → Ends M (home_of c p) k
  over : (p i : ℕ) → p < size → i ≤ k → next_kind c p ≡ 2 → Reached M p i → Ends M (rule_at c p) k → Reached M (p + 1) k
  only : (p : ℕ) (x : Terminal) → p < size → next_kind c p ≡ 1 → Fits M p k → Token Tb p x → T (fits x (drop k R))

closed-more : {Tb c : List ℕ} {R : Text} {size k : ℕ} {M M' : List ℕ} → Shape c size → ClosedAt Tb c R size M k → ((x : ℕ) → x < 1536 * k + 1536 → get_or M' x 0 ≡ get_or M x 0)
    → ((x : ℕ) → get_or M x 0 ≤ get_or M' x 0) → ClosedAt Tb c R size M' k
closed-more {c = c} {size = size} {k = k} {M} {M'} s a e g = record {
  begin = λ p h d r. omega (arith, a.begin p h d (back p k h (omega arith) 1 r), g (1536 * k + (512 + rule_at c p)));
  first = λ q d h o b. omega (arith, a.first q d h o (omega (arith, e (1536 * k + (512 + d)) (omega (arith, s.owner q h, s.small)))), g (1536 * k + q));
  live = λ p h n r. omega (arith, a.live p h n (back p k h (omega arith) 1 r), g (1536 * k + p));
  fit = λ p x h d r t f. (let y = a.fit p x h d (back p k h (omega arith) 1 r) t f in
      (omega (arith, y.0, g (1536 * k + p)), omega (arith, y.1, g (1536 * (k + goes_at c p) + (p + 1)))));
  end = λ p h d r. omega (arith, a.end p h d (back p k h (omega arith) 1 r), g (1536 * k + (1024 + home_of c p)));
  over = λ p i h l d r f. omega (arith, a.over p i h l d (back p i h l 1 r) (omega (arith, e (1536 * k + (1024 + rule_at c p)) (omega (arith, s.rule p h d, s.small)))), g (1536 * k + (p + 1)));
  only = λ p x h d f. a.only p x h d (back p k h (omega arith) 2 f);
}
  where
    back : (p i : ℕ) → p < size → i ≤ k → (v : ℕ) → v ≤ dot_at M' p i → v ≤ dot_at M p i
    back p i h l v r = omega (arith, e (1536 * i + p) (omega (arith, s.small)))

-- the places before i are closed, and nothing but roots and what terminals reached is flagged from i on
pub record Passing (Tb c : List ℕ) (R : Text) (size top len : ℕ) (M Q : List ℕ) (i : ℕ) : Type 0 where
  pub long : length M ≡ len
  pub room : 1536 * length R + 1536 ≤ len
  pub work-long : length Q ≡ 1537
  pub root : Begins M top 0
  pub begins-open : (q e : ℕ) → q < size → owner_at c q ≡ e + 1 → Seen Q q
  pub after_open : (p : ℕ) → p + 1 < size → next_kind c p ≡ 1 → Seen Q (p + 1)
  pub homes : Homes c size Q
  pub seen : (p k : ℕ) → p < size → k < i → next_kind c p ≡ 2 → Reached M p k → Seen Q (p + 1)
  closed : (k : ℕ) → k < i → ClosedAt Tb c R size M k
  pub first : (q e k : ℕ) → q < size → owner_at c q ≡ e + 1 → i ≤ k → Begins M e k → Reached M q k
  pub none : (e k : ℕ) → e < 512 → i ≤ k → end_at M e k ≡ 0
  pub ones : (p k : ℕ) → p < 512 → i ≤ k → dot_at M p k ≤ 1
  pub level : (e k : ℕ) → e < 512 → (begin_at M e k ≤ 1) × (end_at M e k ≤ 1)

module _ {Tb c : List ℕ} {R : Text} {size top len i : ℕ} {M₀ M Q : List ℕ} (g : Given Tb c R size M₀) (a : Passing Tb c R size top len M Q i) (on : i ≤ length R) where
  pub place-collects : Collects size 0 M Q i
  place-collects = record { small = g.shape.small; levels = omega arith; on = omega (arith, g.short); marks-long = omega (arith, a.long, a.room); work-long = a.work-long }

  module _ {F A : List ℕ} (f : Members c 0 size F) (t : Members c 1 size A) {Q₁ : List ℕ} (l : Collected size 0 M Q Q₁ i) where
    pub place-closing : Closing c size F A M Q₁ i
    place-closing = record {
      shape = g.shape;
      firsts = f;
      afters = t;
      kept = l.kept;
      rules = record {
        first = λ q e h o b. a.first q e i h o (omega arith) b;
        over = λ p h k e s. absurd (omega (arith, a.none (rule_at c p) i (omega (arith, g.shape.rule p h k, g.shape.small)) (omega arith)));
        begins-open = λ q e h o. omega (arith, l.rest (513 + q) (omega arith), a.begins-open q e h o);
        after_open = λ p h k. omega (arith, l.rest (513 + (p + 1)) (omega arith), a.after_open p h k);
        homes = λ p h. l.rest (1025 + p) (omega arith) ∙ a.homes p h;
      };
      listed = λ p h r. l.listed p h r;
    }

    module _ {M₂ Q₂ : List ℕ} (d : Closed c size M Q₁ M₂ Q₂ i) where
      pub place-given : Given Tb c R size M₂
      place-given = record {
        table-long = g.table-long;
        shape = g.shape;
        here = g.here;
        token = g.token;
        goes = g.goes;
        short = g.short;
        marks-long = omega (arith, a.room, a.long, d.stepped.stir.long);
      }

      module _ {M₃ : List ℕ} (s : Shifted Tb c R size M₂ M₃ i 0 size) where
        grows : (x : ℕ) → get_or M x 0 ≤ get_or M₃ x 0
        grows x = omega (arith, d.stepped.stir.grows x, s.grows x)

        earlier : (x : ℕ) → x < 1536 * i → get_or M₃ x 0 ≡ get_or M x 0
        earlier x h = s.before x h ∙ d.stepped.stir.away x (inl h)

        small : (p : ℕ) → p < size → p < 512
        small p h = omega (arith, g.shape.small)

        down : (p : ℕ) → p < size → Reached M₃ p i → Reached M₂ p i
        down p h r = s.dots p (small p h) r

        sees : (p k : ℕ) → p < size → k < i + 1 → next_kind c p ≡ 2 → Reached M₃ p k → Seen Q₂ (p + 1)
        sees p k h b e r = elim (ℕ_discrete k i) as (λ _. Seen Q₂ (p + 1)) [
          | yes z ↦ ((d.done p h (down p h (subst (λ (x : ℕ). Reached M₃ p x) z r))).symbol e).1
          | no z ↦ (let o = a.seen p k h (omega arith) e (omega (arith, earlier (1536 * k + p) (omega (arith, g.shape.small)))) in
              d.stepped.stir.seen (p + 1) (omega (arith, o, l.rest (513 + (p + 1)) (omega arith))))
        ]

        live : (p : ℕ) → p < size → (next_kind c p ≡ 1 → ⊥) → Reached M₃ p i → Fits M₃ p i
        live p h n r = elim (ℕ_discrete (next_kind c p) 0) as (λ _. Fits M₃ p i) [
          | yes z ↦ omega (arith, ((d.done p h (down p h r)).end z).1, s.grows (1536 * i + p))
          | no z ↦ omega (arith, ((d.done p h (down p h r)).symbol (omega (arith, g.shape.kinds p h, n))).2, s.grows (1536 * i + p))
        ]

        fit : (p : ℕ) (x : Terminal) → p < size → next_kind c p ≡ 1 → Reached M₃ p i → Token Tb p x → T (fits x (drop i R)) → Fits M₃ p i × Reached M₃ (p + 1) (i + goes_at c p)
        fit p x h k r u v = elim (ℕ_discrete (goes_at c p) 0) as (λ _. Fits M₃ p i × Reached M₃ (p + 1) (i + goes_at c p)) [
          | yes z ↦ (let y = (d.done p h (down p h r)).empty k z in (
            omega (arith, y.0, s.grows (1536 * i + p)),
            subst (λ (w : ℕ). Reached M₃ (p + 1) w) (let w : i ≡ i + goes_at c p = omega arith in w) (omega (arith, y.1, s.grows (1536 * i + (p + 1)))),
          ))
          | no z ↦ s.fit p x (omega arith) h h k z (down p h r) u v
        ]

        only : (p : ℕ) (x : Terminal) → p < size → next_kind c p ≡ 1 → Fits M₃ p i → Token Tb p x → T (fits x (drop i R))
        only p x h k v u = ⊎_elim
            (λ y. ⊎_elim
            (λ z. absurd (omega (arith, a.ones p i (small p h) (omega arith))))
            (λ z. empty-fits x (drop i R) (sym (g.goes p x h k u) ∙ z))
            (d.stepped.only p h k y))
            (λ y. y x u)
            (s.only p h k v)

        here : ClosedAt Tb c R size M₃ i
        here = record {
          begin = λ p h k r. omega (arith, ((d.done p h (down p h r)).symbol k).0, s.grows (1536 * i + (512 + rule_at c p)));
          first = λ q e h o b. omega (
            arith,
            d.stepped.rules.first q e h o (omega (arith, (s.rules i e (omega arith) (omega (arith, g.shape.owner q h, g.shape.small))).0)),
            s.grows (1536 * i + q),
          );
          live = live;
          fit = fit;
          end = λ p h k r. omega (arith, ((d.done p h (down p h r)).end k).0, s.grows (1536 * i + (1024 + home_of c p)));
          over = λ p j h b k r e. (let y = (s.rules i (rule_at c p) (omega arith) (omega (arith, g.shape.rule p h k, g.shape.small))).1 in
              omega (arith, d.stepped.rules.over p h k (omega (arith, y)) (sees p j h (omega arith) k r), s.grows (1536 * i + (p + 1))));
          only = only;
        }

        later : (k x : ℕ) → i + 1 ≤ k → 1536 * k ≤ x → get_or M₂ x 0 ≡ get_or M x 0
        later k x h b = d.stepped.stir.away x (inr (omega arith))

        rule-level : (k y : ℕ) → 512 ≤ y → y < 1536 → get_or M (1536 * k + y) 0 ≤ 1 → get_or M₂ (1536 * k + y) 0 ≤ 1
        rule-level k y h b v = elim (ℕ_discrete k i) as (λ _. get_or M₂ (1536 * k + y) 0 ≤ 1) [
          | yes z ↦ d.stepped.level (1536 * k + y) (omega arith) v
          | no z ↦ ⊎_elim
              (λ n. omega (arith, d.stepped.stir.away (1536 * k + y) (inl (omega arith))))
              (λ n. omega (arith, d.stepped.stir.away (1536 * k + y) (inr (omega arith))))
              (split k i)
        ]

        shift-level : (k e : ℕ) → e < 512 → (begin_at M₃ e k ≡ begin_at M₂ e k) × (end_at M₃ e k ≡ end_at M₂ e k)
        shift-level k e h = ⊎_elim
            (λ n. (s.before (1536 * k + (512 + e)) (omega arith), s.before (1536 * k + (1024 + e)) (omega arith)))
            (λ n. s.rules k e n h)
            (split k i)

        pub place-next : Passing Tb c R size top len M₃ Q₂ (i + 1)
        place-next = record {
          long = s.long ∙ d.stepped.stir.long ∙ a.long;
          room = a.room;
          work-long = d.stepped.stir.kept.work-long;
          root = omega (arith, a.root, grows (1536 * 0 + (512 + top)));
          begins-open = d.stepped.rules.begins-open;
          after_open = d.stepped.rules.after_open;
          homes = d.stepped.rules.homes;
          seen = sees;
          closed = λ k h. elim (ℕ_discrete k i) as (λ _. ClosedAt Tb c R size M₃ k) [
            | yes z ↦ subst (ClosedAt Tb c R size M₃) (sym z) here
            | no z ↦ closed-more g.shape (a.closed k (omega arith)) (λ x b. earlier x (omega arith)) grows
          ];
          first = λ q e k h o b v. (let u : e < 512 = omega (arith, g.shape.owner q h, g.shape.small) in
              omega (
                arith,
                a.first q e k h o (omega arith) (omega (arith, (s.rules k e (omega arith) u).0, later k (1536 * k + (512 + e)) b (omega arith))),
                grows (1536 * k + q),
              ));
          none = λ e k h b. (s.rules k e (omega arith) h).1 ∙ later k (1536 * k + (1024 + e)) b (omega arith) ∙ a.none e k h (omega arith);
          level = λ e k h. (let v = shift-level k e h in (
            omega (arith, v.0, rule-level k (512 + e) (omega arith) (omega arith) (a.level e k h).0),
            omega (arith, v.1, rule-level k (1024 + e) (omega arith) (omega arith) (a.level e k h).1),
          ));
          ones = λ p k h b. s.ahead p k h (omega arith) (omega (arith, later k (1536 * k + p) b (omega arith), a.ones p k h (omega arith)));
        }

pub places-closed : {Tb c : List ℕ} {R : Text} {size top len i : ℕ} {M Q : List ℕ} → Passing Tb c R size top len M Q i → length R < i → LeftClosed (Token Tb) c R size top M
places-closed a n = record {
  root = a.root;
  begin = λ p i h b. (a.closed i (omega arith)).begin p h;
  first = λ q e i h b. (a.closed i (omega arith)).first q e h;
  live = λ p i h b. (a.closed i (omega arith)).live p h;
  fit = λ p i x h b. (a.closed i (omega arith)).fit p x h;
  end = λ p i h b. (a.closed i (omega arith)).end p h;
  over = λ p i m h b l. (a.closed m (omega arith)).over p i h b;
}

pub places-only : {Tb c : List ℕ} {R : Text} {size top len i : ℕ} {M Q : List ℕ} → Passing Tb c R size top len M Q i → length R < i → FitsOnly (Token Tb) c R size M
places-only a n p i x h b k f t = (a.closed i (omega arith)).only p x h k f t

-- in the beginning
module _ {Tb c : List ℕ} {R : Text} {size top : ℕ} {M Q₀ Q₁ Q F : List ℕ} (g : Lefting Tb c R size top M) (h : Homed c size Q₀ Q₁) (o : Opened c size 1 Q₁ Q)
    (blank : (x : ℕ) → get_or Q₀ x 0 ≡ 0) (long : length Q₀ ≡ 1537) (f : Members c 0 size F) where
  shape : Shape c size
  shape = g.given.shape

  no-tail : tail_of Q ≡ 0
  no-tail = o.rest 0 (inl (omega arith)) ∙ h.rest 0 (omega arith) ∙ blank 0

  kept : Kept size 0 M Q 0
  kept = record {
    small = shape.small;
    levels = omega arith;
    on = omega arith;
    marks-long = omega (arith, g.given.marks-long);
    work-long = o.long ∙ h.long ∙ long;
    count = omega (arith, no-tail, count_most 0 M (1536 * 0) 512);
    queued = λ k a b. absurd (omega (arith, no-tail));
  }

  pub root-waking : Waking size 0 0 512 F M Q 0 top
  root-waking = record {
    spreads = record { kept = kept; linked = f.linked; inside = g.inside };
    from = omega arith;
    to = omega arith;
    levels = omega arith;
  }

  opens-first : (q e : ℕ) → q < size → owner_at c q ≡ e + 1 → Seen Q q
  opens-first q e l w = o.opened q l (key-after c q ∙ elim (ℕ_discrete q 0) as (λ _. after_key c q ≡ 0) [
    | yes z ↦ after_none c q z
    | no z ↦ (let y : (q - 1) + 1 ≡ q = omega arith in
        after-some c q z ∙ use-none c (q - 1) (λ k. (let v = shape.inner (q - 1) (omega (arith, y)) (λ u. omega arith) in omega (arith, ap (owner_at c) y))))
  ])

  opens-after : (p : ℕ) → p + 1 < size → next_kind c p ≡ 1 → Seen Q (p + 1)
  opens-after p l k = o.opened (p + 1) l (key-after c (p + 1) ∙ after-some c (p + 1) (λ z. omega arith)
      ∙ use-none c (p + 1 - 1) (λ z. omega (arith, ap (next_kind c) (let y : p + 1 - 1 ≡ p = omega arith in y))))

  module _ {M₁ Q₂ : List ℕ} (w : Woken size 0 0 512 F M Q M₁ Q₂ 0 top) where
    byte : (x : ℕ) → (get_or M₁ x 0 ≡ 0) ⊎ ((x < 512) × (get_or M₁ x 0 ≡ 1)) ⊎ ((x ≡ 512 + top) × (get_or M₁ x 0 ≡ 1))
    byte x = ⊎_elim
        (⊎_elim (λ z. inl (z ∙ g.none x)) (λ z. inr (inl (omega (arith, z.to), z.now-is))))
        (λ z. inr (inr (omega (arith, z.0), z.2)))
        (w.cell x)

    firsts : (q e k : ℕ) → q < size → owner_at c q ≡ e + 1 → 0 ≤ k → Begins M₁ e k → Reached M₁ q k
    firsts q e k l d b v = ⊎_elim (λ z. absurd (omega arith))
        (⊎_elim (λ z. absurd (omega (arith, z.0)))
        (λ z. (let below = shape.owner q l in
        let s = shape.small in
        let y : (k ≡ 0) × (e ≡ top) = (omega (arith, z.0, g.inside), omega (arith, z.0, g.inside)) in
        subst (λ (x : ℕ). Reached M₁ q x) (sym y.0)
        (w.woken (g.none (1536 * 0 + (512 + top))) q (f.all q top l (key-first c q ∙ d ∙ ap (λ (x : ℕ). x + 1) y.1)) (opens-first q e l d) (omega arith)))))
        (byte (1536 * k + (512 + e)))

    pub place-start : Passing Tb c R size top (length M₁) M₁ Q₂ 0
    place-start = record {
      long = refl;
      room = omega (arith, w.long, g.given.marks-long);
      work-long = w.kept.work-long;
      root = w.there (omega arith);
      begins-open = λ q e l d. omega (arith, w.rest (513 + q) (omega arith), opens-first q e l d);
      after_open = λ p l k. omega (arith, w.rest (513 + (p + 1)) (omega arith), opens-after p l k);
      homes = λ p l. w.rest (1025 + p) (omega arith) ∙ o.rest (1025 + p) (inr (omega arith)) ∙ h.homes p l;
      seen = λ p k l b. absurd (omega arith);
      closed = λ k b. absurd (omega arith);
      first = firsts;
      none = λ e k l b. ⊎_elim (λ z. z) (⊎_elim (λ z. absurd (omega (arith, z.0))) (λ z. absurd (omega (arith, z.0, g.inside, shape.small)))) (byte (1536 * k + (1024 + e)));
      level = λ e k l. (
        ⊎_elim (λ z. omega arith) (⊎_elim (λ z. omega (arith, z.1)) (λ z. omega (arith, z.1))) (byte (1536 * k + (512 + e))),
        ⊎_elim (λ z. omega arith) (⊎_elim (λ z. omega (arith, z.1)) (λ z. omega (arith, z.1))) (byte (1536 * k + (1024 + e))),
      );
      ones = λ p k l b. ⊎_elim (λ z. omega arith) (⊎_elim (λ z. omega (arith, z.1)) (λ z. omega (arith, z.1))) (byte (1536 * k + p));
    }

pub keying-next : {c : List ℕ} {size w : ℕ} {Q₀ Q₁ Q : List ℕ} → Shape c size → length Q₀ ≡ 1537 → Homed c size Q₀ Q₁ → Opened c size w Q₁ Q → Keying c size Q
keying-next s l h o = record {
  shape = s;
  long = o.long ∙ h.long ∙ l;
  homes = λ p a. o.rest (1025 + p) (inr (omega arith)) ∙ h.homes p a;
}

-- in the end
pub place_end : {Tb c : List ℕ} {R : Text} {size top len i n : ℕ} {M Q : List ℕ} → Passing Tb c R size top len M Q i → n ≡ length R → n < i
    → Lefted Tb c R size top M (not (eqb (get_or M (1536 * n + (1024 + top)) 0) 0))
place_end {top = top} {n = n} {M} a e l = record {
  long = omega (arith, a.long, a.room);
  closed = places-closed a (omega arith);
  only = places-only a (omega arith);
  level = a.level;
  ends = λ h. subst (λ (k : ℕ). Ends M top k) e (some_of (end_at M top n) h);
  fails = λ h f. none_of (end_at M top n) h (subst (λ (k : ℕ). Ends M top k) (sym e) f);
}
  where
    some_of : (b : ℕ) → not (eqb b 0) ≡ true → 1 ≤ b
    some_of b h = elim (ℕ_discrete b 0) as (λ _. 1 ≤ b) [ yes z ↦ absurd (clash (ap not (eq-eqb b 0 z)) h) | no z ↦ omega arith ]

    none_of : (b : ℕ) → not (eqb b 0) ≡ false → 1 ≤ b → ⊥
    none_of b h k = clash h (ap not (ne_eqb b 0 (λ z. omega arith)))
