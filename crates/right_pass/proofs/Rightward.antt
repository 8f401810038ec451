-- The pass from the right, from place to place.
use mathlib.Core.List.{List}
use mathlib.Core.Logic.{inl, inr, ⊎_elim}
use mathlib.Core.Path.{◌≡◌, refl, sym, subst, ap, ◌∙◌}
use Prim.Native.Nat.{ℕ, ◌+◌, ◌*◌, ◌-◌, ◌<◌, ◌≤◌}
use native.Mathlib.Decide.{ℕ_discrete}
use native.Mathlib.Omega.{arith}
use lib.ListN.{length, get_or}
use Rattle.text.specs.Lists.{Text}
use Rattle.text.proofs.Tests.{split}
use Rattle.chart.specs.Code.{next_kind, goes_at, rule_at, owner_at}
use Rattle.rules.specs.Ready.{Token}
use Rattle.reach.specs.Flags.{dot_at, begin_at, end_at, Fits, Continued, Begins, Ends, Wanted, home_of, LeftClosed, FitsOnly}
use Rattle.reach.specs.Work.{tail_of, Seen, Kept, Raised, Waking, Woken, Collects, Collected}
use Rattle.reach.specs.Lists.{key_of, Shape, Homes, Homed, Opened, Members}
use Rattle.right_pass.specs.Right.{Closing, Closed, Unshifted, Unshifting, Righting, Righted}
use Rattle.reach.proofs.Counts.{count_most}
use Rattle.reach.proofs.Queue.{raised-le}
use Rattle.reach.proofs.Keys.{home_below, key-end, key-use, use-none, end-some}
use Rattle.left_pass.proofs.Steps.{stir-woken}
use Rattle.right_pass.proofs.Back.{woken-ones, woken-twos}

-- terminals give back their characters
module _ {c : List ℕ} {size j p : ℕ} {M : List ℕ} (g : Unshifting c size M j) (hp : p < size) where
  pub unshift-none : (next_kind c p ≡ 1 → (goes_at c p ≡ 0 → ⊥) → (i : ℕ) → i + goes_at c p ≡ j → Fits M p i → Continued M (p + 1) j → ⊥) → Unshifted c size M M j p (p + 1)
  unshift-none n = record {
    long = refl;
    grows = λ x. omega arith;
    after = λ x h. refl;
    rules = λ k e h. (refl, refl);
    ones = λ y h. h;
    twos = λ q k h f. f;
    shift = λ q i a b h k z e f t. (let y : q ≡ p = omega arith in
        absurd (n (ap (next_kind c) (sym y) ∙ k) (λ v. z (ap (goes_at c) y ∙ v)) i (ap (λ (v : ℕ). i + goes_at c v) (sym y) ∙ e)
        (subst (λ (v : ℕ). Fits M v i) y f) (subst (λ (v : ℕ). Continued M (v + 1) j) y t)));
  }

  module _ (some : goes_at c p ≡ 0 → ⊥) (within : goes_at c p ≤ j) (fit : Fits M p (j - goes_at c p)) {M' : List ℕ} (r : Raised M M' (1536 * (j - goes_at c p) + p) 3) where
    other : (x : ℕ) → (x ≡ 1536 * (j - goes_at c p) + p → ⊥) → get_or M' x 0 ≡ get_or M x 0
    other x n = ⊎_elim (λ a. a) (λ a. absurd (n a.0)) (r.cell x)

    was : (x : ℕ) → 2 ≤ get_or M' x 0 → 2 ≤ get_or M x 0
    was x h = ⊎_elim (λ a. omega arith) (λ a. omega (arith, ap (λ (v : ℕ). get_or M v 0) a.0, fit)) (r.cell x)

    pub unshift-some : Unshifted c size M M' j p (p + 1)
    unshift-some = record {
      long = r.long;
      grows = raised-le r;
      after = λ x h. other x (λ y. omega (arith, some, hp, g.shape.small));
      rules = λ k e h. (
        other (1536 * k + (512 + e)) (λ y. omega (arith, hp, g.shape.small)),
        other (1536 * k + (1024 + e)) (λ y. omega (arith, hp, g.shape.small)),
      );
      ones = λ y h. ⊎_elim (λ a. omega arith) (λ a. omega (arith, ap (λ (v : ℕ). get_or M v 0) a.0, fit)) (r.cell y);
      twos = λ q k h f. was (1536 * k + q) f;
      shift = λ q i a b h k z e f t. (let y : p ≡ q = omega arith in
          let v : goes_at c p ≡ goes_at c q = ap (goes_at c) y in
          let w : j - goes_at c p ≡ i = omega arith in
          subst (λ (u : ℕ). Continued M' u i) y (subst (λ (u : ℕ). Continued M' p u) w r.there));
    }

pub unshifting-next : {c : List ℕ} {size j : ℕ} {M M' : List ℕ} → Unshifting c size M j → length M' ≡ length M → Unshifting c size M' j
unshifting-next g l = record { shape = g.shape; on = g.on; marks-long = omega (arith, l, g.marks-long) }

pub unshift-start : (c : List ℕ) (size : ℕ) (M : List ℕ) (j : ℕ) → Unshifted c size M M j 0 0
unshift-start c size M j = record {
  long = refl;
  grows = λ x. omega arith;
  after = λ x h. refl;
  rules = λ k e h. (refl, refl);
  ones = λ y h. h;
  twos = λ q k h f. f;
  shift = λ q i a b. absurd (omega arith);
}

pub unshift-join : {c : List ℕ} {size j a b d : ℕ} {M M₁ M₂ : List ℕ} → size ≤ 512 → Unshifted c size M M₁ j a b → Unshifted c size M₁ M₂ j b d → Unshifted c size M M₂ j a d
unshift-join {j = j} {b = b} s v w = record {
  long = w.long ∙ v.long;
  grows = λ x. omega (arith, v.grows x, w.grows x);
  after = λ x h. w.after x h ∙ v.after x h;
  rules = λ k e h. ((w.rules k e h).0 ∙ (v.rules k e h).0, (w.rules k e h).1 ∙ (v.rules k e h).1);
  ones = λ y h. v.ones y (w.ones y h);
  twos = λ q k h f. v.twos q k h (w.twos q k h f);
  shift = λ q i l h u k z e f t. ⊎_elim
      (λ y. omega (arith, v.shift q i l y u k z e (w.twos q i (omega arith) f) (omega (arith, w.after (1536 * j + (q + 1)) (omega arith))), w.grows (1536 * i + q)))
      (λ y. w.shift q i y h u k z e f t)
      (split q b);
}

pub unshift-all : {c : List ℕ} {size j a b d : ℕ} {M M' : List ℕ} → Unshifted c size M M' j a b → d ≤ b → Unshifted c size M M' j a d
unshift-all v h = record {
  long = v.long;
  grows = v.grows;
  after = v.after;
  rules = v.rules;
  ones = v.ones;
  twos = v.twos;
  shift = λ q i l k. v.shift q i l (omega arith);
}

-- what is flagged from the left stays so
module _ {Tb c : List ℕ} {R : Text} {size top : ℕ} {M M' : List ℕ} (s : size ≤ 512) (g : (x : ℕ) → get_or M x 0 ≤ get_or M' x 0) (one : (y : ℕ) → 1 ≤ get_or M' y 0 → 1 ≤ get_or M y 0) where
  left-same : LeftClosed (Token Tb) c R size top M → LeftClosed (Token Tb) c R size top M'
  left-same l = record {
    root = omega (arith, l.root, g (1536 * 0 + (512 + top)));
    begin = λ p i h b k r. omega (arith, l.begin p i h b k (one (1536 * i + p) r), g (1536 * i + (512 + rule_at c p)));
    first = λ q e i h b o r. omega (arith, l.first q e i h b o (one (1536 * i + (512 + e)) r), g (1536 * i + q));
    live = λ p i h b n r. omega (arith, l.live p i h b n (one (1536 * i + p) r), g (1536 * i + p));
    fit = λ p i x h b k r t f. (let y = l.fit p i x h b k (one (1536 * i + p) r) t f in
        (omega (arith, y.0, g (1536 * i + p)), omega (arith, y.1, g (1536 * (i + goes_at c p) + (p + 1)))));
    end = λ p i h b k r. omega (arith, l.end p i h b k (one (1536 * i + p) r), g (1536 * i + (1024 + home_of c p)));
    over = λ p i m h b d k r e. omega (arith, l.over p i m h b d k (one (1536 * i + p) r) (one (1536 * m + (1024 + rule_at c p)) e), g (1536 * m + (p + 1)));
  }

-- the place k is closed
record ClosedAt (c : List ℕ) (n size : ℕ) (M : List ℕ) (k : ℕ) : Type 0 where
  end : (p : ℕ) → p < size → next_kind c p ≡ 0 → Fits M p k → Wanted M (home_of c p) k → Continued M p k
  want : (p : ℕ) → p < size → next_kind c p ≡ 2 → Continued M (p + 1) k → Ends M (rule_at c p) k → Wanted M (rule_at c p) k
  shift : (p i : ℕ) → p < size → next_kind c p ≡ 1 → i + goes_at c p ≡ k → Fits M p i → Continued M (p + 1) k → Continued M p i
  back : (p q j : ℕ) → p < size → q < size → k ≤ j → j ≤ n → next_kind c p ≡ 2 → Fits M p k → Begins M (rule_at c p) k → Continued M (p + 1) j
      → owner_at c q ≡ rule_at c p + 1 → Continued M q k → Continued M p k

closed-more : {c : List ℕ} {n size k : ℕ} {M M' : List ℕ} → size ≤ 512 → ClosedAt c n size M k → ((x : ℕ) → 1536 * k ≤ x → get_or M' x 0 ≡ get_or M x 0)
    → ((x : ℕ) → get_or M x 0 ≤ get_or M' x 0) → ((p i : ℕ) → p < 512 → Fits M' p i → Fits M p i) → ClosedAt c n size M' k
closed-more {c = c} {k = k} s a e g two = record {
  end = λ p h d f w. omega (
    arith,
    a.end p h d (omega (arith, e (1536 * k + p) (omega arith))) (omega (arith, e (1536 * k + (1024 + home_of c p)) (omega arith))),
    g (1536 * k + p),
  );
  want = λ p h d t f. omega (
    arith,
    a.want p h d (omega (arith, e (1536 * k + (p + 1)) (omega arith))) (omega (arith, e (1536 * k + (1024 + rule_at c p)) (omega arith))),
    g (1536 * k + (1024 + rule_at c p)),
  );
  shift = λ p i h d l f t. omega (arith, a.shift p i h d l (two p i (omega arith) f) (omega (arith, e (1536 * k + (p + 1)) (omega arith))), g (1536 * i + p));
  back = λ p q j h u l b d f v t o w. omega (
    arith,
    a.back p q j h u l b d (omega (arith, e (1536 * k + p) (omega arith))) (omega (arith, e (1536 * k + (512 + rule_at c p)) (omega arith)))
        (omega (arith, e (1536 * j + (p + 1)) (omega arith))) o (omega (arith, e (1536 * k + q) (omega arith))),
    g (1536 * k + p),
  );
}

-- the places from i on are closed
pub record Passing (Tb c : List ℕ) (R : Text) (size top len : ℕ) (M Q : List ℕ) (i : ℕ) : Type 0 where
  pub long : length M ≡ len
  pub room : 1536 * length R + 1536 ≤ len
  pub work-long : length Q ≡ 1537
  pub left : LeftClosed (Token Tb) c R size top M
  pub only : FitsOnly (Token Tb) c R size M
  pub root : Wanted M top (length R)
  pub plain-open : (p : ℕ) → p < size → (next_kind c p ≡ 2 → ⊥) → Seen Q p
  pub homes : Homes c size Q
  pub seen : (p k : ℕ) → p < size → i ≤ k → k ≤ length R → next_kind c p ≡ 2 → Continued M (p + 1) k → Seen Q p
  closed : (k : ℕ) → i ≤ k → k ≤ length R → ClosedAt c (length R) size M k
  pub end : (p k : ℕ) → p < size → k < i → next_kind c p ≡ 0 → Wanted M (home_of c p) k → Fits M p k → Continued M p k
  pub begin : (e k : ℕ) → e < 512 → k < i → begin_at M e k ≤ 1

module _ {Tb c : List ℕ} {R : Text} {size top len j : ℕ} {M₀ M Q : List ℕ} (g : Righting Tb c R size top M₀) (a : Passing Tb c R size top len M Q (j + 1)) (on : j ≤ length R) where
  pub back-collects : Collects size 2 M Q j
  back-collects = record { small = g.shape.small; levels = omega arith; on = omega (arith, g.short); marks-long = omega (arith, a.long, a.room); work-long = a.work-long }

  module _ {U E : List ℕ} (u : Members c 3 size U) (e : Members c 2 size E) {Q₁ : List ℕ} (l : Collected size 2 M Q Q₁ j) where
    pub back-closing : Closing c size U E M Q₁ j
    back-closing = record {
      shape = g.shape;
      uses = u;
      ends = e;
      kept = l.kept;
      wants = record {
        end = λ p h k w f. a.end p j h (omega arith) k w f;
        back = λ p h k b s f. absurd (omega (arith, a.begin (rule_at c p) j (omega (arith, g.shape.rule p h k, g.shape.small)) (omega arith)));
        plain-open = λ p h n. omega (arith, l.rest (513 + p) (omega arith), a.plain-open p h n);
        homes = λ p h. l.rest (1025 + p) (omega arith) ∙ a.homes p h;
      };
      listed = λ p h r. l.listed p h r;
    }

    module _ {M₂ Q₂ : List ℕ} (d : Closed c size M Q₁ M₂ Q₂ j) where
      pub back-unshifting : Unshifting c size M₂ j
      back-unshifting = record { shape = g.shape; on = omega (arith, g.short); marks-long = d.stepped.stir.kept.marks-long }

      module _ {M₃ : List ℕ} (s : Unshifted c size M₂ M₃ j 0 size) where
        grows : (x : ℕ) → get_or M x 0 ≤ get_or M₃ x 0
        grows x = omega (arith, d.stepped.stir.grows x, s.grows x)

        one : (y : ℕ) → 1 ≤ get_or M₃ y 0 → 1 ≤ get_or M y 0
        one y h = d.stepped.ones y (s.ones y h)

        two : (p k : ℕ) → p < 512 → Fits M₃ p k → Fits M p k
        two p k h f = d.stepped.twos p k h (s.twos p k h f)

        later : (x : ℕ) → 1536 * (j + 1) ≤ x → get_or M₃ x 0 ≡ get_or M x 0
        later x h = s.after x (omega arith) ∙ d.stepped.stir.away x (inr (omega arith))

        small : (p : ℕ) → p < size → p < 512
        small p h = omega (arith, g.shape.small)

        next : (p : ℕ) → p < size → (next_kind c p ≡ 0 → ⊥) → p + 1 < size
        next p h n = g.shape.after p h n

        sees : (p k : ℕ) → p < size → j ≤ k → k ≤ length R → next_kind c p ≡ 2 → Continued M₃ (p + 1) k → Seen Q₂ p
        sees p k h b t w r = elim (ℕ_discrete k j) as (λ _. Seen Q₂ p) [
          | yes z ↦ (let v : Continued M₂ (p + 1) j = omega (arith, s.after (1536 * j + (p + 1)) (omega arith), ap (λ (y : ℕ). dot_at M₃ (p + 1) y) z) in
              ((d.done (p + 1) (next p h (λ y. omega arith)) v).symbol p refl w).0)
          | no z ↦ (let o = a.seen p k h (omega arith) t w (omega (arith, later (1536 * k + (p + 1)) (omega arith))) in
              d.stepped.stir.seen p (omega (arith, o, l.rest (513 + p) (omega arith))))
        ]

        shifts : (p i : ℕ) → p < size → next_kind c p ≡ 1 → i + goes_at c p ≡ j → Fits M₃ p i → Continued M₃ (p + 1) j → Continued M₃ p i
        shifts p i h k t f r = elim (ℕ_discrete (goes_at c p) 0) as (λ _. Continued M₃ p i) [
          | yes z ↦ (let y : i ≡ j = omega arith in
              let v : Continued M₂ (p + 1) j = omega (arith, s.after (1536 * j + (p + 1)) (omega arith)) in
              let o = (d.done (p + 1) (next p h (λ y. omega arith)) v).empty p refl k z (s.twos p j (small p h) (subst (λ (q : ℕ). Fits M₃ p q) y f)) in
              subst (λ (q : ℕ). Continued M₃ p q) (sym y) (omega (arith, o, s.grows (1536 * j + p))))
          | no z ↦ s.shift p i (omega arith) h h k z t f r
        ]

        here : ClosedAt c (length R) size M₃ j
        here = record {
          end = λ p h k f w. omega (
            arith,
            d.stepped.wants.end p h k (omega (arith, s.after (1536 * j + (1024 + home_of c p)) (omega arith))) (s.twos p j (small p h) f),
            s.grows (1536 * j + p),
          );
          want = λ p h k r f. (let v : Continued M₂ (p + 1) j = omega (arith, s.after (1536 * j + (p + 1)) (omega arith)) in
              omega (
                arith,
                ((d.done (p + 1) (next p h (λ y. omega arith)) v).symbol p refl k).1 (s.ones (1536 * j + (1024 + rule_at c p)) f),
                s.grows (1536 * j + (1024 + rule_at c p)),
              ));
          shift = shifts;
          back = λ p q i h v b t k f w r o y. (let z : Continued M₂ q j = omega (arith, s.after (1536 * j + q) (omega arith)) in
              let x = (d.done q v z).first (rule_at c p) o (s.ones (1536 * j + (512 + rule_at c p)) w) in
              omega (arith, d.stepped.wants.back p h k x (sees p i h b t k r) (s.twos p j (small p h) f), s.grows (1536 * j + p)));
        }

        pub back-next : Passing Tb c R size top len M₃ Q₂ j
        back-next = record {
          long = s.long ∙ d.stepped.stir.long ∙ a.long;
          room = a.room;
          work-long = d.stepped.stir.kept.work-long;
          left = left-same g.shape.small grows one a.left;
          only = λ p i x h b k f t. a.only p i x h b k (two p i (small p h) f) t;
          root = omega (arith, a.root, grows (1536 * length R + (1024 + top)));
          plain-open = d.stepped.wants.plain-open;
          homes = d.stepped.wants.homes;
          seen = sees;
          closed = λ k h b. elim (ℕ_discrete k j) as (λ _. ClosedAt c (length R) size M₃ k) [
            | yes z ↦ subst (ClosedAt c (length R) size M₃) (sym z) here
            | no z ↦ closed-more g.shape.small (a.closed k (omega arith) b) (λ x t. later x (omega arith)) grows two
          ];
          end = λ p k h b t w f. omega (
            arith,
            a.end p k h (omega arith) t
                (omega (
                  arith,
                  (s.rules k (home_of c p) (bound p h)).1,
                  d.stepped.stir.away (1536 * k + (1024 + home_of c p)) (inl (omega (arith, bound p h))),
                ))
                (two p k (small p h) f),
            grows (1536 * k + p),
          );
          begin = λ e k h b. omega (
            arith,
            (s.rules k e h).0,
            d.stepped.stir.away (1536 * k + (512 + e)) (inl (omega arith)),
            a.begin e k h (omega arith),
          );
        }
          where
            bound : (p : ℕ) → p < size → home_of c p < 512
            bound p h = omega (arith, home_below g.shape p h, g.shape.small)

pub back_end : {Tb c : List ℕ} {R : Text} {size top len : ℕ} {M Q : List ℕ} → Passing Tb c R size top len M Q 0 → Righted Tb c R size top M
back_end {c = c} a = record {
  long = omega (arith, a.long, a.room);
  left = a.left;
  only = a.only;
  right = record {
    root = a.root;
    end = λ p j h b k r w. (a.closed j (omega arith) b).end p h k (a.left.live p j h b (λ y. omega arith) r) w;
    shift = λ p i h b k f r. (a.closed (i + goes_at c p) (omega arith) b).shift p i h k refl f r;
    want = λ p j h b k r f. (a.closed j (omega arith) b).want p h k r f;
    back = λ p q i j h v b t k r w o y. (a.closed i (omega arith) (omega arith)).back p q j h v b t k
        (a.left.live p i h (omega arith) (λ z. omega arith) r) (a.left.begin p i h (omega arith) k r) w o y;
  };
}

-- in the beginning
module _ {Tb c : List ℕ} {R : Text} {size top : ℕ} {M Q₀ Q₁ Q E : List ℕ} (g : Righting Tb c R size top M) (h : Homed c size Q₀ Q₁) (o : Opened c size 3 Q₁ Q)
    (blank : (x : ℕ) → get_or Q₀ x 0 ≡ 0) (long : length Q₀ ≡ 1537) (f : Members c 2 size E) where
  shape : Shape c size
  shape = g.shape

  no-tail : tail_of Q ≡ 0
  no-tail = o.rest 0 (inl (omega arith)) ∙ h.rest 0 (omega arith) ∙ blank 0

  kept : Kept size 2 M Q (length R)
  kept = record {
    small = shape.small;
    levels = omega arith;
    on = g.short;
    marks-long = g.marks-long;
    work-long = o.long ∙ h.long ∙ long;
    count = omega (arith, no-tail, count_most 2 M (1536 * length R) 512);
    queued = λ k a b. absurd (omega (arith, no-tail));
  }

  pub want-waking : Waking size 2 1 1024 E M Q (length R) top
  want-waking = record {
    spreads = record { kept = kept; linked = f.linked; inside = g.inside };
    from = omega arith;
    to = omega arith;
    levels = omega arith;
  }

  opens : (p : ℕ) → p < size → (next_kind c p ≡ 2 → ⊥) → Seen Q p
  opens p l n = o.opened p l (key-use c p 3 (λ y. omega arith) (λ y. omega arith) (λ y. omega arith) ∙ use-none c p n)

  module _ {M₁ Q₂ : List ℕ} (w : Woken size 2 1 1024 E M Q M₁ Q₂ (length R) top) where
    top-low : top < 512
    top-low = omega (arith, g.inside, shape.small)

    grown : (x : ℕ) → get_or M x 0 ≤ get_or M₁ x 0
    grown = (stir-woken w top-low (omega arith) (omega arith)).grows

    ones : (y : ℕ) → 1 ≤ get_or M₁ y 0 → 1 ≤ get_or M y 0
    ones = woken-ones w top-low (omega arith) (omega arith)

    twos : (p k : ℕ) → p < 512 → Fits M₁ p k → Fits M p k
    twos = woken-twos w top-low (omega arith) (omega arith)

    ends : (p k : ℕ) → p < size → k < length R + 1 → next_kind c p ≡ 0 → Wanted M₁ (home_of c p) k → Fits M₁ p k → Continued M₁ p k
    ends p k l b d v t =
        let low : home_of c p < 512 = omega (arith, home_below shape p l, shape.small) in
        ⊎_elim
        (⊎_elim (λ z. absurd (omega (arith, (g.level (home_of c p) k low).1))) (λ z. absurd (omega (arith, z.from, z.to))))
        (λ z. (let y : (k ≡ length R) × (home_of c p ≡ top) = (omega (arith, z.0, top-low), omega (arith, z.0, top-low)) in
        let key : key_of c 2 p ≡ top + 1 = key-end c p ∙ end-some c p d ∙ ap (λ (x : ℕ). x + 1) y.1 in
        let was : end_at M top (length R) ≡ 1 = sym (ap (λ (x : ℕ). get_or M x 0) z.0) ∙ z.1 in
        subst (λ (x : ℕ). Continued M₁ p x) (sym y.0)
        (w.woken was p (f.all p top l key) (opens p l (λ x. omega arith)) (twos p (length R) (omega (arith, shape.small)) (subst (λ (x : ℕ). Fits M₁ p x) y.0 t)))))
        (w.cell (1536 * k + (1024 + home_of c p)))

    pub back_start : Passing Tb c R size top (length M₁) M₁ Q₂ (length R + 1)
    back_start = record {
      long = refl;
      room = omega (arith, w.long, g.marks-long);
      work-long = w.kept.work-long;
      left = left-same shape.small grown ones g.closed;
      only = λ p i x l b k v t. g.only p i x l b k (twos p i (omega (arith, shape.small)) v) t;
      root = w.there g.ends;
      plain-open = λ p l n. omega (arith, w.rest (513 + p) (omega arith), opens p l n);
      homes = λ p l. w.rest (1025 + p) (omega arith) ∙ o.rest (1025 + p) (inr (omega arith)) ∙ h.homes p l;
      seen = λ p k l b t. absurd (omega arith);
      closed = λ k b t. absurd (omega arith);
      end = ends;
      begin = λ e k l b. ⊎_elim
          (⊎_elim (λ z. omega (arith, (g.level e k l).0)) (λ z. absurd (omega (arith, z.from, z.to))))
          (λ z. absurd (omega (arith, z.0, top-low)))
          (w.cell (1536 * k + (512 + e)));
    }

pub back_at : {Tb c : List ℕ} {R : Text} {size top len i : ℕ} {M Q : List ℕ} → Passing Tb c R size top len M Q i → 0 < i → Passing Tb c R size top len M Q ((i - 1) + 1)
back_at {Tb} {c} {R} {size} {top} {len} {i} {M} {Q} a h = subst (Passing Tb c R size top len M Q) (let z : i ≡ (i - 1) + 1 = omega arith in z) a

pub back_done : {Tb c : List ℕ} {R : Text} {size top len i : ℕ} {M Q : List ℕ} → Passing Tb c R size top len M Q i → (0 < i → ⊥) → Righted Tb c R size top M
back_done {Tb} {c} {R} {size} {top} {len} {i} {M} {Q} a n = back_end (subst (Passing Tb c R size top len M Q) (let z : i ≡ 0 = omega (arith, n) in z) a)
