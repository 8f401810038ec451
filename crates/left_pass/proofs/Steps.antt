-- The steps of the pass from the left at one place.
use mathlib.Core.List.{List}
use mathlib.Core.Logic.{◌⊎◌, inl, inr, ⊎_elim}
use mathlib.Core.Path.{◌≡◌, refl, sym, subst, ap, ◌∙◌}
use Prim.Native.Nat.{ℕ, ◌+◌, ◌*◌, ◌-◌, ◌<◌, ◌≤◌}
use native.Mathlib.Decide.{ℕ_discrete}
use native.Mathlib.Omega.{arith}
use lib.ListN.{get_or, set, length-set}
use lib.Seq.{get_or-set_same, get_or-set_other}
use Rattle.chart.specs.Code.{next_kind, goes_at, rule_at, owner_at}
use Rattle.reach.specs.Flags.{dot_at, begin_at, end_at, Reached, Fits, Begins, Ends, home_of}
use Rattle.reach.specs.Work.{tail_of, Seen, Waits, Kept, Grown, Lift, Raised, Waking, Woken}
use Rattle.reach.specs.Lists.{use_key, key_of}
use Rattle.left_pass.specs.Left.{Stir, Rules, At, AtList, Stepped, SymbolDone, EndDone, EmptyDone}
use Rattle.reach.proofs.Queue.{grown-le, raised-le, waits-on, waits-from, kept_more}
use Rattle.reach.proofs.Keys.{key-first, key-after, use-some, after-some, home_below}

pub stir-none : {size low i : ℕ} {M Q : List ℕ} → Kept size low M Q i → Stir size low M Q M Q i
stir-none k = record {
  kept = k;
  long = refl;
  grows = λ x. omega arith;
  away = λ x h. refl;
  seen = λ p s. s;
  homes = λ x h. refl;
  more = omega arith;
  same = λ x h l. refl;
  fresh = λ p h l. inl l;
}

pub stir-join : {size low i : ℕ} {M Q M₁ Q₁ M₂ Q₂ : List ℕ} → Stir size low M Q M₁ Q₁ i → Stir size low M₁ Q₁ M₂ Q₂ i → Stir size low M Q M₂ Q₂ i
stir-join a b = record {
  kept = b.kept;
  long = b.long ∙ a.long;
  grows = λ x. omega (arith, a.grows x, b.grows x);
  away = λ x h. b.away x h ∙ a.away x h;
  seen = λ p s. b.seen p (a.seen p s);
  homes = λ x h. b.homes x h ∙ a.homes x h;
  more = omega (arith, a.more, b.more);
  same = λ k h l. b.same k h (omega (arith, a.more)) ∙ a.same k h l;
  fresh = λ p h l. ⊎_elim
      (λ e. ⊎_elim inl (λ w. inr (waits-on b.more b.same w)) (a.fresh p h e))
      (λ w. inr (waits-from a.more w))
      (b.fresh p h l);
}

pub stir-grown : {size low i : ℕ} {M Q M' Q' : List ℕ} → Grown size low M Q M' Q' i → Stir size low M Q M' Q' i
stir-grown {i = i} {M} {Q} {M'} g = record {
  kept = g.kept;
  long = g.long;
  grows = grown-le g;
  away = λ x h. ⊎_elim (λ e. e) (λ l. absurd (⊎_elim (λ a. omega (arith, l.from)) (λ a. omega (arith, l.to)) h)) (g.cell x);
  seen = λ p s. omega (arith, g.rest (513 + p) (omega arith));
  homes = λ x h. g.rest x (omega arith);
  more = g.more;
  same = g.same;
  fresh = g.fresh;
}

-- bytes that a woken rule changes
module _ {size dots low column i e : ℕ} {L M Q M' Q' : List ℕ} (w : Woken size dots low column L M Q M' Q' i e) where
  pub woken-le : (x : ℕ) → get_or M x 0 ≤ get_or M' x 0
  woken-le x = ⊎_elim (⊎_elim (λ a. omega arith) (λ a. omega (arith, a.was, a.now-is))) (λ a. omega (arith, a.1, a.2)) (w.cell x)

  -- a byte of no dot, and not the rule's own
  pub woken-same : (x : ℕ) → (1536 * i + 512 ≤ x) ⊎ (x < 1536 * i) → (x ≡ 1536 * i + (column + e) → ⊥) → get_or M' x 0 ≡ get_or M x 0
  woken-same x h n = ⊎_elim
      (⊎_elim (λ a. a) (λ a. absurd (⊎_elim (λ b. omega (arith, a.to)) (λ b. omega (arith, a.from)) h)))
      (λ a. absurd (n a.0))
      (w.cell x)

  pub stir-woken : e < 512 → 512 ≤ column → column ≤ 1024 → Stir size dots M Q M' Q' i
  stir-woken h f t = record {
    kept = w.kept;
    long = w.long;
    grows = woken-le;
    away = λ x a. woken-same x (⊎_elim (λ b. inr b) (λ b. inl (omega arith)) a) (λ z. ⊎_elim (λ b. omega arith) (λ b. omega arith) a);
    seen = λ p s. omega (arith, w.rest (513 + p) (omega arith));
    homes = λ x a. w.rest x (omega arith);
    more = w.more;
    same = w.same;
    fresh = w.fresh;
  }

-- a reached dot is raised
module _ {size low i p v : ℕ} {M Q M' : List ℕ} (k : Kept size low M Q i) (h : p < 512) (l : low < dot_at M p i) (r : Raised M M' (1536 * i + p) v) where
  pub raise-other : (x : ℕ) → (x ≡ 1536 * i + p → ⊥) → get_or M' x 0 ≡ get_or M x 0
  raise-other x n = ⊎_elim (λ a. a) (λ a. absurd (n a.0)) (r.cell x)

  pub stir-raised : Stir size low M Q M' Q i
  stir-raised = record {
    kept = kept_more k r.long (raised-le r);
    long = r.long;
    grows = raised-le r;
    away = λ x a. raise-other x (λ z. ⊎_elim (λ b. omega arith) (λ b. omega arith) a);
    seen = λ q s. s;
    homes = λ x a. refl;
    more = omega arith;
    same = λ j a b. refl;
    fresh = λ q a b. elim (ℕ_discrete q p) as (λ _. (low < dot_at M q i) ⊎ Waits Q (tail_of Q) q) [
      | yes z ↦ inl (subst (λ (y : ℕ). low < dot_at M y i) (sym z) l)
      | no z ↦ inl (omega (arith, raise-other (1536 * i + q) (λ y. z (omega arith))))
    ];
  }

-- a dot is opened
module _ {size low i : ℕ} {M Q : List ℕ} (p : ℕ) (k : Kept size low M Q i) (h : p + 1 < 512) where
  pub open-here : Seen (set Q (514 + p) 1) (p + 1)
  open-here = omega (arith, ap (λ (x : ℕ). get_or (set Q (514 + p) 1) x 0) (let z : 513 + (p + 1) ≡ 514 + p = omega arith in z), get_or-set_same Q (514 + p) 1 0 (omega (arith, k.work-long)))

  pub open-other : (x : ℕ) → (x ≡ 514 + p → ⊥) → get_or (set Q (514 + p) 1) x 0 ≡ get_or Q x 0
  open-other x n = get_or-set_other Q (514 + p) x 1 0 n

  pub stir-open : Stir size low M Q M (set Q (514 + p) 1) i
  stir-open = record {
    kept = record {
      small = k.small;
      levels = k.levels;
      on = k.on;
      marks-long = k.marks-long;
      work-long = length-set Q (514 + p) 1 ∙ k.work-long;
      count = omega (arith, k.count, open-other 0 (λ z. omega arith));
      queued = λ j a b. (let t : j ≤ tail_of Q = omega (arith, open-other 0 (λ z. omega arith)) in
          subst (λ (y : ℕ). (y < size) × (low < dot_at M y i)) (sym (open-other j (λ z. omega (arith, k.count)))) (k.queued j a t));
    };
    long = refl;
    grows = λ x. omega arith;
    away = λ x a. refl;
    seen = λ q s. elim (ℕ_discrete q (p + 1)) as (λ _. Seen (set Q (514 + p) 1) q) [
      | yes z ↦ subst (Seen (set Q (514 + p) 1)) (sym z) open-here
      | no z ↦ omega
          (arith, open-other (513 + q) (λ y. z (omega arith)))
    ];
    homes = λ x a. open-other x (λ z. omega arith);
    more = omega (arith, open-other 0 (λ z. omega arith));
    same = λ j a b. open-other j (λ z. omega (arith, k.count));
    fresh = λ q a b. inl b;
  }

-- what a step keeps of the rules
module _ {c : List ℕ} {size i : ℕ} {M Q M' Q' : List ℕ} (r : Rules c size M Q i) (s : Stir size 0 M Q M' Q' i) where
  pub rules-next : ((q d : ℕ) → q < size → owner_at c q ≡ d + 1 → Begins M' d i → Begins M d i ⊎ Reached M' q i)
      → ((p : ℕ) → p < size → next_kind c p ≡ 2 → Ends M' (rule_at c p) i → Seen Q' (p + 1) → (Ends M (rule_at c p) i × Seen Q (p + 1)) ⊎ Reached M' (p + 1) i)
      → Rules c size M' Q' i
  rules-next f g = record {
    first = λ q d h o b. ⊎_elim (λ a. omega (arith, r.first q d h o a, s.grows (1536 * i + q))) (λ a. a) (f q d h o b);
    over = λ p h k e w. ⊎_elim (λ a. omega (arith, r.over p h k a.0 a.1, s.grows (1536 * i + (p + 1)))) (λ a. a) (g p h k e w);
    begins-open = λ q e h o. s.seen q (r.begins-open q e h o);
    after_open = λ p h k. s.seen (p + 1) (r.after_open p h k);
    homes = λ p h. s.homes (1025 + p) (omega arith) ∙ r.homes p h;
  }

-- bytes of rules, and of dots that are lifted to 1
pub lift-same : {size low i : ℕ} {M Q M' Q' : List ℕ} → Grown size low M Q M' Q' i → (x : ℕ) → 1536 * i + 512 ≤ x → get_or M' x 0 ≡ get_or M x 0
lift-same g x h = ⊎_elim (λ a. a) (λ a. absurd (omega (arith, a.to))) (g.cell x)

lift-two : {size i : ℕ} {M Q M' Q' : List ℕ} → Grown size 0 M Q M' Q' i → (x : ℕ) → 2 ≤ get_or M' x 0 → 2 ≤ get_or M x 0
lift-two g x h = ⊎_elim (λ a. omega arith) (λ a. absurd (omega (arith, a.now-is))) (g.cell x)

woken-level : {size column i e : ℕ} {L M Q M' Q' : List ℕ} → Woken size 0 0 column L M Q M' Q' i e → (x : ℕ) → get_or M x 0 ≤ 1 → get_or M' x 0 ≤ 1
woken-level w x h = ⊎_elim (⊎_elim (λ a. omega arith) (λ a. omega (arith, a.now-is))) (λ a. omega (arith, a.2)) (w.cell x)

woken-two : {size column i e : ℕ} {L M Q M' Q' : List ℕ} → Woken size 0 0 column L M Q M' Q' i e → (x : ℕ) → 2 ≤ get_or M' x 0 → 2 ≤ get_or M x 0
woken-two w x h = ⊎_elim (⊎_elim (λ a. omega arith) (λ a. absurd (omega (arith, a.now-is)))) (λ a. absurd (omega (arith, a.2))) (w.cell x)

module _ {c : List ℕ} {size i p : ℕ} {M Q : List ℕ} (a : At c size M Q i p) where
  pub stepped-none : Stepped c size M Q M Q i
  stepped-none = record { stir = stir-none a.kept; rules = a.rules; only = λ q h k f. inl f; level = λ x h l. l }

-- at a symbol
module _ {c : List ℕ} {size i p : ℕ} {F M Q : List ℕ} (t : AtList c 0 size F M Q i p) (kind : next_kind c p ≡ 2) where
  a : At c size M Q i p
  a = t.at

  pub symbol-after : p + 1 < size
  symbol-after = a.shape.after p a.inside (λ z. omega arith)

  pub symbol-rule : rule_at c p < size
  symbol-rule = a.shape.rule p a.inside kind

  small : p + 1 < 512
  small = omega (arith, symbol-after, a.shape.small)

  opened : Stir size 0 M Q M (set Q (514 + p) 1) i
  opened = stir-open p a.kept small

  pub symbol-waking : Waking size 0 0 512 F M (set Q (514 + p) 1) i (rule_at c p)
  symbol-waking = record {
    spreads = record { kept = opened.kept; linked = t.list.linked; inside = symbol-rule };
    from = omega arith;
    to = omega arith;
    levels = omega arith;
  }

  module _ {M₂ Q₂ M₃ : List ℕ} (w : Woken size 0 0 512 F M (set Q (514 + p) 1) M₂ Q₂ i (rule_at c p)) (r : Raised M₂ M₃ (1536 * i + p) 2) where
    waking : Stir size 0 M (set Q (514 + p) 1) M₂ Q₂ i
    waking = stir-woken w (omega (arith, symbol-rule, a.shape.small)) (omega arith) (omega arith)

    still : Reached M₂ p i
    still = omega (arith, a.reached, waking.grows (1536 * i + p))

    raising : Stir size 0 M₂ Q₂ M₃ Q₂ i
    raising = stir-raised waking.kept (omega (arith, a.inside, a.shape.small)) still r

    stirred : Stir size 0 M Q M₃ Q₂ i
    stirred = stir-join opened (stir-join waking raising)

    pub symbol-kept : Kept size 0 M₃ Q₂ i
    symbol-kept = raising.kept

    same-rule : (x : ℕ) → 1536 * i + 512 ≤ x → (x ≡ 1536 * i + (512 + rule_at c p) → ⊥) → get_or M₃ x 0 ≡ get_or M x 0
    same-rule x h n = raise-other waking.kept (omega (arith, a.inside, a.shape.small)) still r x (λ z. omega (arith, a.inside, a.shape.small)) ∙ woken-same w x (inl h) n

    begins : (q d : ℕ) → q < size → owner_at c q ≡ d + 1 → Begins M₃ d i → Begins M d i ⊎ Reached M₃ q i
    begins q d h o b = elim (ℕ_discrete d (rule_at c p)) as (λ _. Begins M d i ⊎ Reached M₃ q i) [
      | yes z ↦ elim (ℕ_discrete (begin_at M (rule_at c p) i) 0) as (λ _. Begins M d i ⊎ Reached M₃ q i) [
        | yes y ↦ inr
            (omega (
              arith,
              raising.grows (1536 * i + q),
              w.woken y q (t.list.all q (rule_at c p) h (key-first c q ∙ o ∙ ap (λ (v : ℕ). v + 1) z)) (opened.seen q (a.rules.begins-open q d h o)) (omega arith),
            ))
        | no y ↦ inl (subst (λ (v : ℕ). Begins M v i) (sym z) (omega (arith, y)))
      ]
      | no z ↦ inl (omega (arith, same-rule (1536 * i + (512 + d)) (omega arith) (λ y. z (omega arith))))
    ]

    ends : (q : ℕ) → (q ≡ p → ⊥) → Ends M₃ (rule_at c q) i → Seen Q₂ (q + 1) → Ends M (rule_at c q) i × Seen Q (q + 1)
    ends q n e v = (
      omega (arith, same-rule (1536 * i + (1024 + rule_at c q)) (omega arith) (λ y. omega (arith, symbol-rule, a.shape.small))),
      omega (arith, w.rest (513 + (q + 1)) (omega arith), open-other p a.kept small (513 + (q + 1)) (λ y. n (omega arith))),
    )

    only : (q : ℕ) → q < size → next_kind c q ≡ 1 → Fits M₃ q i → Fits M q i
    only q h k f = ⊎_elim (λ y. woken-two w (1536 * i + q) (omega arith))
        (λ y. absurd (let z : q ≡ p = omega (arith, y.0) in omega (arith, ap (next_kind c) z)))
        (r.cell (1536 * i + q))

    level : (x : ℕ) → 1536 * i + 512 ≤ x → get_or M x 0 ≤ 1 → get_or M₃ x 0 ≤ 1
    level x h l = omega (
      arith,
      raise-other waking.kept (omega (arith, a.inside, a.shape.small)) still r x (λ z. omega (arith, a.inside, a.shape.small)),
      woken-level w x l,
    )

    pub symbol-done : SymbolDone c M₃ Q₂ i p
    symbol-done _ = (
      omega (arith, w.there (omega arith), raising.grows (1536 * i + (512 + rule_at c p))),
      omega (arith, open-here p a.kept small, w.rest (513 + (p + 1)) (omega arith)),
      r.there,
    )

    pub symbol-none : end_at M₃ (rule_at c p) i ≡ 0 → Stepped c size M Q M₃ Q₂ i
    symbol-none z = record {
      stir = stirred;
      rules = rules-next a.rules stirred begins
          (λ q h k e v. inl (ends q (λ y. omega (arith, ap (λ (x : ℕ). end_at M₃ (rule_at c x) i) y)) e v));
      only = λ q h k f. inl (only q h k f);
      level = level;
    }

    module _ {M₄ Q₄ : List ℕ} (l : Lift size 0 M₃ Q₂ M₄ Q₄ i (p + 1)) where
      lifting : Stir size 0 M₃ Q₂ M₄ Q₄ i
      lifting = stir-grown l.grown

      pub symbol-over : Stepped c size M Q M₄ Q₄ i
      symbol-over = record {
        stir = stir-join stirred lifting;
        rules = rules-next a.rules (stir-join stirred lifting)
            (λ q d h o b. ⊎_elim inl (λ y. inr (omega (arith, lifting.grows (1536 * i + q))))
            (begins q d h o (omega (arith, lift-same l.grown (1536 * i + (512 + d)) (omega arith)))))
            (λ q h k e v. elim (ℕ_discrete q p) as (λ _. (Ends M (rule_at c q) i × Seen Q (q + 1)) ⊎ Reached M₄ (q + 1) i) [
              | yes y ↦ inr (subst (λ (x : ℕ). Reached M₄ (x + 1) i) (sym y) (l.there (symbol-done kind).1 (omega arith)))
              | no y ↦ inl (ends q y (omega (arith, lift-same l.grown (1536 * i + (1024 + rule_at c q)) (omega arith))) (omega (arith, l.grown.rest (513 + (q + 1)) (omega arith))))
            ]);
        only = λ q h k f. inl (only q h k (lift-two l.grown (1536 * i + q) f));
        level = λ x h v. omega (arith, lift-same l.grown x h, level x h v);
      }

      pub symbol-over-done : SymbolDone c M₄ Q₄ i p
      symbol-over-done _ = (let d = symbol-done kind in
          (omega (arith, d.0, lifting.grows (1536 * i + (512 + rule_at c p))), lifting.seen (p + 1) d.1, omega (arith, d.2, lifting.grows (1536 * i + p))))

-- at an end
module _ {c : List ℕ} {size i p : ℕ} {A M Q : List ℕ} (t : AtList c 1 size A M Q i p) (kind : next_kind c p ≡ 0) where
  at : At c size M Q i p
  at = t.at

  abbrev e : ℕ
  e = home_of c p

  pub end-home : get_or Q (1025 + p) 0 ≡ home_of c p
  end-home = at.rules.homes p at.inside

  inside : home_of c p < size
  inside = home_below at.shape p at.inside

  pub end-waking : Waking size 0 0 1024 A M Q i (home_of c p)
  end-waking = record {
    spreads = record { kept = at.kept; linked = t.list.linked; inside = inside };
    from = omega arith;
    to = omega arith;
    levels = omega arith;
  }

  module _ {M₂ Q₂ M₃ : List ℕ} (w : Woken size 0 0 1024 A M Q M₂ Q₂ i (home_of c p)) (r : Raised M₂ M₃ (1536 * i + p) 2) where
    waked : Stir size 0 M Q M₂ Q₂ i
    waked = stir-woken w (omega (arith, inside, at.shape.small)) (omega arith) (omega arith)

    here : Reached M₂ p i
    here = omega (arith, at.reached, waked.grows (1536 * i + p))

    raises : Stir size 0 M₂ Q₂ M₃ Q₂ i
    raises = stir-raised waked.kept (omega (arith, at.inside, at.shape.small)) here r

    kept_rule : (x : ℕ) → 1536 * i + 512 ≤ x → (x ≡ 1536 * i + (1024 + home_of c p) → ⊥) → get_or M₃ x 0 ≡ get_or M x 0
    kept_rule x h n = raise-other waked.kept (omega (arith, at.inside, at.shape.small)) here r x (λ z. omega (arith, at.inside, at.shape.small)) ∙ woken-same w x (inl h) n

    after_is : (q : ℕ) → next_kind c q ≡ 2 → rule_at c q ≡ home_of c p → key_of c 1 (q + 1) ≡ home_of c p + 1
    after_is q k z = key-after c (q + 1) ∙ after-some c (q + 1) (λ y. omega arith)
        ∙ subst (λ (x : ℕ). use_key c x ≡ home_of c p + 1) (let y : q ≡ q + 1 - 1 = omega arith in y) (use-some c q k ∙ ap (λ (x : ℕ). x + 1) z)

    ended : (q : ℕ) → q < size → next_kind c q ≡ 2 → Ends M₃ (rule_at c q) i → Seen Q₂ (q + 1) → (Ends M (rule_at c q) i × Seen Q (q + 1)) ⊎ Reached M₃ (q + 1) i
    ended q h k f v =
        let s : Seen Q (q + 1) = omega (arith, w.rest (513 + (q + 1)) (omega arith)) in
        elim (ℕ_discrete (rule_at c q) (home_of c p)) as (λ _. (Ends M (rule_at c q) i × Seen Q (q + 1)) ⊎ Reached M₃ (q + 1) i) [
          | yes z ↦ elim (ℕ_discrete (end_at M (home_of c p) i) 0) as (λ _. (Ends M (rule_at c q) i × Seen Q (q + 1)) ⊎ Reached M₃ (q + 1) i) [
            | yes y ↦ (let l = t.list.all (q + 1) (home_of c p) (at.shape.after q h (λ x. omega arith)) (after_is q k z) in
                inr (omega (arith, raises.grows (1536 * i + (q + 1)), w.woken y (q + 1) l s (omega arith))))
            | no y ↦ inl (subst (λ (x : ℕ). Ends M x i) (sym z) (omega (arith, y)), s)
          ]
          | no z ↦ inl (omega (arith, kept_rule (1536 * i + (1024 + rule_at c q)) (omega arith) (λ y. z (omega arith))), s)
        ]

    pub end-stepped : Stepped c size M Q M₃ Q₂ i
    end-stepped = record {
      stir = stir-join waked raises;
      rules = rules-next at.rules (stir-join waked raises)
          (λ q d h o b. inl (omega (arith, kept_rule (1536 * i + (512 + d)) (omega arith) (λ y. omega (arith, at.shape.owner q h, at.shape.small)))))
          ended;
      only = λ q h k f. ⊎_elim (λ y. inl (woken-two w (1536 * i + q) (omega arith)))
          (λ y. absurd (let z : q ≡ p = omega (arith, y.0) in omega (arith, ap (next_kind c) z)))
          (r.cell (1536 * i + q));
      level = λ x h v. omega (
        arith,
        raise-other waked.kept (omega (arith, at.inside, at.shape.small)) here r x (λ z. omega (arith, at.inside, at.shape.small)),
        woken-level w x v,
      );
    }

    pub end-done : EndDone c M₃ i p
    end-done _ = (omega (arith, w.there (omega arith), raises.grows (1536 * i + (1024 + home_of c p))), r.there)

-- at a terminal that takes no character
module _ {c : List ℕ} {size i p : ℕ} {M Q : List ℕ} (t : At c size M Q i p) (kind : next_kind c p ≡ 1) (goes : goes_at c p ≡ 0) where
  pub empty-after : p + 1 < size
  empty-after = t.shape.after p t.inside (λ z. omega arith)

  module _ {M₂ : List ℕ} (r : Raised M M₂ (1536 * i + p) 2) where
    raise-it : Stir size 0 M Q M₂ Q i
    raise-it = stir-raised t.kept (omega (arith, t.inside, t.shape.small)) t.reached r

    pub empty-kept : Kept size 0 M₂ Q i
    empty-kept = raise-it.kept

    module _ {M₃ Q₃ : List ℕ} (l : Lift size 0 M₂ Q M₃ Q₃ i (p + 1)) where
      whole : Stir size 0 M Q M₃ Q₃ i
      whole = stir-join raise-it (stir-grown l.grown)

      same_byte : (x : ℕ) → 1536 * i + 512 ≤ x → get_or M₃ x 0 ≡ get_or M x 0
      same_byte x h = lift-same l.grown x h
          ∙ raise-other t.kept (omega (arith, t.inside, t.shape.small)) t.reached r x (λ z. omega (arith, t.inside, t.shape.small))

      pub empty-stepped : Stepped c size M Q M₃ Q₃ i
      empty-stepped = record {
        stir = whole;
        rules = rules-next t.rules whole
            (λ q d h o b. inl (omega (arith, same_byte (1536 * i + (512 + d)) (omega arith))))
            (λ q h k e v. inl (omega (arith, same_byte (1536 * i + (1024 + rule_at c q)) (omega arith)), omega (arith, l.grown.rest (513 + (q + 1)) (omega arith))));
        only = λ q h k f. ⊎_elim (λ y. inl (omega (arith, lift-two l.grown (1536 * i + q) f)))
            (λ y. inr (let z : q ≡ p = omega (arith, y.0) in ap (goes_at c) z ∙ goes))
            (r.cell (1536 * i + q));
        level = λ x h v. omega (arith, same_byte x h);
      }

      pub empty-done : EmptyDone c M₃ i p
      empty-done _ _ = (
        omega (arith, r.there, grown-le l.grown (1536 * i + p)),
        l.there (t.rules.after_open p empty-after kind) (omega arith),
      )
