-- The steps of the pass from the right at one place.
use mathlib.Core.List.{List}
use mathlib.Core.Logic.{◌⊎◌, inl, inr, ⊎_elim}
use mathlib.Core.Path.{◌≡◌, refl, sym, subst, ap, ◌∙◌}
use Prim.Native.Nat.{ℕ, ◌+◌, ◌*◌, ◌<◌, ◌≤◌}
use native.Mathlib.Decide.{ℕ_discrete}
use native.Mathlib.Omega.{arith}
use lib.ListN.{get_or, set, length-set}
use lib.Seq.{get_or-set_same, get_or-set_other}
use Rattle.chart.specs.Code.{next_kind, rule_at, owner_at}
use Rattle.reach.specs.Flags.{dot_at, begin_at, end_at, Fits, Continued, Begins, Ends, Wanted, home_of}
use Rattle.reach.specs.Work.{tail_of, Seen, Kept, Grown, Lift, Waking, Woken}
use Rattle.reach.specs.Lists.{key_of}
use Rattle.left_pass.specs.Left.{Stir}
use Rattle.right_pass.specs.Right.{Wants, At, AtList, Stepped, FirstDone, SymbolDone, EmptyDone}
use Rattle.reach.proofs.Keys.{key-end, key-use, use-some, end-some}
use Rattle.left_pass.proofs.Steps.{stir-none, stir-join, stir-grown, stir-woken, woken-same, lift-same}

-- a dot is opened
module _ {size low i : ℕ} {M Q : List ℕ} (p : ℕ) (k : Kept size low M Q i) (h : p < 512) where
  open-here : Seen (set Q (513 + p) 1) p
  open-here = omega (arith, get_or-set_same Q (513 + p) 1 0 (omega (arith, k.work-long)))

  open-other : (x : ℕ) → (x ≡ 513 + p → ⊥) → get_or (set Q (513 + p) 1) x 0 ≡ get_or Q x 0
  open-other x n = get_or-set_other Q (513 + p) x 1 0 n

  stir-open : Stir size low M Q M (set Q (513 + p) 1) i
  stir-open = record {
    kept = record {
      small = k.small;
      levels = k.levels;
      on = k.on;
      marks-long = k.marks-long;
      work-long = length-set Q (513 + p) 1 ∙ k.work-long;
      count = omega (arith, k.count, open-other 0 (λ z. omega arith));
      queued = λ j a b. (let t : j ≤ tail_of Q = omega (arith, open-other 0 (λ z. omega arith)) in
          subst (λ (y : ℕ). (y < size) × (low < dot_at M y i)) (sym (open-other j (λ z. omega (arith, k.count)))) (k.queued j a t));
    };
    long = refl;
    grows = λ x. omega arith;
    away = λ x a. refl;
    seen = λ q s. elim (ℕ_discrete q p) as (λ _. Seen (set Q (513 + p) 1) q) [
      | yes z ↦ subst (Seen (set Q (513 + p) 1)) (sym z) open-here
      | no z ↦ omega (arith, open-other (513 + q) (λ y. z (omega arith)))
    ];
    homes = λ x a. open-other x (λ z. omega arith);
    more = omega (arith, open-other 0 (λ z. omega arith));
    same = λ j a b. open-other j (λ z. omega (arith, k.count));
    fresh = λ q a b. inl b;
  }

-- bytes that are lifted were flagged before
lift-ones : {size i : ℕ} {M Q M' Q' : List ℕ} → Grown size 2 M Q M' Q' i → (x : ℕ) → 1 ≤ get_or M' x 0 → 1 ≤ get_or M x 0
lift-ones g x h = ⊎_elim (λ a. omega arith) (λ a. omega (arith, a.was)) (g.cell x)

lift-twos : {size i : ℕ} {M Q M' Q' : List ℕ} → Grown size 2 M Q M' Q' i → (x : ℕ) → 2 ≤ get_or M' x 0 → 2 ≤ get_or M x 0
lift-twos g x h = ⊎_elim (λ a. omega arith) (λ a. omega (arith, a.was)) (g.cell x)

module _ {size column i e : ℕ} {L M Q M' Q' : List ℕ} (w : Woken size 2 1 column L M Q M' Q' i e) (l : e < 512) (f : 512 ≤ column) (t : column ≤ 1024) where
  pub woken-ones : (x : ℕ) → 1 ≤ get_or M' x 0 → 1 ≤ get_or M x 0
  woken-ones x h = ⊎_elim (⊎_elim (λ a. omega arith) (λ a. omega (arith, a.was))) (λ a. omega (arith, a.1)) (w.cell x)

  pub woken-twos : (p k : ℕ) → p < 512 → Fits M' p k → Fits M p k
  woken-twos p k b h = ⊎_elim (⊎_elim (λ a. omega arith) (λ a. omega (arith, a.was))) (λ a. absurd (omega (arith, a.0))) (w.cell (1536 * k + p))

-- what a step keeps of the rules
module _ {c : List ℕ} {size j : ℕ} {M Q M' Q' : List ℕ} (r : Wants c size M Q j) (s : Stir size 2 M Q M' Q' j) (small : size ≤ 512)
    (two : (p k : ℕ) → p < 512 → Fits M' p k → Fits M p k) where
  wants-next : ((p : ℕ) → p < size → next_kind c p ≡ 0 → Wanted M' (home_of c p) j → Fits M p j → Wanted M (home_of c p) j ⊎ Continued M' p j)
      → ((p : ℕ) → p < size → next_kind c p ≡ 2 → 2 ≤ begin_at M' (rule_at c p) j → Seen Q' p → Fits M p j → (2 ≤ begin_at M (rule_at c p) j × Seen Q p) ⊎ Continued M' p j)
      → Wants c size M' Q' j
  wants-next f g = record {
    end = λ p h k w t. (let u = two p j (omega arith) t in
        ⊎_elim (λ a. omega (arith, r.end p h k a u, s.grows (1536 * j + p))) (λ a. a) (f p h k w u));
    back = λ p h k b v t. (let u = two p j (omega arith) t in
        ⊎_elim (λ a. omega (arith, r.back p h k a.0 a.1 u, s.grows (1536 * j + p))) (λ a. a) (g p h k b v u));
    plain-open = λ p h n. s.seen p (r.plain-open p h n);
    homes = λ p h. s.homes (1025 + p) (omega arith) ∙ r.homes p h;
  }

module _ {c : List ℕ} {size j x : ℕ} {M Q : List ℕ} (a : At c size M Q j x) where
  pub back_none : Stepped c size M Q M Q j
  back_none = record { stir = stir-none a.kept; wants = a.wants; ones = λ y h. h; twos = λ p k h f. f }

-- at the first dot of an alternative
module _ {c : List ℕ} {size j x : ℕ} {U M Q : List ℕ} (t : AtList c 3 size U M Q j x) (e : ℕ) (owner : owner_at c x ≡ e + 1) where
  a : At c size M Q j x
  a = t.at

  pub first-inside : e < size
  first-inside = omega (arith, a.shape.owner x a.inside)

  pub first-waking : Waking size 2 1 512 U M Q j e
  first-waking = record {
    spreads = record { kept = a.kept; linked = t.list.linked; inside = first-inside };
    from = omega arith;
    to = omega arith;
    levels = omega arith;
  }

  module _ {M' Q' : List ℕ} (w : Woken size 2 1 512 U M Q M' Q' j e) where
    low : e < 512
    low = omega (arith, first-inside, a.shape.small)

    waking : Stir size 2 M Q M' Q' j
    waking = stir-woken w low (omega arith) (omega arith)

    use-key : (p : ℕ) → next_kind c p ≡ 2 → rule_at c p ≡ e → key_of c 3 p ≡ e + 1
    use-key p k z = key-use c p 3 (λ y. omega arith) (λ y. omega arith) (λ y. omega arith) ∙ use-some c p k ∙ ap (λ (v : ℕ). v + 1) z

    begun : (p : ℕ) → p < size → next_kind c p ≡ 2 → 2 ≤ begin_at M' (rule_at c p) j → Seen Q' p → Fits M p j → (2 ≤ begin_at M (rule_at c p) j × Seen Q p) ⊎ Continued M' p j
    begun p h k b v u =
        let s : Seen Q p = omega (arith, w.rest (513 + p) (omega arith)) in
        elim (ℕ_discrete (rule_at c p) e) as (λ _. (2 ≤ begin_at M (rule_at c p) j × Seen Q p) ⊎ Continued M' p j) [
          | yes z ↦ elim (ℕ_discrete (begin_at M e j) 1) as (λ _. (2 ≤ begin_at M (rule_at c p) j × Seen Q p) ⊎ Continued M' p j) [
            | yes y ↦ inr (omega (arith, w.woken y p (t.list.all p e h (use-key p k z)) s (omega arith)))
            | no y ↦ inl (
              ⊎_elim (⊎_elim (λ d. omega arith) (λ d. absurd (omega (arith, d.to)))) (λ d. absurd (y (sym (ap (λ (q : ℕ). begin_at M q j) z) ∙ d.1)))
                  (w.cell (1536 * j + (512 + rule_at c p))),
              s,
            )
          ]
          | no z ↦ inl (omega (arith, woken-same w (1536 * j + (512 + rule_at c p)) (inl (omega arith)) (λ y. z (omega arith))), s)
        ]

    pub first-stepped : Stepped c size M Q M' Q' j
    first-stepped = record {
      stir = waking;
      wants = wants-next a.wants waking a.shape.small (woken-twos w low (omega arith) (omega arith))
          (λ p h k v u. inl (omega (arith, woken-same w (1536 * j + (1024 + home_of c p)) (inl (omega arith)) (λ y. omega (arith, low)))))
          begun;
      ones = woken-ones w low (omega arith) (omega arith);
      twos = woken-twos w low (omega arith) (omega arith);
    }

    pub first_done : FirstDone c M' j x
    first_done d o b = subst (λ (v : ℕ). 2 ≤ begin_at M' v j) (let y : e ≡ d = omega arith in y)
        (omega (arith, w.there (woken-ones w low (omega arith) (omega arith) (1536 * j + (512 + e)) (subst (λ (v : ℕ). Begins M' v j) (let y : d ≡ e = omega arith in y) b))))

-- after a symbol
module _ {c : List ℕ} {size j x : ℕ} {E M Q : List ℕ} (t : AtList c 2 size E M Q j x) (p : ℕ) (is : x ≡ p + 1) (kind : next_kind c p ≡ 2) where
  at : At c size M Q j x
  at = t.at

  pub symbol-inside : p < size
  symbol-inside = omega (arith, at.inside)

  pub symbol-rule : rule_at c p < size
  symbol-rule = at.shape.rule p symbol-inside kind

  small : p < 512
  small = omega (arith, symbol-inside, at.shape.small)

  opened : Stir size 2 M Q M (set Q (513 + p) 1) j
  opened = stir-open p at.kept small

  pub symbol-waking : Waking size 2 1 1024 E M (set Q (513 + p) 1) j (rule_at c p)
  symbol-waking = record {
    spreads = record { kept = opened.kept; linked = t.list.linked; inside = symbol-rule };
    from = omega arith;
    to = omega arith;
    levels = omega arith;
  }

  module _ {M₂ Q₂ : List ℕ} (w : Woken size 2 1 1024 E M (set Q (513 + p) 1) M₂ Q₂ j (rule_at c p)) where
    lower : rule_at c p < 512
    lower = omega (arith, symbol-rule, at.shape.small)

    wakes : Stir size 2 M (set Q (513 + p) 1) M₂ Q₂ j
    wakes = stir-woken w lower (omega arith) (omega arith)

    both : Stir size 2 M Q M₂ Q₂ j
    both = stir-join opened wakes

    pub symbol-kept : Kept size 2 M₂ Q₂ j
    symbol-kept = wakes.kept

    end-key-is : (q : ℕ) → next_kind c q ≡ 0 → home_of c q ≡ rule_at c p → key_of c 2 q ≡ rule_at c p + 1
    end-key-is q k z = key-end c q ∙ end-some c q k ∙ ap (λ (v : ℕ). v + 1) z

    wanted : (q : ℕ) → q < size → next_kind c q ≡ 0 → Wanted M₂ (home_of c q) j → Fits M q j → Wanted M (home_of c q) j ⊎ Continued M₂ q j
    wanted q h k v u = elim (ℕ_discrete (home_of c q) (rule_at c p)) as (λ _. Wanted M (home_of c q) j ⊎ Continued M₂ q j) [
      | yes z ↦ elim (ℕ_discrete (end_at M (rule_at c p) j) 1) as (λ _. Wanted M (home_of c q) j ⊎ Continued M₂ q j) [
        | yes y ↦ inr (omega (arith, w.woken y q (t.list.all q (rule_at c p) h (end-key-is q k z)) (opened.seen q (at.wants.plain-open q h (λ d. omega arith))) (omega arith)))
        | no y ↦ inl
            (⊎_elim (⊎_elim (λ d. omega arith) (λ d. absurd (omega (arith, d.to)))) (λ d. absurd (y (sym (ap (λ (v : ℕ). end_at M v j) z) ∙ d.1)))
            (w.cell (1536 * j + (1024 + home_of c q))))
      ]
      | no z ↦ inl (omega (arith, woken-same w (1536 * j + (1024 + home_of c q)) (inl (omega arith)) (λ y. z (omega arith))))
    ]

    begin-same : (q : ℕ) → q < 512 → begin_at M₂ q j ≡ begin_at M q j
    begin-same q h = woken-same w (1536 * j + (512 + q)) (inl (omega arith)) (λ y. omega arith)

    others : (q : ℕ) → q < size → (q ≡ p → ⊥) → next_kind c q ≡ 2 → 2 ≤ begin_at M₂ (rule_at c q) j → Seen Q₂ q → 2 ≤ begin_at M (rule_at c q) j × Seen Q q
    others q h n k b v = (
      omega (arith, begin-same (rule_at c q) (omega (arith, at.shape.rule q h k, at.shape.small))),
      omega (arith, w.rest (513 + q) (omega arith), open-other p at.kept small (513 + q) (λ y. n (omega arith))),
    )

    two : (q k : ℕ) → q < 512 → Fits M₂ q k → Fits M q k
    two = woken-twos w lower (omega arith) (omega arith)

    one : (y : ℕ) → 1 ≤ get_or M₂ y 0 → 1 ≤ get_or M y 0
    one = woken-ones w lower (omega arith) (omega arith)

    pub after_none : begin_at M₂ (rule_at c p) j < 2 → Stepped c size M Q M₂ Q₂ j
    after_none z = record {
      stir = both;
      wants = wants-next at.wants both at.shape.small two wanted
          (λ q h k b v u. inl (others q h (λ y. omega (arith, ap (λ (d : ℕ). begin_at M₂ (rule_at c d) j) y)) k b v));
      ones = one;
      twos = two;
    }

    pub after-done : SymbolDone c M₂ Q₂ j x
    after-done q z k = subst (λ (d : ℕ). Seen Q₂ d × (Ends M₂ (rule_at c d) j → Wanted M₂ (rule_at c d) j)) (let y : p ≡ q = omega arith in y) (
      omega (arith, open-here p at.kept small, w.rest (513 + p) (omega arith)),
      λ f. omega (arith, w.there (one (1536 * j + (1024 + rule_at c p)) f)),
    )

    module _ {M₃ Q₃ : List ℕ} (l : Lift size 2 M₂ Q₂ M₃ Q₃ j p) where
      lifting : Stir size 2 M₂ Q₂ M₃ Q₃ j
      lifting = stir-grown l.grown

      three : (q k : ℕ) → q < 512 → Fits M₃ q k → Fits M q k
      three q k h f = two q k h (lift-twos l.grown (1536 * k + q) f)

      pub after-over : Stepped c size M Q M₃ Q₃ j
      after-over = record {
        stir = stir-join both lifting;
        wants = wants-next at.wants (stir-join both lifting) at.shape.small three
            (λ q h k v u. ⊎_elim inl (λ y. inr (omega (arith, lifting.grows (1536 * j + q))))
            (wanted q h k (omega (arith, lift-same l.grown (1536 * j + (1024 + home_of c q)) (omega arith))) u))
            (λ q h k b v u. elim (ℕ_discrete q p) as (λ _. (2 ≤ begin_at M (rule_at c q) j × Seen Q q) ⊎ Continued M₃ q j) [
              | yes y ↦ inr (subst (λ (d : ℕ). Continued M₃ d j) (sym y)
                  (l.there (after-done p is kind).0 (omega (arith, ap (λ (d : ℕ). dot_at M d j) y, wakes.grows (1536 * j + p)))))
              | no y ↦ inl (others q h y k (omega (arith, lift-same l.grown (1536 * j + (512 + rule_at c q)) (omega arith))) (omega (arith, l.grown.rest (513 + q) (omega arith))))
            ]);
        ones = λ y h. one y (lift-ones l.grown y h);
        twos = three;
      }

      pub after-over-done : SymbolDone c M₃ Q₃ j x
      after-over-done q z k = (let d = after-done q z k in
          (lifting.seen q d.0, λ f. omega (arith, d.1 (lift-ones l.grown (1536 * j + (1024 + rule_at c q)) f), lifting.grows (1536 * j + (1024 + rule_at c q)))))

-- after a terminal that takes no character
module _ {c : List ℕ} {size j x : ℕ} {M Q : List ℕ} (t : At c size M Q j x) (p : ℕ) (is : x ≡ p + 1) (kind : next_kind c p ≡ 1) where
  pub empty-inside : p < size
  empty-inside = omega (arith, t.inside)

  module _ {M' Q' : List ℕ} (l : Lift size 2 M Q M' Q' j p) where
    pub empty-stepped : Stepped c size M Q M' Q' j
    empty-stepped = record {
      stir = stir-grown l.grown;
      wants = wants-next t.wants (stir-grown l.grown) t.shape.small (λ q k h f. lift-twos l.grown (1536 * k + q) f)
          (λ q h k v u. inl (omega (arith, lift-same l.grown (1536 * j + (1024 + home_of c q)) (omega arith))))
          (λ q h k b v u. inl (omega (arith, lift-same l.grown (1536 * j + (512 + rule_at c q)) (omega arith)), omega (arith, l.grown.rest (513 + q) (omega arith))));
      ones = lift-ones l.grown;
      twos = λ q k h f. lift-twos l.grown (1536 * k + q) f;
    }

    pub empty-done : EmptyDone c M' j x
    empty-done q z k g f = subst (λ (d : ℕ). Continued M' d j) (let y : p ≡ q = omega arith in y)
        (l.there (t.wants.plain-open p empty-inside (λ y. omega arith))
        (lift-twos l.grown (1536 * j + p) (subst (λ (d : ℕ). Fits M' d j) (let y : q ≡ p = omega arith in y) f)))
