-- The rows of a stretch, one after the other, are taken account of; then the rules that fell, until none is pending.
use mathlib.Core.Bool.{true, false}
use mathlib.Core.List.{List}
use mathlib.Core.Logic.{◌⊎◌, inl, inr, ⊎_elim}
use mathlib.Core.Path.{◌≡◌, refl, sym, ap, subst, ◌∙◌}
use Prim.Native.Nat.{ℕ, ◌+◌, ◌*◌, ◌<◌, ◌≤◌, max}
use native.Mathlib.Decide.{ℕ_discrete, dec_lt}
use native.Mathlib.Omega.{arith}
use lib.Dec.{eqb, leb}
use lib.ListN.{get_or}
use borrow.Author.Tests.{ne_eqb}
use Rattle.text.proofs.Tests.{look, clash}
use Rattle.chart.specs.Code.{next_kind, goes_at, rule_at}
use Rattle.chart.specs.Heights.{none}
use Rattle.heights.specs.Table.{cell_of, up_of}
use Rattle.heights.specs.Filling.{total, Only}
use Rattle.heights.proofs.Values.{up_none, up-most}
use Rattle.heights.specs.Part.{Offers, by_end, by-terminal, by-split}
use Rattle.reach.specs.Flags.{dot_at, end_at, Reached, Fits, Wanted, home_of}
use Rattle.reach.proofs.Closed.{home-next}
use Rattle.sparse.specs.Cells.{is_last, empty_in, empty_rest, rule_of, wide_rest, rest_of, Shape}
use Rattle.sparse.specs.Steps.{toward_of, Fell, On, over_of, Given}
use Rattle.sparse.specs.Column.{Vanishes, WakesBy, Wakes, Rows}
use Rattle.sparse.proofs.Rows.{last-is, empty-end, rule-cell, rule-none, rule-empty, rest_end, rest-empty, rest-away, rest-row}
use Rattle.sparse.proofs.Rows.{Over, by-terminal as over-t, by-symbol as over-s, over-some, over-terminal, over-symbol}
use Rattle.sparse.proofs.Falls.{fell-refl, fell-join}
use Rattle.sparse.proofs.Toward.{fell-toward, fell-rule, fell-rest}
use Rattle.queue.specs.Queue.{Pending, count_of, Queued, Taken}
use Rattle.queue.specs.Queue.{Put as Enqueued}
use Rattle.settle.specs.Settle.{LeftHeld, RightHeld, Pends, Moved, LeftCarried, RightDone, LastDone, Revisited, Woken, AllWoken, Settled}
use Rattle.settle.proofs.Carrying.{pick-most, end-left}
use Rattle.settle.proofs.Using.{left-of-none, last-of-none, right-of-none, moved-refl, moved-join, left-next, right-next, right-stays, left-stays}

-- a height is at most none where the cell is
pub rest-most : (c M F : List ℕ) (n : ℕ) (t : List ℕ) (p i j : ℕ) → i < j → cell_of n t p i j ≤ none → rest_of c M F n t p i j ≤ none
unfolding rest_of wide_rest
rest-most c M F n t p i j l h = rw (ne_eqb i j (λ e. omega arith)) (pick-most (eqb (next_kind c p) 0) _ _ none (omega arith)
    (pick-most (leb 1 (dot_at M p i)) _ _ none (pick-most (is_last c p) _ _ none (up-most (rule_of c M F n t (rule_at c p) i j))
    (pick-most (leb 2 (end_at M (home_of c p) j)) _ _ none h (omega arith))) (omega arith)))

module _ (c M F : List ℕ) (size n i j : ℕ) where
  -- the first k rows of the column are taken account of
  pub record Awake (t₀ Q₀ t Q C : List ℕ) (k : ℕ) : Type 0 where
    pub moved : Moved c M F size n i j t₀ Q₀ t Q
    pub below : k ≤ get_or C 2049 0
    pub right : (l : ℕ) → l < k → (p : ℕ) → p < size → next_kind c p ≡ 2 → rule_at c p ≡ get_or C (513 + l) 0 → RightDone c M F size n i j t Q p
    pub last : (l : ℕ) → l < k → (q : ℕ) → q + 1 < size → next_kind c (q + 1) ≡ 2 → rule_at c (q + 1) ≡ get_or C (513 + l) 0 → LastDone c M F size n i j t Q q
    pub left : (l : ℕ) → l < k → (q : ℕ) → get_or C (513 + l) 0 ≡ q + 1 → is_last c (q + 1) ≡ false → On c M size q i j → Pends c M F size n i j Q (q + 1) ⊎ LeftHeld c M F size n i j t q

  -- nothing is to be done but for pending rules
  pub record Settling (t₀ t Q : List ℕ) : Type 0 where
    pub fell : Fell c M F size n (j + 1) (Only i j) t₀ t
    pub queued : Queued size Q
    pub right : (q : ℕ) → RightDone c M F size n i j t Q q
    pub left : (q : ℕ) → On c M size q i j → Pends c M F size n i j Q (q + 1) ⊎ LeftHeld c M F size n i j t q

module _ (c M F : List ℕ) (size n i j : ℕ) (shape : Shape c size) (wide : i < j) (stop : j ≤ n) where
  -- a rule's name is an end of a last alternative
  named : (p x : ℕ) → p < size → next_kind c p ≡ 2 → rule_at c p ≡ x → (next_kind c x ≡ 0) × (goes_at c x ≡ 0) × (home_of c x ≡ x)
  named p x h k e = let w = shape.names p h k in let y = shape.owners (goes_at c p) x w.1 (w.2 ∙ ap (λ (z : ℕ). z + 1) e) in (y.1, y.2, y.3)

  -- the row x is listed
  module _ (t : List ℕ) (x : ℕ) (w : Wakes c M size j x) where
    -- a dot's height is its cell
    pub wake-rest : (next_kind c x ≡ 0 → ⊥) → Reached M x i → rest_of c M F n t x i j ≡ cell_of n t x i j
    wake-rest z u = rest-row c M F n t x i j (λ e. omega arith) z u (w.dot z).1 w.live

    rest-idle : (next_kind c x ≡ 0 → ⊥) → cell_of n t x i j ≡ none → rest_of c M F n t x i j ≡ none
    rest-idle z e = elim (dec_lt 0 (dot_at M x i)) as (λ _. rest_of c M F n t x i j ≡ none) [
      | yes u ↦ wake-rest z (omega arith) ∙ e
      | no u ↦ rest-away c M F n t x i j (λ e. omega arith) z (λ d. omega arith)
    ]

    rule-idle : cell_of n t x i j ≡ none → rule_of c M F n t x i j ≡ none
    rule-idle e = elim (dec_lt 1 (end_at M x j)) as (λ _. rule_of c M F n t x i j ≡ none) [
      | yes h ↦ rule-cell c M F n t x i j (λ d. omega arith) (omega arith) ∙ e
      | no h ↦ rule-none c M F n t x i j (λ d. omega arith) (λ d. omega arith)
    ]

  -- one row
  module _ {t Q : List ℕ} (x : ℕ) (y : Queued size Q) where
    -- a rule without a height
    wake-none : next_kind c x ≡ 0 → rule_of c M F n t x i j ≡ none → Woken c M F size n i j t Q t Q x
    wake-none z e₀ = record {
      moved = moved-refl c M F size n i j shape wide stop y;
      right = λ p h k e on. inr (right-of-none c M F size n i j shape wide stop t p (ap (λ (w : ℕ). rule_of c M F n t w i j) e ∙ e₀));
      last = λ q h k e on b. inr (last-of-none c M F size n i j shape wide stop t q b (ap (λ (w : ℕ). rule_of c M F n t w i j) e ∙ e₀));
      left = λ q e b on. left-of-none c M F size n i j shape wide stop t q (ap (λ (w : ℕ). rest_of c M F n t w i j) (sym e) ∙ rest_end c M F n t x i j (λ w. omega arith) z);
    }

    -- a rule is put into the queue
    pub wake-rule : {R : List ℕ} → next_kind c x ≡ 0 → Enqueued size Q R x → Woken c M F size n i j t Q t R x
    wake-rule {R} z p = record {
      moved = record {
        fell = fell-refl c M F size n (j + 1);
        queued = p.queued;
        pending = λ e h a. elim (ℕ_discrete e x) as (λ _. Pending R e) [ yes d ↦ subst (Pending R) (sym d) p.pending | no d ↦ (λ w. a (sym (p.others e h d) ∙ w)) ];
        left = λ q on h. inr h;
        right = λ q on h. inr h;
      };
      right = λ q h k e on. inl (subst (Pending R) (sym e) p.pending);
      last = λ q h k e on b. inl (b, subst (Pending R) (sym e) p.pending);
      left = λ q e b on. left-of-none c M F size n i j shape wide stop t q (ap (λ (w : ℕ). rest_of c M F n t w i j) (sym e) ∙ rest_end c M F n t x i j (λ w. omega arith) z);
    }

    -- a dot that is no end names no rule
    module _ (kind : next_kind c x ≡ 0 → ⊥) where
      dot : {t' Q' : List ℕ} → Moved c M F size n i j t Q t' Q' → ((q : ℕ) → x ≡ q + 1 → is_last c x ≡ false → On c M size q i j → LeftHeld c M F size n i j t' q)
          → Woken c M F size n i j t Q t' Q' x
      dot m l = record {
        moved = m;
        right = λ p h k e. absurd (kind (named p x h k e).0);
        last = λ q h k e. absurd (kind (named (q + 1) x h k e).0);
        left = l;
      }

      wake-empty : rest_of c M F n t x i j ≡ none → Woken c M F size n i j t Q t Q x
      wake-empty z = dot (moved-refl c M F size n i j shape wide stop y)
          (λ q e b on. left-of-none c M F size n i j shape wide stop t q (ap (λ (w : ℕ). rest_of c M F n t w i j) (sym e) ∙ z))

      pub wake-carried : {t' Q' : List ℕ} → is_last c x ≡ false → LeftCarried c M F size n i j t Q t' Q' x → Woken c M F size n i j t Q t' Q' x
      wake-carried b d = dot d.moved (λ q e _ on. ⊎_elim (λ w. absurd (clash b w.0)) (λ w. w) (d.left q e on))

    -- the row x is listed, and nothing is to be done
    module _ (w : Wakes c M size j x) where
      pub wake-away : (next_kind c x ≡ 0 → ⊥) → (Reached M x i → ⊥) → Woken c M F size n i j t Q t Q x
      wake-away z u = wake-empty z (rest-away c M F n t x i j (λ e. omega arith) z u)

      pub wake-idle : cell_of n t x i j ≡ none → Woken c M F size n i j t Q t Q x
      wake-idle e = elim (ℕ_discrete (next_kind c x) 0) as (λ _. Woken c M F size n i j t Q t Q x) [
        | yes z ↦ wake-none z (rule-idle t x w e)
        | no z ↦ wake-empty z (rest-idle t x w z e)
      ]

  -- all rows
  pub awake-start : {t Q C : List ℕ} → Queued size Q → Awake c M F size n i j t Q t Q C 0
  awake-start y = record {
    moved = moved-refl c M F size n i j shape wide stop y;
    below = omega arith;
    right = λ l h. absurd (omega arith);
    last = λ l h. absurd (omega arith);
    left = λ l h. absurd (omega arith);
  }

  pub awake-next : {t₀ Q₀ t Q t' Q' C : List ℕ} (k x : ℕ) → k < get_or C 2049 0 → x ≡ get_or C (513 + k) 0 → Awake c M F size n i j t₀ Q₀ t Q C k → Woken c M F size n i j t Q t' Q' x
      → Awake c M F size n i j t₀ Q₀ t' Q' C (k + 1)
  awake-next {t' = t'} {Q' = Q'} {C = C} k x below is a b = record {
    moved = moved-join c M F size n i j shape wide stop a.moved b.moved;
    below = omega arith;
    right = λ l h p s z e. elim (ℕ_discrete l k) as (λ _. RightDone c M F size n i j t' Q' p) [
      | yes d ↦ b.right p s z (e ∙ ap (λ (w : ℕ). get_or C (513 + w) 0) d ∙ sym is)
      | no d ↦ right-stays c M F size n i j shape wide stop b.moved p s z (a.right l (omega arith) p s z e)
    ];
    last = λ l h q s z e. elim (ℕ_discrete l k) as (λ _. LastDone c M F size n i j t' Q' q) [
      | yes d ↦ b.last q s z (e ∙ ap (λ (w : ℕ). get_or C (513 + w) 0) d ∙ sym is)
      | no d ↦ (λ on f. left-stays c M F size n i j shape wide stop b.moved q on s (a.last l (omega arith) q s z e on f))
    ];
    left = λ l h q e f on. elim (ℕ_discrete l k) as (λ _. Pends c M F size n i j Q' (q + 1) ⊎ LeftHeld c M F size n i j t' q) [
      | yes d ↦ (let w : x ≡ q + 1 = is ∙ sym (ap (λ (w : ℕ). get_or C (513 + w) 0) d) ∙ e in inr (b.left q w (ap (is_last c) w ∙ f) on))
      | no d ↦ left-next c M F size n i j shape wide stop b.moved q on (a.left l (omega arith) q e f on)
    ];
  }

  -- a dot before one that vanishes is offered a height
  vanishing : (q v w : ℕ) → w < none → Over c M F q i v w → Vanishes c F q
  vanishing q v w l (over-t k g f is) = inl (k, g)
  vanishing q v w l (over-s k is) = inr (
    k,
    (elim (dec_lt (empty_in F (rule_at c q)) none) as (λ _. empty_in F (rule_at c q) < none) [
      | yes h ↦ h
      | no h ↦ absurd (omega (arith, up_none (empty_in F (rule_at c q)) (omega arith)))
    ]),
  )

  module _ {t₀ Q₀ t Q C : List ℕ} (r : Rows c M size j F C) (a : Awake c M F size n i j t₀ Q₀ t Q C (get_or C 2049 0)) where
    -- a rule that is not wanted has no height
    unwanted : (e : ℕ) → (Wanted M e j → ⊥) → rule_of c M F n t e i j ≡ none
    unwanted e w = rule-none c M F n t e i j (λ z. omega arith) w

    -- the rule of a use that may stand last is listed
    listed-rule : (q : ℕ) → q < size → next_kind c q ≡ 2 → empty_rest c F (q + 1) < none → Wanted M (rule_at c q) j → WakesBy C (rule_at c q)
    listed-rule q h z e w = r.wakes.rule q h z e (subst (λ (x : ℕ). Wanted M x j) (sym (named q (rule_at c q) h z refl).2) w)

    all_right : (q : ℕ) → RightDone c M F size n i j t Q q
    all_right q on = elim (ℕ_discrete (next_kind c q) 2) as (λ _. Pending Q (rule_at c q) ⊎ RightHeld c M F size n i j t q) [
      | no z ↦ inr (λ k l. absurd (z k))
      | yes z ↦ (elim (dec_lt (empty_rest c F (q + 1)) none) as (λ _. Pending Q (rule_at c q) ⊎ RightHeld c M F size n i j t q) [
        | no e ↦ inr (λ k l. absurd (omega arith))
        | yes e ↦ (elim (dec_lt 1 (end_at M (rule_at c q) j)) as (λ _. Pending Q (rule_at c q) ⊎ RightHeld c M F size n i j t q) [
          | no h ↦ inr (right-of-none c M F size n i j shape wide stop t q (unwanted (rule_at c q) (λ x. omega arith)))
          | yes h ↦ (let f = listed-rule q on.inside z e (omega arith) in a.right f.0 f.1 q on.inside z (sym f.2) on)
        ])
      ])
    ]

    last-left : (q : ℕ) → On c M size q i j → q + 1 < size → is_last c (q + 1) ≡ true → Pends c M F size n i j Q (q + 1) ⊎ LeftHeld c M F size n i j t q
    last-left q on h b =
        let k = last-is c (q + 1) b in
        elim (dec_lt 1 (end_at M (rule_at c (q + 1)) j)) as (λ _. Pends c M F size n i j Q (q + 1) ⊎ LeftHeld c M F size n i j t q) [
          | no z ↦ inr (last-of-none c M F size n i j shape wide stop t q b (unwanted (rule_at c (q + 1)) (λ x. omega arith)))
          | yes z ↦ (let f = listed-rule (q + 1) h k.symbol (omega (arith, empty-end c (q + 1 + 1) F k.stop)) (omega arith) in
              a.last f.0 f.1 q h k.symbol (sym f.2) on b)
        ]

    -- nothing of what follows needs to be looked at unless it vanishes
    dot-left : (q : ℕ) → On c M size q i j → (next_kind c q ≡ 0 → ⊥) → q + 1 < size → is_last c (q + 1) ≡ false → Pends c M F size n i j Q (q + 1) ⊎ LeftHeld c M F size n i j t q
    dot-left q on z h b = elim (dec_lt (over_of c M F q i (rest_of c M F n t (q + 1) i j)) none) as (λ _. Pends c M F size n i j Q (q + 1) ⊎ LeftHeld c M F size n i j t q) [
      | no l ↦ inr (λ k. absurd (omega arith))
      | yes l ↦ (elim (ℕ_discrete (next_kind c (q + 1)) 0) as (λ _. Pends c M F size n i j Q (q + 1) ⊎ LeftHeld c M F size n i j t q) [
        | yes e ↦ inr (left-of-none c M F size n i j shape wide stop t q (rest_end c M F n t (q + 1) i j (λ x. omega arith) e))
        | no e ↦ (let inner = shape.inner q h z in
            let live = subst (λ (x : ℕ). Wanted M x j) (sym (home-next c q inner)) on.live in
            let v = vanishing q (rest_of c M F n t (q + 1) i j) _ l (over-some c M F q i (rest_of c M F n t (q + 1) i j) l).1 in
            let f = r.wakes.dot q h e inner b v live in a.left f.0 f.1 q f.2 b on)
      ])
    ]

    all_left : (q : ℕ) → On c M size q i j → Pends c M F size n i j Q (q + 1) ⊎ LeftHeld c M F size n i j t q
    all_left q on = elim (ℕ_discrete (next_kind c q) 0) as (λ _. Pends c M F size n i j Q (q + 1) ⊎ LeftHeld c M F size n i j t q) [
      | yes z ↦ inr (end-left c M F size n i j shape wide stop t q z)
      | no z ↦ (let h = shape.nexts q on.inside z in ⊎_elim (last-left q on h) (dot-left q on z h) (look (is_last c (q + 1))))
    ]

    pub all-woken : AllWoken c M F size n i j t₀ Q₀ t Q
    all-woken = record { moved = a.moved; right = all_right; left = all_left }

  -- until none is pending
  pub settling-start : {t₀ Q₀ t Q : List ℕ} → AllWoken c M F size n i j t₀ Q₀ t Q → Settling c M F size n i j t t Q
  settling-start a = record { fell = fell-refl c M F size n (j + 1); queued = a.moved.queued; right = a.right; left = a.left }

  pub settling-from : {t₀ t₁ t Q : List ℕ} → Fell c M F size n (j + 1) (Only i j) t₀ t₁ → Settling c M F size n i j t₁ t Q → Settling c M F size n i j t₀ t Q
  settling-from f a = record { fell = fell-join c M F size n (j + 1) f a.fell; queued = a.queued; right = a.right; left = a.left }

  module _ {t₀ t Q Q₁ t' Q' : List ℕ} {e : ℕ} (a : Settling c M F size n i j t₀ t Q) (k : Taken size Q Q₁ e) (b : Revisited c M F size n i j t Q₁ t' Q' e) where
    others : (x : ℕ) → x < 512 → (x ≡ e → ⊥) → Pending Q x → Pending Q₁ x
    others x h d p z = p (sym (k.others x h d) ∙ z)

    again-right : (q : ℕ) → RightDone c M F size n i j t' Q' q
    again-right q on = elim (ℕ_discrete (next_kind c q) 2) as (λ _. Pending Q' (rule_at c q) ⊎ RightHeld c M F size n i j t' q) [
      | no z ↦ inr (λ w l. absurd (z w))
      | yes z ↦ (elim (ℕ_discrete (rule_at c q) e) as (λ _. Pending Q' (rule_at c q) ⊎ RightHeld c M F size n i j t' q) [
        | yes d ↦ b.right q on.inside z d on
        | no d ↦ (let h = (shape.names q on.inside z).0 in right-next c M F size n i j shape wide stop b.moved q on
            (⊎_elim (λ x. inl (others (rule_at c q) (omega (arith, shape.small)) d x)) (λ x. inr x) (a.right q on)))
      ])
    ]

    again-left : (q : ℕ) → On c M size q i j → Pends c M F size n i j Q' (q + 1) ⊎ LeftHeld c M F size n i j t' q
    again-left q on = elim (ℕ_discrete (next_kind c q) 0) as (λ _. Pends c M F size n i j Q' (q + 1) ⊎ LeftHeld c M F size n i j t' q) [
      | yes z ↦ inr (end-left c M F size n i j shape wide stop t' q z)
      | no z ↦ ⊎_elim (λ x. pends q on (shape.nexts q on.inside z) x) (λ x. b.moved.left q on x) (a.left q on)
    ]
      where
        pends : (q : ℕ) → On c M size q i j → q + 1 < size → Pends c M F size n i j Q (q + 1) → Pends c M F size n i j Q' (q + 1) ⊎ LeftHeld c M F size n i j t' q
        pends q on h x =
            let s = (last-is c (q + 1) x.0).symbol in
            elim (ℕ_discrete (rule_at c (q + 1)) e) as (λ _. Pends c M F size n i j Q' (q + 1) ⊎ LeftHeld c M F size n i j t' q) [
              | yes d ↦ b.last q h s d on x.0
              | no d ↦ (let w = (shape.names (q + 1) h s).0 in
                  left-stays c M F size n i j shape wide stop b.moved q on h (inl (x.0, others (rule_at c (q + 1)) (omega (arith, shape.small)) d x.1)))
            ]

    pub settling-again : Settling c M F size n i j t₀ t' Q'
    settling-again = record { fell = fell-join c M F size n (j + 1) a.fell b.moved.fell; queued = b.moved.queued; right = again-right; left = again-left }

    pub settling-less : 2 * total t' + count_of Q' < 2 * total t + count_of Q
    settling-less = omega (arith, b.falls, k.count)

  module _ {t₀ t Q : List ℕ} (a : Settling c M F size n i j t₀ t Q) (empty : count_of Q ≡ 0) where
    clean : (e : ℕ) → e < 512 → Pending Q e → ⊥
    clean e h p = omega (arith, (a.queued.waits e h p).before)

    held-right : (q : ℕ) → On c M size q i j → RightHeld c M F size n i j t q
    held-right q on k l = ⊎_elim (λ x. absurd (clean (rule_at c q) (omega (arith, (shape.names q on.inside k).0, shape.small)) x)) (λ x. x k l) (a.right q on)

    held-left : (q : ℕ) → On c M size q i j → LeftHeld c M F size n i j t q
    held-left q on = elim (ℕ_discrete (next_kind c q) 0) as (λ _. LeftHeld c M F size n i j t q) [
      | yes z ↦ end-left c M F size n i j shape wide stop t q z
      | no z ↦ (let h = shape.nexts q on.inside z in ⊎_elim
          (λ x. let s = (last-is c (q + 1) x.0).symbol in absurd (clean (rule_at c (q + 1)) (omega (arith, (shape.names (q + 1) h s).0, shape.small)) x.1)) (λ x. x) (a.left q on))
    ]

    module _ (g : Given c M F size n i j t₀) (p v : ℕ) (on : On c M size p i j) (some : v < none) where
      Lowest : Type 0
      Lowest = toward_of c M F n t p i j ≤ v

      by_left : v ≡ over_of c M F p i (rest_of c M F n t (p + 1) i j) → Lowest
      unfolding Lowest
      by_left e = omega (arith, held-left p on (omega arith))

      -- other stretches are as they were
      rule-at : (e m : ℕ) → i ≤ m → m ≤ n → (m ≡ j → ⊥) → rule_of c M F n t e i m ≡ rule_of c M F n t₀ e i m
      rule-at e m h l d = fell-rule a.fell e i m h l (λ o. d o.1)

      rest_at : (q m : ℕ) → m ≤ j → (m ≡ i → ⊥) → rest_of c M F n t q m j ≡ rest_of c M F n t₀ q m j
      rest_at q m h d = fell-rest a.fell q m j h stop (λ o. d o.0)

      lowest : Offers c size (home_of c) (Fits M) (Reached M) (Wanted M) (rule_of c M F n t) (rest_of c M F n t) p i j v → Lowest
      unfolding Lowest
      lowest (by_end k e z) = absurd (omega arith)
      lowest (by-terminal k f b e) = elim (ℕ_discrete (goes_at c p) 0) as (λ _. toward_of c M F n t p i j ≤ v) [
        | yes z ↦ (let w : i + goes_at c p ≡ i = omega arith in
            by_left (e ∙ ap (λ (x : ℕ). rest_of c M F n t (p + 1) x j) w ∙ sym (over-terminal c M F p i (rest_of c M F n t (p + 1) i j) on.used k z f)))
        | no z ↦ (let m = i + goes_at c p in let r = rest_at (p + 1) m b (λ x. z (omega arith)) in
            omega (arith, fell-toward a.fell p i j, (g p m on.inside (omega arith) b).terminal i on (omega arith) k f refl (omega arith)))
      ]
      lowest (by-split m k h l w e) = elim (ℕ_discrete m i) as (λ _. toward_of c M F n t p i j ≤ v) [
        | yes z ↦ by_left (e ∙ (λ ι. max (up_of (rule_of c M F n t (rule_at c p) i (z ι))) (rest_of c M F n t (p + 1) (z ι) j))
            ∙ ap (λ (x : ℕ). max (up_of x) (rest_of c M F n t (p + 1) i j)) (rule-empty c M F n t (rule_at c p) i i refl)
            ∙ sym (over-symbol c M F p i (rest_of c M F n t (p + 1) i j) on.used k))
        | no z ↦ (elim (ℕ_discrete m j) as (λ _. toward_of c M F n t p i j ≤ v) [
          | yes y ↦ (let x = e ∙ (λ ι. max (up_of (rule_of c M F n t (rule_at c p) i (y ι))) (rest_of c M F n t (p + 1) (y ι) j))
              ∙ ap (λ (x : ℕ). max (up_of (rule_of c M F n t (rule_at c p) i j)) x) (rest-empty c M F n t (p + 1) j j refl) in
              omega (arith, held-right p on k (omega arith)))
          | no y ↦ (let r1 = rule-at (rule_at c p) m h (omega arith) y in let r2 = rest_at (p + 1) m l z in
              let x = e ∙ (λ ι. max (up_of (r1 ι)) (r2 ι)) in
              omega (arith, fell-toward a.fell p i j, (g p m on.inside (omega arith) l).split i on (omega arith) (omega arith) k w (omega arith)))
        ])
      ]

    pub settled : Settled c M F size n i j t₀ t Q
    unfolding Lowest
    settled = record {
      fell = a.fell;
      queued = a.queued;
      empty = empty;
      least = λ g p v h u w o l. lowest g p v (record { inside = h; used = u; live = w }) l o;
    }
