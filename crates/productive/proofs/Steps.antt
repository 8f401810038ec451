-- One step of the search: a dot is marked, and the rule of which an alternative begins there is found.
use mathlib.Core.Bool.{Bool, true, false, ◌&&◌}
use mathlib.Core.List.{List}
use mathlib.Core.Logic.{◌⊎◌, inl, inr, ⊎_elim}
use mathlib.Core.Path.{◌≡◌, refl, sym, subst, ap, ◌∙◌}
use Prim.Native.Nat.{ℕ, ◌+◌, ◌-◌, ◌<◌, ◌≤◌}
use native.Mathlib.Decide.{ℕ_discrete}
use native.Mathlib.Omega.{arith}
use lib.ListN.{length, get_or, set, length-set}
use lib.Seq.{get_or-set_same, get_or-set_other}
use Rattle.text.proofs.Tests.{clash, split}
use Rattle.chart.specs.Code.{next_kind, owner_at}
use Rattle.productive.specs.Made.{Good, Sure, Made, made-end, made-terminal, made-symbol}
use Rattle.productive.specs.State.{Done, total, tail_of, Waits, Kept, Sound, Advance, Moved, Marked, Always, Begun}
use Rattle.productive.proofs.Counts.{total-set, set-le}

-- a mark is set
pub mark-other : (M : List Bool) (p x : ℕ) → (x ≡ p → ⊥) → get_or (set M p true) x false ≡ get_or M x false
mark-other M p x n = get_or-set_other M p x true false n

pub mark-grows : (M : List Bool) (p x : ℕ) → get_or M x false ≡ true → p < length M → get_or (set M p true) x false ≡ true
mark-grows M p x h l = elim (ℕ_discrete x p) as (λ _. get_or (set M p true) x false ≡ true) [
  | yes e ↦ subst (λ (z : ℕ). get_or (set M p true) z false ≡ true) (sym e) (get_or-set_same M p true false l)
  | no e ↦ mark-other M p x e ∙ h
]

-- growth composes
pub waits-on : {O Q O' Q' : List ℕ} {M M' : List Bool} {h e : ℕ} → Advance M O Q M' O' Q' → Waits Q h e → Waits Q' h e
waits-on a w = record { at = w.at; after = w.after; before = omega (arith, w.before, a.more); is = a.same w.at (omega (arith, w.after)) w.before ∙ w.is }

pub waits-from : {Q : List ℕ} {h l e : ℕ} → h ≤ l → Waits Q l e → Waits Q h e
waits-from h w = record { at = w.at; after = omega (arith, w.after); before = w.before; is = w.is }

pub advance-none : (M : List Bool) (O Q : List ℕ) → Advance M O Q M O Q
advance-none M O Q = record { marks = λ x h. h; more = omega arith; same = λ i h l. refl; fresh = λ e d. inl d }

pub advance-join : {M M₁ M₂ : List Bool} {O Q O₁ Q₁ O₂ Q₂ : List ℕ} → Advance M O Q M₁ O₁ Q₁ → Advance M₁ O₁ Q₁ M₂ O₂ Q₂ → Advance M O Q M₂ O₂ Q₂
advance-join a b = record {
  marks = λ x h. b.marks x (a.marks x h);
  more = omega (arith, a.more, b.more);
  same = λ i h l. b.same i h (omega (arith, a.more)) ∙ a.same i h l;
  fresh = λ e d. ⊎_elim (λ k. ⊎_elim inl (λ w. inr (waits-on b w)) (a.fresh e k)) (λ w. inr (waits-from a.more w)) (b.fresh e d);
}

-- the rules that are found besides
record Found (size : ℕ) (O Q O' Q' : List ℕ) : Type 0 where
  missing-long : length O' ≡ 512
  queue_long : length Q' ≡ 513
  count : tail_of Q' + total O' ≡ 512
  flags : (e : ℕ) → get_or O' e 0 ≤ 1
  queued : (i : ℕ) → 0 < i → i ≤ tail_of Q' → (get_or Q' i 0 < size) × Done O' (get_or Q' i 0)
  grows : (e : ℕ) → Done O e → Done O' e
  more : tail_of Q ≤ tail_of Q'
  same : (i : ℕ) → 0 < i → i ≤ tail_of Q → get_or Q' i 0 ≡ get_or Q i 0
  fresh : (e : ℕ) → Done O' e → Done O e ⊎ Waits Q' (tail_of Q) e

both_true : (a b : Bool) → (a && b) ≡ true → (a ≡ true) × (b ≡ true)
both_true true b h = (refl, h)
both_true false b h = absurd (clash refl h)

both_false : (a b : Bool) → (a && b) ≡ false → a ≡ true → b ≡ true → ⊥
both_false true b h e f = clash h f
both_false false b h e f = clash refl e

module _ {c : List ℕ} {size : ℕ} where
  pub moved_none : {M : List Bool} {O Q : List ℕ} {b : ℕ} {A : List Bool → Type 0} → Kept c size M O Q b → Moved c size M O Q M O Q b A
  moved_none {M} {O} {Q} k = record { kept = k; grown = advance-none M O Q; sound = λ F s a. s }

  pub moved-join : {M M₁ M₂ : List Bool} {O Q O₁ Q₁ O₂ Q₂ : List ℕ} {b d : ℕ} {A B C : List Bool → Type 0}
      → ((F : List Bool) → Sound c F size M O → C F → A F) → ((F : List Bool) → Sound c F size M₁ O₁ → C F → B F)
      → Moved c size M O Q M₁ O₁ Q₁ b A → Moved c size M₁ O₁ Q₁ M₂ O₂ Q₂ d B → Moved c size M O Q M₂ O₂ Q₂ d C
  moved-join f h m n = record {
    kept = n.kept;
    grown = advance-join m.grown n.grown;
    sound = λ F s a. (let t = m.sound F s (f F s a) in n.sound F t (h F t a));
  }

  -- the step back that is left out may be another one
  pub rebar : {M : List Bool} {O Q : List ℕ} {b d : ℕ} → ((y : ℕ) → y + 1 < size → (y + 1 ≡ d → ⊥) → (y + 1 ≡ b) → Good M (y + 1) → Sure M (y + 1) → Good M y)
      → Kept c size M O Q b → Kept c size M O Q d
  rebar {M} {b = b} f k = record {
    shape = k.shape;
    room = k.room;
    marks-long = k.marks-long;
    missing-long = k.missing-long;
    queue_long = k.queue_long;
    count = k.count;
    flags = k.flags;
    queued = k.queued;
    bottom = k.bottom;
    closed = λ y h n g s. elim (ℕ_discrete (y + 1) b) as (λ _. Good M y) [ yes e ↦ f y h n e g s | no e ↦ k.closed y h e g s ];
    owner = k.owner;
  }

  module _ {M : List Bool} {O Q : List ℕ} {p : ℕ} (k : Kept c size M O Q (p + 1)) (hp : p < size) where
    marked : {O' Q' : List ℕ} → Found size O Q O' Q' → ((e : ℕ) → owner_at c p ≡ e + 1 → Done O' e) → ((e : ℕ) → Done O' e → Done O e ⊎ (owner_at c p ≡ e + 1))
        → Marked c size M O Q (set M p true) O' Q' p
    marked {O'} {Q'} f own from = record {
      moved = record {
        kept = record {
          shape = k.shape;
          room = k.room;
          marks-long = length-set M p true ∙ k.marks-long;
          missing-long = f.missing-long;
          queue_long = f.queue_long;
          count = f.count;
          flags = f.flags;
          queued = f.queued;
          bottom = mark-other M p 512 (λ e. omega (arith, k.shape.small)) ∙ k.bottom;
          closed = λ y h n g s. elim (ℕ_discrete y p) as (λ _. Good (set M p true) y) [
            | yes e ↦ subst (Good (set M p true)) (sym e) here
            | no e ↦ grow y (k.closed y h (λ z. e (omega arith)) (back (y + 1) n g) (back (512 + (y + 1)) (λ z. omega (arith, k.shape.small)) s))
          ];
          owner = λ x e h g o. elim (ℕ_discrete x p) as (λ _. Done O' e) [
            | yes z ↦ own e (subst (λ (q : ℕ). owner_at c q ≡ e + 1) z o)
            | no z ↦ f.grows e (k.owner x e h (back x z g) o)
          ];
        };
        grown = record { marks = grow; more = f.more; same = f.same; fresh = f.fresh };
        sound = λ F s m. record {
          good = λ x h g. elim (ℕ_discrete x p) as (λ _. Made c F size x) [ yes z ↦ subst (Made c F size) (sym z) m | no z ↦ s.good x h (back x z g) ];
          sure = λ y h u. s.sure y h (back (512 + (y + 1)) (λ z. omega (arith, k.shape.small)) u);
          done = λ e h d. ⊎_elim (s.done e h) (λ o. record { dot = p; owner = o; made = m }) (from e d);
        };
      };
      good = here;
    }
      where
        inside : p < length M
        inside = omega (arith, k.shape.small, k.marks-long)

        here : Good (set M p true) p
        here = get_or-set_same M p true false inside

        grow : (x : ℕ) → get_or M x false ≡ true → get_or (set M p true) x false ≡ true
        grow x h = mark-grows M p x h inside

        back : (x : ℕ) → (x ≡ p → ⊥) → get_or (set M p true) x false ≡ true → get_or M x false ≡ true
        back x n h = sym (mark-other M p x n) ∙ h

    -- none is found
    pub mark-old : ((e : ℕ) → owner_at c p ≡ e + 1 → Done O e) → Marked c size M O Q (set M p true) O Q p
    mark-old own = marked
        (record {
          missing-long = k.missing-long;
          queue_long = k.queue_long;
          count = k.count;
          flags = k.flags;
          queued = k.queued;
          grows = λ e d. d;
          more = omega arith;
          same = λ i h l. refl;
          fresh = λ e d. inl d;
        })
        own
        (λ e d. inl d)

    -- one is, and goes into the queue
    module _ (e : ℕ) (o : owner_at c p ≡ e + 1) (n : get_or O e 0 ≡ 0 → ⊥) where
      abbrev O₁ : List ℕ
      O₁ = set O e 0

      abbrev Q₁ : List ℕ
      Q₁ = set Q 0 (tail_of Q + 1)

      abbrev Q₂ : List ℕ
      Q₂ = set Q₁ (tail_of Q + 1) e

      flag : get_or O e 0 ≡ 1
      flag = omega (arith, k.flags e, n)

      pub tail-below : tail_of Q < 512
      tail-below = omega (arith, k.count, total-set O e flag)

      inside : e < size
      inside = k.shape.owner p e hp o

      tail-is : tail_of Q₂ ≡ tail_of Q + 1
      tail-is = get_or-set_other Q₁ (tail_of Q + 1) 0 e 0 (λ z. omega arith) ∙ get_or-set_same Q 0 (tail_of Q + 1) 0 (omega (arith, k.queue_long))

      new_is : get_or Q₂ (tail_of Q + 1) 0 ≡ e
      new_is = get_or-set_same Q₁ (tail_of Q + 1) e 0 (omega (arith, k.queue_long, length-set Q 0 (tail_of Q + 1), tail-below))

      old-is : (i : ℕ) → 0 < i → i ≤ tail_of Q → get_or Q₂ i 0 ≡ get_or Q i 0
      old-is i h l = get_or-set_other Q₁ (tail_of Q + 1) i e 0 (λ z. omega arith) ∙ get_or-set_other Q 0 i (tail_of Q + 1) 0 (λ z. omega arith)

      here : Done O₁ e
      here = get_or-set_same O e 0 0 (omega (arith, k.missing-long, inside, k.shape.small))

      grows : (d : ℕ) → Done O d → Done O₁ d
      grows d h = omega (arith, set-le O e d)

      only : (d : ℕ) → (d ≡ e → ⊥) → Done O₁ d → Done O d
      only d z h = sym (get_or-set_other O e d 0 0 z) ∙ h

      pub mark-new : Marked c size M O Q (set M p true) O₁ Q₂ p
      mark-new = marked
          (record {
            missing-long = length-set O e 0 ∙ k.missing-long;
            queue_long = length-set Q₁ (tail_of Q + 1) e ∙ length-set Q 0 (tail_of Q + 1) ∙ k.queue_long;
            count = omega (arith, k.count, total-set O e flag, tail-is);
            flags = λ d. omega (arith, set-le O e d, k.flags d);
            queued = λ i h l. elim (ℕ_discrete i (tail_of Q + 1)) as (λ _. (get_or Q₂ i 0 < size) × Done O₁ (get_or Q₂ i 0)) [
              | yes z ↦ subst (λ (j : ℕ). (get_or Q₂ j 0 < size) × Done O₁ (get_or Q₂ j 0)) (sym z)
                  (subst (λ (d : ℕ). (d < size) × Done O₁ d) (sym new_is) (inside, here))
              | no z ↦ (let m : i ≤ tail_of Q = omega (arith, tail-is) in
                  subst (λ (d : ℕ). (d < size) × Done O₁ d) (sym (old-is i h m)) ((k.queued i h m).0, grows (get_or Q i 0) (k.queued i h m).1))
            ];
            grows = grows;
            more = omega (arith, tail-is);
            same = old-is;
            fresh = λ d h. elim (ℕ_discrete d e) as (λ _. Done O d ⊎ Waits Q₂ (tail_of Q) d) [
              | yes z ↦ inr (record { at = tail_of Q + 1; after = omega arith; before = omega (arith, tail-is); is = new_is ∙ sym z })
              | no z ↦ inl (only d z h)
            ];
          })
          (λ d h. subst (Done O₁) (let z : e ≡ d = omega arith in z) here)
          (λ d h. elim (ℕ_discrete d e) as (λ _. Done O d ⊎ (owner_at c p ≡ d + 1)) [
            | yes z ↦ inr (o ∙ ap (λ (x : ℕ). x + 1) (sym z))
            | no z ↦ inl (only d z h)
          ])

  -- what the dots after a symbol and before it say
  step_back : {F M : List Bool} {O : List ℕ} {y : ℕ} → Sound c F size M O → y + 1 < size → Good M (y + 1) → Sure M (y + 1) → Made c F size y
  step_back {F} {y = y} s h g u = ⊎_elim
      (λ w. made-terminal (omega arith) w.0 w.1 (s.good (y + 1) h g))
      (λ w. made-symbol (omega arith) w.0 w.1.owner w.1.made (s.good (y + 1) h g))
      (s.sure y h u)

  -- the steps back from a dot
  module _ {M₀ M : List Bool} {O₀ Q₀ O Q : List ℕ} {q : ℕ} (m : Moved c size M₀ O₀ Q₀ M O Q q Always) (hq : q < size) where
    module _ (t : (get_or M q false && get_or M (512 + q) false) ≡ true) where
      is : Good M q × Sure M q
      is = both_true (get_or M q false) (get_or M (512 + q) false) t

      pub above_zero : 0 < q
      above_zero = elim (ℕ_discrete q 0) as (λ _. 0 < q) [
        | yes z ↦ absurd (clash m.kept.bottom (subst (λ (x : ℕ). get_or M x false ≡ true) (let w : 512 + q ≡ 512 = omega arith in w) is.1))
        | no z ↦ omega arith
      ]

      before : (q - 1) + 1 ≡ q
      before = omega (arith, above_zero)

      pub raise-kept : Kept c size M O Q ((q - 1) + 1)
      raise-kept = subst (Kept c size M O Q) (sym before) m.kept

      pub raise-next : {M' : List Bool} {O' Q' : List ℕ} → Marked c size M O Q M' O' Q' (q - 1) → Moved c size M₀ O₀ Q₀ M' O' Q' (q - 1) Always
      raise-next w = moved-join (λ F s a. a)
          (λ F s a. step_back s (omega (arith, before)) (subst (Good M) (sym before) is.0) (subst (Sure M) (sym before) is.1))
          m w.moved

    pub raise-end : (get_or M q false && get_or M (512 + q) false) ≡ false → Moved c size M₀ O₀ Q₀ M O Q size Always
    raise-end t = record {
      kept = rebar (λ y h n e g s. absurd (both_false (get_or M q false) (get_or M (512 + q) false) t (subst (Good M) e g) (subst (Sure M) e s))) m.kept;
      grown = m.grown;
      sound = m.sound;
    }

  -- the ends of alternatives
  pub begin-kept : {M : List Bool} {O Q : List ℕ} (b : ℕ) → Kept c size M O Q size → Kept c size M O Q b
  begin-kept b k = rebar (λ y h n e. absurd (omega arith)) k

  module _ {M : List Bool} {O Q : List ℕ} {p : ℕ} where
    pub begin-skip : Kept c size M O Q size → (next_kind c p ≡ 0 → ⊥) → Begun c size M O Q M O Q p (p + 1)
    begin-skip k n = record { moved = moved_none k; ends = λ x l h e. absurd (n (subst (λ (z : ℕ). next_kind c z ≡ 0) (let w : x ≡ p = omega arith in w) e)) }

    pub begin-end : {M₁ M₂ : List Bool} {O₁ Q₁ O₂ Q₂ : List ℕ} → p < size → next_kind c p ≡ 0 → Marked c size M O Q M₁ O₁ Q₁ p
        → Moved c size M₁ O₁ Q₁ M₂ O₂ Q₂ size Always → Begun c size M O Q M₂ O₂ Q₂ p (p + 1)
    begin-end {M₂ = M₂} h e m n = record {
      moved = moved-join (λ F s a. made-end h e) (λ F s a. a) m.moved n;
      ends = λ x l b z. subst (Good M₂) (let w : p ≡ x = omega arith in w) (n.grown.marks p m.good);
    }

  pub begun-none : {M : List Bool} {O Q : List ℕ} → Kept c size M O Q size → Begun c size M O Q M O Q 0 0
  begun-none k = record { moved = moved_none k; ends = λ x l h. absurd (omega arith) }

  pub begun-join : {M M₁ M₂ : List Bool} {O Q O₁ Q₁ O₂ Q₂ : List ℕ} {a b d : ℕ} → Begun c size M O Q M₁ O₁ Q₁ a b → Begun c size M₁ O₁ Q₁ M₂ O₂ Q₂ b d
      → Begun c size M O Q M₂ O₂ Q₂ a d
  begun-join {M₂ = M₂} {b = b} v w = record {
    moved = moved-join (λ F s a. a) (λ F s a. a) v.moved w.moved;
    ends = λ p l h e. ⊎_elim (λ i. w.moved.grown.marks p (v.ends p l i e)) (λ i. w.ends p i h e) (split p b);
  }

  pub begun_all : {M M₁ : List Bool} {O Q O₁ Q₁ : List ℕ} {a b d : ℕ} → Begun c size M O Q M₁ O₁ Q₁ a b → d ≤ b → Begun c size M O Q M₁ O₁ Q₁ a d
  begun_all v h = record { moved = v.moved; ends = λ p l k. v.ends p l (omega arith) }
