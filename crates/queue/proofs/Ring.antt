-- The queue of rules: a ring.
use mathlib.Core.List.{List}
use mathlib.Core.Path.{◌≡◌, refl, sym, ap, ◌∙◌}
use Prim.Native.Nat.{ℕ, zero, suc, ◌+◌, ◌-◌, ◌<◌, ◌≤◌}
use native.Mathlib.Decide.{ℕ_discrete, dec_lt}
use native.Mathlib.Omega.{arith}
use lib.Dec.{ltb, leb}
use lib.ListN.{length, get_or, set, length-set}
use lib.Seq.{get_or-set_same, get_or-set_other}
use borrow.Author.Tests.{lt-ltb, le-ltb, le-leb, lt-leb}
use Rattle.text.specs.Lists.{pick}
use Rattle.reach.specs.Work.{at_most}
use Rattle.queue.specs.Queue.{flag_of, head_of, count_of, slot, Waits, Queued, Put, Taken}

pub around-in : (k : ℕ) → k < 512 → pick (ltb k 512) k (k - 512) ≡ k
around-in k l = rw (lt-ltb k 512 l)

pub around-out : (k : ℕ) → 512 ≤ k → pick (ltb k 512) k (k - 512) ≡ k - 512
around-out k l = rw (le-ltb k 512 l)

-- places of the ring differ
slot-below : (h k : ℕ) → h < 512 → k < 512 → slot h k < 512
slot-below h k a b = elim (dec_lt (h + k) 512) as (λ _. slot h k < 512) [ yes l ↦ omega (arith, around-in (h + k) l) | no l ↦ omega (arith, around-out (h + k) (omega arith)) ]

slot-inj : (h k l : ℕ) → h < 512 → k < 512 → l < 512 → slot h k ≡ slot h l → k ≡ l
slot-inj h k l a b d e = elim (dec_lt (h + k) 512) as (λ _. k ≡ l) [
  | yes x ↦ (elim (dec_lt (h + l) 512) as (λ _. k ≡ l) [
    | yes y ↦ omega (arith, around-in (h + k) x, around-in (h + l) y)
    | no y ↦ omega (arith, around-in (h + k) x, around-out (h + l) (omega arith))
  ])
  | no x ↦ (elim (dec_lt (h + l) 512) as (λ _. k ≡ l) [
    | yes y ↦ omega (arith, around-out (h + k) (omega arith), around-in (h + l) y)
    | no y ↦ omega (arith, around-out (h + k) (omega arith), around-out (h + l) (omega arith))
  ])
]

-- the ring that begins one later
slot_next : (h g k : ℕ) → h < 512 → k < 511 → g ≡ slot h 1 → slot g k ≡ slot h (k + 1)
slot_next h g k a b e = elim (dec_lt (h + 1) 512) as (λ _. slot g k ≡ slot h (k + 1)) [
  | yes x ↦ (let f : g ≡ h + 1 = e ∙ around-in (h + 1) x in
      elim (dec_lt (h + (k + 1)) 512) as (λ _. slot g k ≡ slot h (k + 1)) [
        | yes y ↦ omega (arith, around-in (g + k) (omega arith), around-in (h + (k + 1)) y)
        | no y ↦ omega (arith, around-out (g + k) (omega arith), around-out (h + (k + 1)) (omega arith))
      ])
  | no x ↦ (let f : g ≡ 0 = omega (arith, around-out (h + 1) (omega arith)) in
      omega (arith, around-in (g + k) (omega arith), around-out (h + (k + 1)) (omega arith)))
]

one : ℕ → ℕ
one x = pick (leb x 0) 1 0

one-zero : (x : ℕ) → x ≡ 0 → one x ≡ 1
unfolding one
one-zero x e = rw (le-leb x 0 (omega arith))

one-most : (x : ℕ) → one x ≤ 1
unfolding one
one-most x = elim (dec_lt 0 x) as (λ _. pick (leb x 0) 1 0 ≤ 1) [ yes l ↦ rw (lt-leb x 0 l) (omega arith) | no l ↦ rw (le-leb x 0 (omega arith)) (omega arith) ]

one-some : (x : ℕ) → 0 < x → one x ≡ 0
unfolding one
one-some x l = rw (lt-leb x 0 l)

most-next : (Q : List ℕ) (b k : ℕ) → at_most 0 Q b (suc k) ≡ one (get_or Q (b + k) 0) + at_most 0 Q b k
unfolding at_most one
most-next Q b k = refl

most-none : (Q : List ℕ) (b : ℕ) → at_most 0 Q b 0 ≡ 0
unfolding at_most
most-none Q b = refl

-- the flags that are 0, where one changes
module _ (Q R : List ℕ) (b e : ℕ) (same : (x : ℕ) → x < 512 → (x ≡ e → ⊥) → get_or R (b + x) 0 ≡ get_or Q (b + x) 0) where
  before : (k : ℕ) → k ≤ e → k ≤ 512 → at_most 0 R b k ≡ at_most 0 Q b k
  before zero l m = most-none R b ∙ sym (most-none Q b)
  before (suc k) l m = omega (arith, most-next R b k, most-next Q b k, before k (omega arith) (omega arith), ap one (same k (omega arith) (λ z. omega arith)))

  most-more : (k : ℕ) → k ≤ 512 → at_most 0 R b k ≤ at_most 0 Q b k + 1
  most-more zero m = omega (arith, most-none R b)
  most-more (suc k) m = elim (ℕ_discrete k e) as (λ _. at_most 0 R b (suc k) ≤ at_most 0 Q b (suc k) + 1) [
    | yes z ↦ omega (arith, most-next R b k, most-next Q b k, before k (omega arith) (omega arith), one-most (get_or R (b + k) 0))
    | no z ↦ omega (arith, most-next R b k, most-next Q b k, most-more k (omega arith), ap one (same k (omega arith) z))
  ]

  most-less : get_or Q (b + e) 0 ≡ 0 → 0 < get_or R (b + e) 0 → (k : ℕ) → e < k → k ≤ 512 → at_most 0 R b k + 1 ≡ at_most 0 Q b k
  most-less z s zero l m = absurd (omega arith)
  most-less z s (suc k) l m = elim (ℕ_discrete k e) as (λ _. at_most 0 R b (suc k) + 1 ≡ at_most 0 Q b (suc k)) [
    | yes w ↦ (let y : get_or Q (b + k) 0 ≡ 0 = ap (λ (x : ℕ). get_or Q (b + x) 0) w ∙ z in
        let x = ap (λ (x : ℕ). get_or R (b + x) 0) w in
        omega (arith, most-next R b k, most-next Q b k, before k (omega arith) (omega arith), one-zero (get_or Q (b + k) 0) y, one-some (get_or R (b + k) 0) (omega arith)))
    | no w ↦ omega (arith, most-next R b k, most-next Q b k, most-less z s k (omega arith) (omega arith), ap one (same k (omega arith) w))
  ]

-- a flag that is 0 is one of those
most-one : (Q : List ℕ) (b e k : ℕ) → get_or Q (b + e) 0 ≡ 0 → e < k → 1 ≤ at_most 0 Q b k
most-one Q b e zero z l = absurd (omega arith)
most-one Q b e (suc k) z l = elim (ℕ_discrete k e) as (λ _. 1 ≤ at_most 0 Q b (suc k)) [
  | yes w ↦ omega (arith, most-next Q b k, one-zero (get_or Q (b + k) 0) (ap (λ (x : ℕ). get_or Q (b + x) 0) w ∙ z))
  | no w ↦ omega (arith, most-next Q b k, most-one Q b e k z (omega arith))
]

module _ {size : ℕ} {Q : List ℕ} (q : Queued size Q) (e : ℕ) (inside : e < size) where
  pub put_same : (flag_of Q e ≡ 0 → ⊥) → Put size Q Q e
  put_same p = record { queued = q; pending = p; others = λ x h d. refl; count = omega arith }

  module _ (free : flag_of Q e ≡ 0) where
    pub few : count_of Q < 512
    few = omega (arith, q.room, most-one Q 512 e 512 free (omega (arith, q.small)))

    module _ (x : ℕ) (at : x ≡ slot (head_of Q) (count_of Q)) where
      x_below : x < 512
      x_below = omega (arith, slot-below (head_of Q) (count_of Q) q.head few)

      abbrev Q₁ : List ℕ
      Q₁ = set Q x e

      abbrev Q₂ : List ℕ
      Q₂ = set Q₁ (512 + e) 1

      abbrev pub enqueued : List ℕ
      enqueued = set Q₂ 1025 (count_of Q + 1)

      long₂ : length Q₂ ≡ 1026
      long₂ = length-set Q₁ (512 + e) 1 ∙ length-set Q x e ∙ q.long

      whole : length enqueued ≡ 1026
      whole = length-set Q₂ 1025 (count_of Q + 1) ∙ long₂

      other : (y : ℕ) → (y ≡ x → ⊥) → (y ≡ 512 + e → ⊥) → (y ≡ 1025 → ⊥) → get_or enqueued y 0 ≡ get_or Q y 0
      other y a b d = get_or-set_other Q₂ 1025 y (count_of Q + 1) 0 d ∙ get_or-set_other Q₁ (512 + e) y 1 0 b ∙ get_or-set_other Q x y e 0 a

      here : get_or enqueued x 0 ≡ e
      here = get_or-set_other Q₂ 1025 x (count_of Q + 1) 0 (λ z. omega (arith, x_below)) ∙ get_or-set_other Q₁ (512 + e) x 1 0 (λ z. omega (arith, x_below))
          ∙ get_or-set_same Q x e 0 (omega (arith, x_below, q.long))

      flag : flag_of enqueued e ≡ 1
      flag = get_or-set_other Q₂ 1025 (512 + e) (count_of Q + 1) 0 (λ z. omega (arith, q.small))
          ∙ get_or-set_same Q₁ (512 + e) 1 0 (omega (arith, q.small, length-set Q x e, q.long))

      count-is : count_of enqueued ≡ count_of Q + 1
      count-is = get_or-set_same Q₂ 1025 (count_of Q + 1) 0 (omega (arith, long₂))

      head-is : head_of enqueued ≡ head_of Q
      head-is = other 1024 (λ z. omega (arith, x_below)) (λ z. omega (arith, q.small)) (λ z. omega arith)

      flags : (y : ℕ) → y < 512 → (y ≡ e → ⊥) → flag_of enqueued y ≡ flag_of Q y
      flags y h d = other (512 + y) (λ z. omega (arith, x_below)) (λ z. d (omega arith)) (λ z. omega arith)

      kept_slot : (k : ℕ) → k < count_of Q → get_or enqueued (slot (head_of enqueued) k) 0 ≡ get_or Q (slot (head_of Q) k) 0
      kept_slot k l = ap (λ (z : ℕ). get_or enqueued (slot z k) 0) head-is
          ∙ other (slot (head_of Q) k) (λ z. omega (arith, slot-inj (head_of Q) k (count_of Q) q.head (omega (arith, few)) few (z ∙ at)))
          (λ z. omega (arith, slot-below (head_of Q) k q.head (omega (arith, few)))) (λ z. omega (arith, slot-below (head_of Q) k q.head (omega (arith, few))))

      new-slot : get_or enqueued (slot (head_of enqueued) (count_of Q)) 0 ≡ e
      new-slot = ap (λ (z : ℕ). get_or enqueued (slot z (count_of Q)) 0) head-is ∙ ap (λ (z : ℕ). get_or enqueued z 0) (sym at) ∙ here

      queued-new : Queued size enqueued
      queued-new = record {
        small = q.small;
        long = whole;
        head = omega (arith, head-is, q.head);
        each = λ k l. elim (ℕ_discrete k (count_of Q)) as (λ _. get_or enqueued (slot (head_of enqueued) k) 0 < size) [
          | yes z ↦ omega (arith, ap (λ (w : ℕ). get_or enqueued (slot (head_of enqueued) w) 0) z, new-slot)
          | no z ↦ omega (arith, kept_slot k (omega (arith, count-is)), q.each k (omega (arith, count-is)))
        ];
        waits = λ y h p. elim (ℕ_discrete y e) as (λ _. Waits enqueued y) [
          | yes z ↦ record { at = count_of Q; before = omega (arith, count-is); is = new-slot ∙ sym z }
          | no z ↦ (let w = q.waits y h (λ f. p (flags y h z ∙ f)) in record { at = w.at; before = omega (arith, count-is, w.before); is = kept_slot w.at w.before ∙ w.is })
        ];
        room = omega (arith, count-is, q.room, most-less Q enqueued 512 e (λ y h d. flags y h d) free (omega (arith, flag)) 512 (omega (arith, q.small)) (omega arith));
      }

      pub put-new : Put size Q enqueued e
      put-new = record { queued = queued-new; pending = λ z. omega (arith, flag); others = flags; count = omega (arith, count-is) }

-- the first is taken
module _ {size : ℕ} {Q : List ℕ} (q : Queued size Q) (some : 0 < count_of Q) (e g : ℕ) (first : e ≡ get_or Q (head_of Q) 0) (next : g ≡ slot (head_of Q) 1) where
  slot-first : slot (head_of Q) 0 ≡ head_of Q
  slot-first = omega (arith, around-in (head_of Q + 0) (omega (arith, q.head)))

  pub first-inside : e < size
  first-inside = omega (arith, q.each 0 some, first, ap (λ (z : ℕ). get_or Q z 0) slot-first)

  abbrev R₁ : List ℕ
  R₁ = set Q (512 + e) 0

  abbrev R₂ : List ℕ
  R₂ = set R₁ 1024 g

  abbrev pub dequeued : List ℕ
  dequeued = set R₂ 1025 (count_of Q - 1)

  left : (y : ℕ) → (y ≡ 512 + e → ⊥) → (y ≡ 1024 → ⊥) → (y ≡ 1025 → ⊥) → get_or dequeued y 0 ≡ get_or Q y 0
  left y a b d = get_or-set_other R₂ 1025 y (count_of Q - 1) 0 d ∙ get_or-set_other R₁ 1024 y g 0 b ∙ get_or-set_other Q (512 + e) y 0 0 a

  long₁ : length R₂ ≡ 1026
  long₁ = length-set R₁ 1024 g ∙ length-set Q (512 + e) 0 ∙ q.long

  taken-count : count_of dequeued ≡ count_of Q - 1
  taken-count = get_or-set_same R₂ 1025 (count_of Q - 1) 0 (omega (arith, long₁))

  taken-head : head_of dequeued ≡ g
  taken-head = get_or-set_other R₂ 1025 1024 (count_of Q - 1) 0 (λ z. omega arith) ∙ get_or-set_same R₁ 1024 g 0 (omega (arith, length-set Q (512 + e) 0, q.long))

  taken-flags : (y : ℕ) → y < 512 → (y ≡ e → ⊥) → flag_of dequeued y ≡ flag_of Q y
  taken-flags y h d = left (512 + y) (λ z. d (omega arith)) (λ z. omega arith) (λ z. omega arith)

  taken-flag : flag_of dequeued e ≡ 0
  taken-flag = get_or-set_other R₂ 1025 (512 + e) (count_of Q - 1) 0 (λ z. omega (arith, first-inside, q.small))
      ∙ get_or-set_other R₁ 1024 (512 + e) g 0 (λ z. omega (arith, first-inside, q.small)) ∙ get_or-set_same Q (512 + e) 0 0 (omega (arith, first-inside, q.small, q.long))

  most-count : count_of Q ≤ 512
  most-count = omega (arith, q.room)

  moved-slot : (k : ℕ) → k + 1 < count_of Q → get_or dequeued (slot (head_of dequeued) k) 0 ≡ get_or Q (slot (head_of Q) (k + 1)) 0
  moved-slot k l =
      let b = slot-below (head_of Q) (k + 1) q.head (omega (arith, most-count)) in
      ap (λ (z : ℕ). get_or dequeued (slot z k) 0) taken-head ∙ ap (λ (z : ℕ). get_or dequeued z 0) (slot_next (head_of Q) g k q.head (omega (arith, most-count)) next)
      ∙ left (slot (head_of Q) (k + 1)) (λ z. omega arith) (λ z. omega arith) (λ z. omega arith)

  pub taken : Taken size Q dequeued e
  taken = record {
    queued = record {
      small = q.small;
      long = length-set R₂ 1025 (count_of Q - 1) ∙ long₁;
      head = omega (arith, taken-head, next, slot-below (head_of Q) 1 q.head (omega arith));
      each = λ k l. omega (arith, moved-slot k (omega (arith, taken-count)), q.each (k + 1) (omega (arith, taken-count)));
      waits = λ y h p. elim (ℕ_discrete y e) as (λ _. Waits dequeued y) [
        | yes z ↦ absurd (p (ap (flag_of dequeued) z ∙ taken-flag))
        | no z ↦ later y (q.waits y h (λ f. p (taken-flags y h z ∙ f))) z
      ];
      room = omega (arith, taken-count, q.room, most-more Q dequeued 512 e (λ y h d. taken-flags y h d) 512 (omega arith));
    };
    inside = first-inside;
    others = taken-flags;
    count = omega (arith, taken-count);
  }
    where
      later : (y : ℕ) → Waits Q y → (y ≡ e → ⊥) → Waits dequeued y
      later y w z = elim (ℕ_discrete w.at 0) as (λ _. Waits dequeued y) [
        | yes a ↦ absurd (z (sym w.is ∙ ap (λ (x : ℕ). get_or Q (slot (head_of Q) x) 0) a ∙ ap (λ (x : ℕ). get_or Q x 0) slot-first ∙ sym first))
        | no a ↦ (let b : w.at - 1 + 1 ≡ w.at = omega arith in record {
          at = w.at - 1;
          before = omega (arith, taken-count, w.before);
          is = moved-slot (w.at - 1) (omega (arith, w.before)) ∙ ap (λ (x : ℕ). get_or Q (slot (head_of Q) x) 0) b ∙ w.is;
        })
      ]
