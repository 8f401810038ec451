-- Dots by rules: keys, and lists made of them.
use mathlib.Core.Bool.{Bool, true, false, not}
use mathlib.Core.List.{List}
use mathlib.Core.Logic.{◌⊎◌, inl, inr, ⊎_elim}
use mathlib.Core.Path.{◌≡◌, refl, sym, subst, ap, ◌∙◌}
use Prim.Native.Nat.{ℕ, zero, suc, ◌+◌, ◌*◌, ◌-◌, ◌<◌, ◌≤◌}
use native.Mathlib.Decide.{ℕ_discrete}
use native.Mathlib.Numerals.{add-one}
use native.Mathlib.Omega.{arith}
use lib.ListN.{length, get_or, set, length-set}
use lib.Seq.{get_or-set_same, get_or-set_other}
use borrow.Author.Tests.{eq-eqb, ne_eqb}
use Rattle.text.proofs.Tests.{split}
use Rattle.chart.specs.Code.{next_kind, rule_at, owner_at}
use Rattle.chart.specs.Uses.{LastUse, Uses}
use Rattle.reach.specs.Flags.{home_of}
use Rattle.reach.specs.Work.{Seen, Listed, l-here, l-next}
use Rattle.std.specs.Prelude.{Option, None, Some}
use Rattle.std.specs.Option.{is_some}
use Rattle.std.proofs.lemmas.Bool.{false≢true}
use mir.Val.{bool_byte}
use Rattle.reach.specs.Lists.{use_key, after_key, end_key, key_of, rule_number, Shape, HomesFrom, Keying, Opened, Members, Keyed, PutKey}

pub home-first : (c : List ℕ) (p e : ℕ) → owner_at c p ≡ e + 1 → home_of c p ≡ e
unfolding home_of
home-first c zero e o = omega arith
home-first c (suc p) e o = let k : e + 1 - 1 ≡ e = omega arith in rw (o, ne_eqb (e + 1) 0 (λ y. omega arith)) k

pub home-next : (c : List ℕ) (p : ℕ) → owner_at c (p + 1) ≡ 0 → home_of c (p + 1) ≡ home_of c p
unfolding home_of
home-next c p o = rw add-one (let z : owner_at c (suc p) ≡ 0 = rw add-one at o in rw z refl)

home-zero : (c : List ℕ) → owner_at c 0 ≡ 0 → home_of c 0 ≡ 0
unfolding home_of
home-zero c o = omega arith

pub home-most : (c : List ℕ) (size : ℕ) → ((q : ℕ) → q < size → owner_at c q ≤ size) → (p : ℕ) → p < size → home_of c p < size
home-most c size s zero h = elim (ℕ_discrete (owner_at c 0) 0) as (λ _. home_of c 0 < size) [
  | yes e ↦ omega (arith, home-zero c e)
  | no e ↦ omega (arith, home-first c 0 (owner_at c 0 - 1) (omega arith), s 0 h)
]
home-most c size s (suc p) h = elim (ℕ_discrete (owner_at c (suc p)) 0) as (λ _. home_of c (suc p) < size) [
  | yes e ↦ omega (arith, home-most c size s p (omega arith), rw add-one at (home-next c p (rw add-one e)))
  | no e ↦ omega (arith, home-first c (suc p) (owner_at c (suc p) - 1) (omega arith), s (suc p) h)
]

pub home_below : {c : List ℕ} {size : ℕ} → Shape c size → (p : ℕ) → p < size → home_of c p < size
home_below {c} {size} s = home-most c size s.owner

-- one dot's rule after the other
module _ (c : List ℕ) (p last : ℕ) (before : (q : ℕ) → p ≡ q + 1 → last ≡ home_of c q) (start : p ≡ 0 → last ≡ 0) where
  pub home_same : owner_at c p ≡ 0 → last ≡ home_of c p
  home_same o = elim (ℕ_discrete p 0) as (λ _. last ≡ home_of c p) [
    | yes e ↦ start e ∙ sym (ap (home_of c) e ∙ home-zero c (ap (owner_at c) (sym e) ∙ o))
    | no e ↦ (let z : p ≡ (p - 1) + 1 = omega arith in
        before (p - 1) z ∙ sym (ap (home_of c) z ∙ home-next c (p - 1) (ap (owner_at c) (sym z) ∙ o)))
  ]

  pub home-new : (owner_at c p ≡ 0 → ⊥) → owner_at c p - 1 ≡ home_of c p
  home-new n = sym (home-first c p (owner_at c p - 1) (omega (arith, n)))

pub record HomesTo (c : List ℕ) (size from : ℕ) (Q₀ Q : List ℕ) (p last : ℕ) : Type 0 where
  pub bound : p ≤ size
  pub long : length Q ≡ length Q₀
  pub homes : (q : ℕ) → q < p → get_or Q (from + q) 0 ≡ home_of c q
  pub before : (q : ℕ) → p ≡ q + 1 → last ≡ home_of c q
  pub start : p ≡ 0 → last ≡ 0
  pub below : (x : ℕ) → x < from → get_or Q x 0 ≡ get_or Q₀ x 0
  pub above : (x : ℕ) → from + size ≤ x → get_or Q x 0 ≡ get_or Q₀ x 0

pub homes-start : (c : List ℕ) (size from : ℕ) (Q : List ℕ) → HomesTo c size from Q Q 0 0
homes-start c size from Q = record {
  bound = omega arith;
  long = refl;
  homes = λ q h. absurd (omega arith);
  before = λ q e. absurd (omega arith);
  start = λ e. refl;
  below = λ x h. refl;
  above = λ x h. refl;
}

pub homes-next : {c : List ℕ} {size from p last v : ℕ} {Q₀ Q : List ℕ} → HomesTo c size from Q₀ Q p last → from + size ≤ length Q₀ → p < size → v ≡ home_of c p
    → HomesTo c size from Q₀ (set Q (from + p) v) (p + 1) v
homes-next {c} {from = from} {p = p} {v = v} {Q = Q} h l s e = record {
  bound = omega arith;
  long = length-set Q (from + p) v ∙ h.long;
  homes = λ q a. elim (ℕ_discrete q p) as (λ _. get_or (set Q (from + p) v) (from + q) 0 ≡ home_of c q) [
    | yes w ↦ ap (λ (x : ℕ). get_or (set Q (from + p) v) (from + x) 0) w ∙ get_or-set_same Q (from + p) v 0 (omega (arith, h.long)) ∙ e ∙ ap (home_of c) (sym w)
    | no w ↦ get_or-set_other Q (from + p) (from + q) v 0 (λ y. w (omega arith)) ∙ h.homes q (omega arith)
  ];
  before = λ q w. e ∙ ap (home_of c) (let y : p ≡ q = omega arith in y);
  start = λ w. absurd (omega arith);
  below = λ x a. get_or-set_other Q (from + p) x v 0 (λ y. omega arith) ∙ h.below x a;
  above = λ x a. get_or-set_other Q (from + p) x v 0 (λ y. omega arith) ∙ h.above x a;
}

pub homes-end : {c : List ℕ} {size from p last : ℕ} {Q₀ Q : List ℕ} → HomesTo c size from Q₀ Q p last → size ≤ p → HomesFrom c size from Q₀ Q
homes-end h l = record { long = h.long; homes = λ q a. h.homes q (omega arith); below = h.below; above = h.above }

-- keys
module _ (c : List ℕ) (p : ℕ) where
  pub use-none : (next_kind c p ≡ 2 → ⊥) → use_key c p ≡ 0
  unfolding use_key
  use-none n = rw (ne_eqb (next_kind c p) 2 n) refl

  pub use-some : next_kind c p ≡ 2 → use_key c p ≡ rule_at c p + 1
  unfolding use_key
  use-some e = rw (eq-eqb (next_kind c p) 2 e) refl

  pub end_none : (next_kind c p ≡ 0 → ⊥) → end_key c p ≡ 0
  unfolding end_key
  end_none n = rw (ne_eqb (next_kind c p) 0 n) refl

  pub end-some : next_kind c p ≡ 0 → end_key c p ≡ home_of c p + 1
  unfolding end_key
  end-some e = rw (eq-eqb (next_kind c p) 0 e) refl

  pub after_none : p ≡ 0 → after_key c p ≡ 0
  unfolding after_key
  after_none e = rw (eq-eqb p 0 e) refl

  pub after-some : (p ≡ 0 → ⊥) → after_key c p ≡ use_key c (p - 1)
  unfolding after_key
  after-some n = rw (ne_eqb p 0 n) refl

  pub key-first : key_of c 0 p ≡ owner_at c p
  unfolding key_of
  key-first = refl

  pub key-after : key_of c 1 p ≡ after_key c p
  unfolding key_of
  key-after = refl

  pub key-end : key_of c 2 p ≡ end_key c p
  unfolding key_of
  key-end = refl

  pub key-use : (w : ℕ) → (w ≡ 0 → ⊥) → (w ≡ 1 → ⊥) → (w ≡ 2 → ⊥) → key_of c w p ≡ use_key c p
  unfolding key_of
  key-use w a b d = rw (ne_eqb w 0 a, ne_eqb w 1 b, ne_eqb w 2 d) refl

-- a dot without a rule is open
pub open_flag : (r : Option ℕ) (b : Bool) → is_some r ≡ not b → rule_number r ≡ 0 → bool_byte b ≡ 1
open_flag None true h e = refl
open_flag None false h e = absurd (false≢true h)
open_flag (Some x) b h e = absurd (omega arith)

module _ {c : List ℕ} {size : ℕ} (s : Shape c size) where
  use-below : (p : ℕ) → p < size → use_key c p ≤ size
  use-below p h = elim (ℕ_discrete (next_kind c p) 2) as (λ _. use_key c p ≤ size) [
    | yes e ↦ omega (arith, use-some c p e, s.rule p h e)
    | no e ↦ omega (arith, use-none c p e)
  ]

  after-below : (p : ℕ) → p < size → after_key c p ≤ size
  after-below p h = elim (ℕ_discrete p 0) as (λ _. after_key c p ≤ size) [
    | yes e ↦ omega (arith, after_none c p e)
    | no e ↦ omega (arith, after-some c p e, use-below (p - 1) (omega arith))
  ]

  end_below : (p : ℕ) → p < size → end_key c p ≤ size
  end_below p h = elim (ℕ_discrete (next_kind c p) 0) as (λ _. end_key c p ≤ size) [
    | yes e ↦ omega (arith, end-some c p e, home_below s p h)
    | no e ↦ omega (arith, end_none c p e)
  ]

  pub key_below : (w p : ℕ) → p < size → key_of c w p ≤ size
  key_below w p h = elim (ℕ_discrete w 0) as (λ _. key_of c w p ≤ size) [
    | yes a ↦ subst (λ (v : ℕ). key_of c v p ≤ size) (sym a) (omega (arith, key-first c p, s.owner p h))
    | no a ↦ elim (ℕ_discrete w 1) as (λ _. key_of c w p ≤ size) [
      | yes b ↦ subst (λ (v : ℕ). key_of c v p ≤ size) (sym b) (omega (arith, key-after c p, after-below p h))
      | no b ↦ elim (ℕ_discrete w 2) as (λ _. key_of c w p ≤ size) [
        | yes d ↦ subst (λ (v : ℕ). key_of c v p ≤ size) (sym d) (omega (arith, key-end c p, end_below p h))
        | no d ↦ omega (arith, key-use c p w a b d, use-below p h)
      ]
    ]
  ]

-- open dots
pub record Opening (c : List ℕ) (w : ℕ) (Q₀ Q : List ℕ) (p : ℕ) : Type 0 where
  pub long : length Q ≡ length Q₀
  pub opened : (q : ℕ) → q < p → key_of c w q ≡ 0 → Seen Q q
  pub rest : (x : ℕ) → (x < 513) ⊎ (1024 < x) → get_or Q x 0 ≡ get_or Q₀ x 0

pub opening-start : (c : List ℕ) (w : ℕ) (Q : List ℕ) → Opening c w Q Q 0
opening-start c w Q = record { long = refl; opened = λ q h. absurd (omega arith); rest = λ x h. refl }

pub opening-keying : {c : List ℕ} {size w p : ℕ} {Q₀ Q : List ℕ} → Keying c size Q₀ → Opening c w Q₀ Q p → Keying c size Q
opening-keying k o = record { shape = k.shape; long = o.long ∙ k.long; homes = λ p h. o.rest (1025 + p) (inr (omega arith)) ∙ k.homes p h }

pub opening-next : {c : List ℕ} {w p v : ℕ} {Q₀ Q : List ℕ} → Opening c w Q₀ Q p → length Q₀ ≡ 1537 → p < 512 → (key_of c w p ≡ 0 → v ≡ 1)
    → Opening c w Q₀ (set Q (513 + p) v) (p + 1)
opening-next {c} {w} {p} {v} {Q = Q} o l h e = record {
  long = length-set Q (513 + p) v ∙ o.long;
  opened = λ q a k. elim (ℕ_discrete q p) as (λ _. Seen (set Q (513 + p) v) q) [
    | yes z ↦ (let k' : key_of c w p ≡ 0 = ap (key_of c w) (sym z) ∙ k in
        omega (arith, ap (λ (x : ℕ). get_or (set Q (513 + p) v) (513 + x) 0) z, get_or-set_same Q (513 + p) v 0 (omega (arith, o.long)), e k'))
    | no z ↦ omega (arith, get_or-set_other Q (513 + p) (513 + q) v 0 (λ y. z (omega arith)), o.opened q (omega arith) k)
  ];
  rest = λ x a. get_or-set_other Q (513 + p) x v 0 (λ y. ⊎_elim (λ b. omega arith) (λ b. omega arith) a) ∙ o.rest x a;
}

pub opening-end : {c : List ℕ} {size w p : ℕ} {Q₀ Q : List ℕ} → Opening c w Q₀ Q p → size ≤ p → Opened c size w Q₀ Q
opening-end o h = record { long = o.long; opened = λ q a k. o.opened q (omega arith) k; rest = o.rest }

-- keys as a code
pub put-none : {K : List ℕ} {p rule : ℕ} → rule ≡ 0 → PutKey K K p rule
put-none z = record { long = refl; none = λ _. refl; some = λ e h. absurd (omega arith); kept = λ x h. refl }

pub put_some : {K : List ℕ} {p : ℕ} (e : ℕ) → 4 * p + 3 < length K → PutKey K (set (set K (4 * p) 2) (4 * p + 2) e) p (e + 1)
put_some {K} {p} e l = record {
  long = length-set (set K (4 * p) 2) (4 * p + 2) e ∙ length-set K (4 * p) 2;
  none = λ z. absurd (omega arith);
  some = λ d h. (
    get_or-set_other (set K (4 * p) 2) (4 * p + 2) (4 * p) e 0 (λ z. omega arith) ∙ get_or-set_same K (4 * p) 2 0 (omega arith),
    get_or-set_same (set K (4 * p) 2) (4 * p + 2) e 0 (omega (arith, length-set K (4 * p) 2)) ∙ (let z : e ≡ d = omega arith in z),
  );
  kept = λ x h. get_or-set_other (set K (4 * p) 2) (4 * p + 2) x e 0 (λ z. away x h (omega arith) (omega arith))
      ∙ get_or-set_other K (4 * p) x 2 0 (λ z. away x h (omega arith) (omega arith));
}
  where
    away : (x : ℕ) → (x < 4 * p) ⊎ (4 * p + 3 < x) → 4 * p ≤ x → x ≤ 4 * p + 3 → ⊥
    away x h a b = ⊎_elim (λ z. omega arith) (λ z. omega arith) h

pub record KeysTo (c : List ℕ) (size w : ℕ) (K₀ K : List ℕ) (p : ℕ) : Type 0 where
  pub below : p ≤ size
  pub long : length K ≡ length K₀
  pub is : (q e : ℕ) → q < p → key_of c w q ≡ e + 1 → (next_kind K q ≡ 2) × (rule_at K q ≡ e)
  pub under : (q : ℕ) → q < p → next_kind K q ≡ 2 → rule_at K q < size
  pub later : (x : ℕ) → 4 * p ≤ x → get_or K x 0 ≡ 0

pub keys-start : (c : List ℕ) (size w : ℕ) (K : List ℕ) → ((x : ℕ) → get_or K x 0 ≡ 0) → KeysTo c size w K K 0
keys-start c size w K z = record { below = omega arith; long = refl; is = λ q e h. absurd (omega arith); under = λ q h. absurd (omega arith); later = λ x h. z x }

pub keys-next : {c : List ℕ} {size w p rule : ℕ} {K₀ K K' : List ℕ} → Shape c size → KeysTo c size w K₀ K p → p < size → rule ≡ key_of c w p → PutKey K K' p rule
    → KeysTo c size w K₀ K' (p + 1)
keys-next {c} {size} {w} {p} {rule} {K₀} {K} {K'} s k h e u = record {
  below = omega arith;
  long = u.long ∙ k.long;
  is = λ q d a z. elim (ℕ_discrete q p) as (λ _. (next_kind K' q ≡ 2) × (rule_at K' q ≡ d)) [
    | yes y ↦ subst (λ (v : ℕ). (next_kind K' v ≡ 2) × (rule_at K' v ≡ d)) (sym y) (u.some d (e ∙ ap (key_of c w) (sym y) ∙ z))
    | no y ↦ (let b = k.is q d (omega arith) z in (old q 0 y (omega arith) (omega arith) ∙ b.0, old2 q y (omega arith) ∙ b.1))
  ];
  under = λ q a z. elim (ℕ_discrete q p) as (λ _. rule_at K' q < size) [
    | yes y ↦ subst (λ (v : ℕ). rule_at K' v < size) (sym y) (here (subst (λ (v : ℕ). next_kind K' v ≡ 2) y z))
    | no y ↦ (let b = k.under q (omega arith) (sym (old q 0 y (omega arith) (omega arith)) ∙ z) in omega (arith, old2 q y (omega arith)))
  ];
  later = λ x a. u.kept x (inr (omega arith)) ∙ k.later x (omega arith);
}
  where
    old : (q z : ℕ) → (q ≡ p → ⊥) → q < p + 1 → z ≡ 0 → next_kind K' q ≡ next_kind K q
    old q z n l y = u.kept (4 * q) (inl (omega arith))

    old2 : (q : ℕ) → (q ≡ p → ⊥) → q < p + 1 → rule_at K' q ≡ rule_at K q
    old2 q n l = u.kept (4 * q + 2) (inl (omega arith))

    here : next_kind K' p ≡ 2 → rule_at K' p < size
    here z = elim (ℕ_discrete rule 0) as (λ _. rule_at K' p < size) [
      | yes y ↦ absurd (omega (arith, u.none y, k.later (4 * p) (omega arith)))
      | no y ↦ omega (arith, (u.some (rule - 1) (omega arith)).1, key_below s w p h)
    ]

pub keys-end : {c : List ℕ} {size w p : ℕ} {K₀ K : List ℕ} → 4 * size ≤ length K₀ → KeysTo c size w K₀ K p → size ≤ p → Keyed c size w K
keys-end r k h = record { long = omega (arith, k.long); is = λ q e a z. k.is q e (omega arith) z; below = λ q a z. k.under q (omega arith) z }

-- a list has all of them
module _ {K : List ℕ} {size : ℕ} {L : List ℕ} (u : Uses K size size L) where
  on_list : (fuel b p e x : ℕ) → b ≤ fuel → b ≤ size → LastUse K e b x → p < b → next_kind K p ≡ 2 → rule_at K p ≡ e → Listed L x p
  on_list zero b p e x f s l h k r = absurd (omega arith)
  on_list (suc fuel) b p e x f s l h k r = ⊎_elim
      (λ a. elim (ℕ_discrete x (p + 1)) as (λ _. Listed L x p) [
        | yes z ↦ l-here z
        | no z ↦ (let v : x ≡ (x - 1) + 1 = omega arith in
            let i = l.is (x - 1) v in
            let n = subst (λ (d : ℕ). LastUse K d (x - 1) (get_or L (2 * (x - 1) + 1) 0)) i.1 (u.next (x - 1) (omega (arith, l.below)) i.0) in
            l-next (x - 1) v (on_list fuel (x - 1) p e (get_or L (2 * (x - 1) + 1) 0) (omega (arith, l.below)) (omega (arith, l.below)) n (omega arith) k r))
      ])
      (λ a. absurd (l.last p a h k r))
      (split p x)

  falls : {b e x v : ℕ} → b ≤ size → LastUse K e b x → Listed L x v → get_or L (2 * v + 1) 0 ≤ v
  falls {e = e} s l (l-here {u = v} z) = let i = l.is v z in (u.next v (omega (arith, l.below)) i.0).below
  falls {b} {e} s l (l-next v z r) =
      let i = l.is v z in
      falls {b = v} (omega (arith, l.below)) (subst (λ (d : ℕ). LastUse K d v (get_or L (2 * v + 1) 0)) i.1 (u.next v (omega (arith, l.below)) i.0)) r

  pub members : {c : List ℕ} {w : ℕ} → 2 * size ≤ length L → Keyed c size w K → Members c w size L
  members {c} {w} m k = record {
    linked = record {
      room = m;
      last = λ e h. (u.last e h).below;
      next = λ e v h r. falls (omega arith) (u.last e h) r;
    };
    all = λ p e h z. (let i = k.is p e h z in
        on_list size size p e (get_or L (2 * e) 0) (omega arith) (omega arith) (u.last e (subst (λ (d : ℕ). d < size) i.1 (k.below p h i.0))) h i.0 i.1);
  }
