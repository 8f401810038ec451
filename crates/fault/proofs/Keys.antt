-- The lists of first dots.
use mathlib.Core.Bool.{Bool, true, false, ◌&&◌}
use mathlib.Core.List.{List}
use mathlib.Core.Logic.{◌⊎◌, inl, inr, ⊎_elim}
use mathlib.Core.Path.{◌≡◌, refl, sym, ap, subst, ◌∙◌}
use Prim.Native.Nat.{ℕ, ◌+◌, ◌*◌, ◌-◌, ◌<◌, ◌≤◌}
use native.Mathlib.Decide.{ℕ_discrete}
use native.Mathlib.Omega.{arith}
use lib.Dec.{T}
use lib.ListN.{length, get_or, set, length-set}
use lib.Seq.{get_or-set_same, get_or-set_other}
use Rattle.text.proofs.Tests.{T_true, is_t, and_left, and_right, both-and, clash}
use Rattle.tree.specs.Tree.{Terminal}
use Rattle.plain.specs.Live.{live}
use Rattle.rules.specs.Ready.{Token}
use Rattle.chart.specs.Code.{next_kind, rule_at, owner_at}
use Rattle.chart.specs.Uses.{LastUse, Uses}
use Rattle.reach.specs.Work.{Listed, l-here, l-next}
use Rattle.reach.specs.Lists as lists
use Rattle.reach.proofs.Keys.{use-none, use-some, key-use, members}
use Rattle.sparse.specs.Cells.{Shape}
use Rattle.fault.specs.Firsts.{AllLive, SomeLive, Tokened, Finishing, at-end, at-terminal, at_other, Tells, KeyPut, First, Keyed, Firsts}

module _ {Tb c : List ℕ} {p : ℕ} where
  pub tells-end : next_kind c p ≡ 0 → Tells Tb c p true
  tells-end z = record { yes = λ _. at-end z; no = λ _. refl }

  pub tells-other : {after : Bool} → (next_kind c p ≡ 0 → ⊥) → (next_kind c p ≡ 1 → ⊥) → Tells Tb c (p + 1) after → Tells Tb c p after
  tells-other {after} a b t = record { yes = λ e. at_other a b (t.yes e); no = go }
    where
      go : Finishing (SomeLive Tb) c p → after ≡ true
      go (at-end z) = absurd (a z)
      go (at-terminal z l f) = absurd (b z)
      go (at_other x y f) = t.no f

  pub tells-terminal : {after alive r : Bool} → next_kind c p ≡ 1 → ((y : Terminal) → Token Tb p y → alive ≡ live y) → r ≡ (after && alive)
      → Tells Tb c (p + 1) after → Tells Tb c p r
  tells-terminal {after} {alive} {r} z f e t = record {
    yes = λ q. (let both : T (after && alive) = is_t (sym e ∙ q) in
        at-terminal z (λ y v. subst T (f y v) (and_right after alive both)) (t.yes (T_true after (and_left after alive both))));
    no = λ q. e ∙ T_true (after && alive) (go q);
  }
    where
      go : Finishing (SomeLive Tb) c p → T (after && alive)
      go (at-end y) = absurd (omega arith)
      go (at-terminal y l q) = both-and after alive (is_t (t.no q)) (subst T (sym (f l.0 l.1)) l.2)
      go (at_other a b q) = absurd (b z)

module _ {c K : List ℕ} {p : ℕ} where
  pub key-none : {alive : Bool} → (owner_at c p ≡ 0) ⊎ (alive ≡ false) → KeyPut c K K p alive
  key-none {alive} n = record {
    long = refl;
    some = λ e h t. absurd (⊎_elim (λ z. omega arith) (λ z. clash z t) n);
    none = λ _. refl;
    kept = λ x h. refl;
  }

  pub key-some : {alive : Bool} → 4 * p + 3 < length K → (owner_at c p ≡ 0 → ⊥) → alive ≡ true → KeyPut c K (set (set K (4 * p) 2) (4 * p + 2) (owner_at c p - 1)) p alive
  key-some {alive} l n t = record {
    long = length-set (set K (4 * p) 2) (4 * p + 2) (owner_at c p - 1) ∙ length-set K (4 * p) 2;
    some = λ e h _. (
      get_or-set_other (set K (4 * p) 2) (4 * p + 2) (4 * p) (owner_at c p - 1) 0 (λ z. omega arith) ∙ get_or-set_same K (4 * p) 2 0 (omega arith),
      get_or-set_same (set K (4 * p) 2) (4 * p + 2) (owner_at c p - 1) 0 (omega (arith, length-set K (4 * p) 2)) ∙ (let z : owner_at c p - 1 ≡ e = omega arith in z),
    );
    none = λ h. absurd (⊎_elim n (λ z. z t) h);
    kept = λ x h. get_or-set_other (set K (4 * p) 2) (4 * p + 2) x (owner_at c p - 1) 0 (λ z. away x h (omega arith) (omega arith))
        ∙ get_or-set_other K (4 * p) x 2 0 (λ z. away x h (omega arith) (omega arith));
  }
    where
      away : (x : ℕ) → (x < 4 * p) ⊎ (4 * p + 3 < x) → 4 * p ≤ x → x ≤ 4 * p + 3 → ⊥
      away x h a b = ⊎_elim (λ z. omega arith) (λ z. omega arith) h

-- the keys from p on are put, and `alive` says of the rest at p whether it can be finished
pub record Keying (Tb c : List ℕ) (size : ℕ) (K₀ K : List ℕ) (p : ℕ) (alive : Bool) : Type 0 where
  pub low : p ≤ size
  pub long : length K ≡ length K₀
  pub keyed : Keyed Tb c size p K
  pub before : (x : ℕ) → x < 4 * p → get_or K x 0 ≡ 0
  pub tells : p < size → Tells Tb c p alive

pub keying-start : {Tb c K : List ℕ} {size : ℕ} → 4 * size ≤ length K → ((x : ℕ) → get_or K x 0 ≡ 0) → Keying Tb c size K K size true
keying-start l z = record {
  low = omega arith;
  long = refl;
  keyed = record { long = l; is = λ q e h k. absurd (omega arith); only = λ q h k. absurd (omega arith) };
  before = λ x h. z x;
  tells = λ h. absurd (omega arith);
}

pub keying-next : {Tb c K₀ K K' : List ℕ} {size p b : ℕ} {alive alive' : Bool} → Keying Tb c size K₀ K p alive → 0 < p → b ≡ p - 1 → Tells Tb c b alive' → KeyPut c K K' b alive'
    → Keying Tb c size K₀ K' b alive'
keying-next {Tb} {c} {K₀} {K} {K'} {size} {p} {b} {alive} {alive'} k h e t u = record {
  low = omega (arith, k.low);
  long = u.long ∙ k.long;
  keyed = record { long = omega (arith, k.keyed.long, u.long); is = is; only = only };
  before = λ x l. u.kept x (inl l) ∙ k.before x (omega arith);
  tells = λ _. t;
}
  where
    later : (q : ℕ) → b ≤ q → (q ≡ b → ⊥) → (next_kind K' q ≡ next_kind K q) × (rule_at K' q ≡ rule_at K q)
    later q a n = (u.kept (4 * q) (inr (omega arith)), u.kept (4 * q + 2) (inr (omega arith)))

    is : (q d : ℕ) → b ≤ q → q < size → First (SomeLive Tb) c q d → (next_kind K' q ≡ 2) × (rule_at K' q ≡ d)
    is q d a l f = elim (ℕ_discrete q b) as (λ _. (next_kind K' q ≡ 2) × (rule_at K' q ≡ d)) [
      | yes z ↦ subst (λ (v : ℕ). (next_kind K' v ≡ 2) × (rule_at K' v ≡ d)) (sym z)
          (u.some d (ap (owner_at c) (sym z) ∙ f.owner) (t.no (subst (Finishing (SomeLive Tb) c) z f.finishing)))
      | no z ↦ (let y = k.keyed.is q d (omega arith) l f in let w = later q a z in (w.0 ∙ y.0, w.1 ∙ y.1))
    ]

    here : next_kind K' b ≡ 2 → First (AllLive Tb) c b (rule_at K' b)
    here z = elim (ℕ_discrete (owner_at c b) 0) as (λ _. First (AllLive Tb) c b (rule_at K' b)) [
      | yes o ↦ absurd (omega (arith, u.none (inl o), k.before (4 * b) (omega arith)))
      | no o ↦ go o alive' refl
    ]
      where
        go : (owner_at c b ≡ 0 → ⊥) → (v : Bool) → alive' ≡ v → First (AllLive Tb) c b (rule_at K' b)
        go o true y = let w = u.some (owner_at c b - 1) (omega arith) y in record { owner = omega (arith, w.1); finishing = t.yes y }
        go o false y = absurd (omega (arith, u.none (inr (λ q. clash y q)), k.before (4 * b) (omega arith)))

    only : (q : ℕ) → b ≤ q → q < size → next_kind K' q ≡ 2 → First (AllLive Tb) c q (rule_at K' q)
    only q a l y = elim (ℕ_discrete q b) as (λ _. First (AllLive Tb) c q (rule_at K' q)) [
      | yes z ↦ subst (λ (v : ℕ). First (AllLive Tb) c v (rule_at K' v)) (sym z) (here (subst (λ (v : ℕ). next_kind K' v ≡ 2) z y))
      | no z ↦ (let w = later q a z in subst (First (AllLive Tb) c q) (sym w.1) (k.keyed.only q (omega arith) l (sym w.0 ∙ y)))
    ]

-- what is said of the dot before p
pub keying-tells : {Tb c K₀ K : List ℕ} {size p : ℕ} {alive : Bool} → Shape c size → Keying Tb c size K₀ K p alive → 0 < p → (next_kind c (p - 1) ≡ 0 → ⊥) → Tells Tb c (p - 1 + 1) alive
keying-tells {Tb} {c} {p = p} {alive = alive} s k h n =
    let l = s.nexts (p - 1) (omega (arith, k.low)) n in
    let e : p ≡ p - 1 + 1 = omega arith in
    subst (λ (q : ℕ). Tells Tb c q alive) e (k.tells (omega arith))

pub keying-end : {Tb c K₀ K : List ℕ} {size p : ℕ} {alive : Bool} → Keying Tb c size K₀ K p alive → (0 < p → ⊥) → Keyed Tb c size 0 K
keying-end {Tb} {c} {K = K} {size} {p} k n = subst (λ (q : ℕ). Keyed Tb c size q K) (let z : p ≡ 0 = omega (arith, n) in z) k.keyed

pub key_below : {Tb c K : List ℕ} {size : ℕ} → Tokened Tb c size → Keyed Tb c size 0 K → (p : ℕ) → p < size → next_kind K p ≡ 2 → rule_at K p < size
key_below {K = K} s k p h z = (s.shape.owners p (rule_at K p) h (k.only p (omega arith) h z).owner).0

-- a list made of the keys
module _ {Tb c K L : List ℕ} {size : ℕ} (s : Tokened Tb c size) (k : Keyed Tb c size 0 K) (u : Uses K size size L) (room : 2 * size ≤ length L) where
  keys : lists.Keyed K size 3 K
  keys = record { long = k.long; is = is; below = key_below s k }
    where
      is : (p e : ℕ) → p < size → lists.key_of K 3 p ≡ e + 1 → (next_kind K p ≡ 2) × (rule_at K p ≡ e)
      is p e h z =
          let w = key-use K p 3 (λ y. omega arith) (λ y. omega arith) (λ y. omega arith) in
          elim (ℕ_discrete (next_kind K p) 2) as (λ _. (next_kind K p ≡ 2) × (rule_at K p ≡ e)) [
            | yes y ↦ (y, omega (arith, use-some K p y))
            | no y ↦ absurd (omega (arith, use-none K p y))
          ]

  listed-is : {b e x v : ℕ} → b ≤ size → LastUse K e b x → Listed L x v → (v < b) × (next_kind K v ≡ 2) × (rule_at K v ≡ e)
  listed-is h l (l-here {u = v} z) = let i = l.is v z in (omega (arith, l.below), i.0, i.1)
  listed-is {b = b} {e = e} h l (l-next {x = x} {u = q} v z r) =
      let i = l.is v z in
      let n = subst (λ (d : ℕ). LastUse K d v (get_or L (2 * v + 1) 0)) i.1 (u.next v (omega (arith, l.below)) i.0) in
      let w = listed-is {b = v} (omega (arith, l.below)) n r in
      (omega (arith, w.0, l.below), w.1, w.2)

  pub firsts-of : Firsts Tb c size L
  firsts-of = record {
    linked = m.linked;
    all = λ q e h f. (let i = k.is q e (omega arith) h f in
        m.all q e h (key-use K q 3 (λ y. omega arith) (λ y. omega arith) (λ y. omega arith) ∙ use-some K q i.0 ∙ ap (λ (y : ℕ). y + 1) i.1));
    only = λ q e h l. (let w = listed-is (omega arith) (u.last e h) l in subst (First (AllLive Tb) c q) w.2 (k.only q (omega arith) w.0 w.1));
  }
    where
      m : lists.Members K 3 size L
      m = members u room keys
