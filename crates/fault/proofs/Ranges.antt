-- How far dots reach, one after the other.
use mathlib.Core.List.{List}
use native.Mathlib.Decide.{dec_lt}
use mathlib.Core.Logic.{inl, inr, ⊎_elim}
use mathlib.Core.Path.{◌≡◌, refl, sym, subst, ◌∙◌}
use Prim.Native.Nat.{ℕ, max, ◌+◌, ◌<◌, ◌≤◌}
use native.Mathlib.Decide.{ℕ_discrete}
use native.Mathlib.Omega.{arith}
use lib.ListN.{length}
use Rattle.text.specs.Lists.{Text}
use Rattle.chart.specs.Code.{next_kind}
use Rattle.stands.specs.State.{Stood, flag_at}
use Rattle.fault.specs.Far.{Begun, Ranging, Reached, Ranged, Reach}

-- what holds of the greater of two
pub greater_of : (P : ℕ → Type 0) {a b r : ℕ} → r ≡ max a b → (b < a → P a) → (a ≤ b → P b) → P r
greater_of P {a} {b} {r} e f g = elim (dec_lt b a) as (λ _. P r) [
  | yes l ↦ subst P (omega (arith, e, l)) (f l)
  | no n ↦ subst P (omega (arith, e, n)) (g (omega (arith, n)))
]

module _ {Tb c : List ℕ} {R : Text} {size i : ℕ} (g : Ranging Tb c R size i) where
  -- one number of characters is begun
  pub one-begun : {p a b : ℕ} → p < size → Begun Tb c R p i a → Begun Tb c R p i b → a ≡ b
  one-begun {p} {a} {b} h x y = elim (ℕ_discrete (next_kind c p) 1) as (λ _. a ≡ b) [
    | yes z ↦ (let here = g.tokened.here p h z in
        let w = g.tokened.is p here.terminal h z here.is in
        x.terminal z here.terminal w ∙ sym (y.terminal z here.terminal w))
    | no z ↦ x.other z ∙ sym (y.other z)
  ]

  module _ {W : List ℕ} {p : ℕ} (h : p < size) where
    pub ranged-free : {best : ℕ} → 2 ≤ flag_at W p i → Ranged Tb c R W size i p (p + 1) best best
    ranged-free l = record {
      low = omega arith;
      within = λ z. z;
      most = λ q k a b f. absurd (let z : q ≡ p = omega arith in omega (arith, subst (λ (y : ℕ). Stood W y i) z f.stood));
      is = inl refl;
    }

    module _ {b : ℕ} (s : flag_at W p i < 2) (x : Begun Tb c R p i b) where
      most-here : (q k : ℕ) → p ≤ q → q < p + 1 → Reached Tb c R W size q i k → k ≡ i + b
      most-here q k a l f =
          let z : q ≡ p = omega arith in
          let e = one-begun h (subst (λ (y : ℕ). Begun Tb c R y i f.count) z f.begun) x in
          omega (arith, f.is, e)

      ranged-less : {best : ℕ} → i + b < best → Ranged Tb c R W size i p (p + 1) best best
      ranged-less l = record { low = omega arith; within = λ z. z; most = λ q k a m f. omega (arith, most-here q k a m f); is = inl refl }

      ranged-more : {best : ℕ} → best ≤ i + b → i + b ≤ length R → Ranged Tb c R W size i p (p + 1) best (i + b)
      ranged-more l m = record {
        low = l;
        within = λ _. m;
        most = λ q k a n f. omega (arith, most-here q k a n f);
        is = inr (p, record { inside = h; stood = s; count = b; begun = x; is = refl });
      }

      pub ranged-greater : {best r : ℕ} → i + b ≤ length R → r ≡ max best (i + b) → Ranged Tb c R W size i p (p + 1) best r
      ranged-greater {best} m e = greater_of (Ranged Tb c R W size i p (p + 1) best) e ranged-less (λ l. ranged-more l m)

module _ {Tb c : List ℕ} {R : Text} {W : List ℕ} {size i : ℕ} where
  pub ranged-none : {best : ℕ} → Ranged Tb c R W size i 0 0 best best
  ranged-none = record { low = omega arith; within = λ z. z; most = λ p k a b. absurd (omega arith); is = inl refl }

  pub ranged-join : {p best far r : ℕ} → Ranged Tb c R W size i 0 p best far → Ranged Tb c R W size i p (p + 1) far r → Ranged Tb c R W size i 0 (p + 1) best r
  ranged-join {p} {best} {far} {r} a b = record {
    low = omega (arith, a.low, b.low);
    within = λ z. b.within (a.within z);
    most = λ q k l h f. elim (ℕ_discrete q p) as (λ _. k ≤ r) [ yes z ↦ b.most q k (omega arith) h f | no z ↦ omega (arith, a.most q k l (omega arith) f, b.low) ];
    is = ⊎_elim (λ e. ⊎_elim (λ d. inl (e ∙ d)) (λ d. inr (d.0, subst (Reached Tb c R W size d.0 i) (sym e) d.1)) a.is) inr b.is;
  }

  pub ranged-end : {p best r : ℕ} → p ≡ size → Ranged Tb c R W size i 0 p best r → Ranged Tb c R W size i 0 size best r
  ranged-end {best = best} {r = r} z a = subst (λ (y : ℕ). Ranged Tb c R W size i 0 y best r) z a

module _ {Tb c : List ℕ} {R : Text} {W : List ℕ} {size : ℕ} where
  pub reach-none : Reach Tb c R W size 0 0
  reach-none = record { within = omega arith; most = λ p i k h. absurd (omega arith); is = inl refl }

  pub reach-join : {i far r : ℕ} → Reach Tb c R W size i far → Ranged Tb c R W size i 0 size far r → Reach Tb c R W size (i + 1) r
  reach-join {i} {far} {r} a b = record {
    within = b.within a.within;
    most = λ p k m h f. elim (ℕ_discrete k i) as (λ _. m ≤ r) [
      | yes z ↦ b.most p m (omega arith) f.inside (subst (λ (y : ℕ). Reached Tb c R W size p y m) z f)
      | no z ↦ omega (arith, a.most p k m (omega arith) f, b.low)
    ];
    is = ⊎_elim
        (λ e. ⊎_elim (λ d. inl (e ∙ d)) (λ d. inr (d.0, d.1, omega (arith, d.2), subst (Reached Tb c R W size d.0 d.1) (sym e) d.3)) a.is)
        (λ d. inr (d.0, i, omega arith, d.1)) b.is;
  }

  pub reach-end : (n : ℕ) {i r : ℕ} → i ≡ n + 1 → Reach Tb c R W size i r → Reach Tb c R W size (n + 1) r
  reach-end n {r = r} z a = subst (λ (y : ℕ). Reach Tb c R W size y r) z a

pub ranging-at : {Tb c : List ℕ} {R : Text} {size j : ℕ} (i : ℕ) → Ranging Tb c R size j → i ≤ length R → Ranging Tb c R size i
ranging-at i g h = record { tokened = g.tokened; short = g.short; on = h }
