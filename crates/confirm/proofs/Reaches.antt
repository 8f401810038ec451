-- How far dots reach.
use mathlib.Core.Bool.{Bool, true}
use mathlib.Core.List.{List}
use mathlib.Core.Logic.{◌⊎◌, inl, inr, ⊎_elim}
use mathlib.Core.Path.{◌≡◌, refl, sym, subst, ◌∙◌}
use Rattle.fault.proofs.Ranges.{greater_of}
use Prim.Native.Nat.{max, ℕ, ◌+◌, ◌*◌, ◌/◌, ◌%◌, ◌<◌, ◌≤◌}
use native.Mathlib.Decide.{dec_lt}
use native.Mathlib.Omega.{arith}
use lib.ListN.{length, get_or}
use Rattle.text.specs.Lists.{Text}
use Rattle.bits.specs.Bits.{Lit}
use Rattle.bits.proofs.Laws.{lit-zero}
use Rattle.fault.specs.Far.{Begun, Ranging}
use Rattle.fault.proofs.Ranges.{one-begun}
use Rattle.fault.specs.Firsts.{Firsts}
use Rattle.ends.specs.Table.{Ground}
use Rattle.standing.specs.Stood.{Stood}
use Rattle.standing.specs.Sets.{Member, Exact}
use Rattle.confirm.specs.Find.{Touch, Hit, Best, One, Words, Confirming, Confirmed}

module _ {Tb c : List ℕ} {R : Text} where
  pub one_none : {p x best : ℕ} {on : Bool} → (on ≡ true → x ≤ length R → ⊥) → One Tb c R p x on best best
  one_none f = record { within = λ h. h; is = inl refl; low = omega arith; most = λ e l. absurd (f e l) }

  -- what the dot reaches at the place is at most r
  touched : {size p x b r : ℕ} → Ranging Tb c R size x → p < size → Begun Tb c R p x b → x + b ≤ r → (k : ℕ) → Touch Tb c R p x k → k ≤ r
  touched g h e m k t = omega (arith, one-begun g h e t.begun, t.is, m)

  one-old : {size p x best b : ℕ} {on : Bool} → Ranging Tb c R size x → p < size → Begun Tb c R p x b → x + b ≤ best → One Tb c R p x on best best
  one-old g h e m = record { within = λ h. h; is = inl refl; low = omega arith; most = λ _ _. touched g h e m }

  one-new : {size p x best b : ℕ} {on : Bool} → Ranging Tb c R size x → p < size → Begun Tb c R p x b → x + b ≤ length R → best ≤ x + b → on ≡ true → One Tb c R p x on best (x + b)
  one-new {b = b} g h e l m o = record {
    within = λ _. l;
    is = inr (o, g.on, record { count = b; begun = e; is = refl });
    low = m;
    most = λ _ _. touched g h e (omega arith);
  }

  pub one-greater : {size p x best b r : ℕ} {on : Bool} → Ranging Tb c R size x → p < size → Begun Tb c R p x b → x + b ≤ length R → on ≡ true → r ≡ max best (x + b)
      → One Tb c R p x on best r
  one-greater {p = p} {x = x} {best = best} {on = on} g h e l o z =
      greater_of (One Tb c R p x on best) z (λ m. one-old g h e (omega arith)) (λ m. one-new g h e l m o)

  pub words-start : {p v word best : ℕ} → Words Tb c R p v word 0 best best
  words-start = record { within = λ h. h; is = inl refl; low = omega arith; most = λ d k h. absurd (omega (arith, h)) }

  pub words-none : {p v word b best : ℕ} → word ≡ 0 → Words Tb c R p v word b best best
  words-none e = record { within = λ h. h; is = inl refl; low = omega arith; most = λ d k h l. absurd (lit-zero e l) }

  pub words-next : {p v word best r s b x : ℕ} {on : Bool} → b < 32 → x ≡ 32 * v + b → (on ≡ true → Lit word b) → (Lit word b → on ≡ true) → Words Tb c R p v word b best r
      → One Tb c R p x on r s → Words Tb c R p v word (b + 1) best s
  words-next {p} {v} {word} {best} {r} {s} {b} {x} {on} h i f g w o = record {
    within = λ l. o.within (w.within l);
    is = ⊎_elim (λ e. old e w.is) (λ z. inr (b, h, f z.0, omega (arith, z.1, i), subst (λ (y : ℕ). Touch Tb c R p y s) i z.2)) o.is;
    low = omega (arith, w.low, o.low);
    most = λ d k l y u t. go d k l y u t (dec_lt d b);
  }
    where
      old : s ≡ r → (r ≡ best) ⊎ ((b : ℕ) × (b < 32) × Lit word b × (32 * v + b ≤ length R) × Touch Tb c R p (32 * v + b) r)
          → (s ≡ best) ⊎ ((b : ℕ) × (b < 32) × Lit word b × (32 * v + b ≤ length R) × Touch Tb c R p (32 * v + b) s)
      old e (inl q) = inl (e ∙ q)
      old e (inr q) = inr (q.0, q.1, q.2, q.3, subst (Touch Tb c R p (32 * v + q.0)) (sym e) q.4)

      go : (d k : ℕ) → d < b + 1 → Lit word d → 32 * v + d ≤ length R → Touch Tb c R p (32 * v + d) k → Dec (d < b) → k ≤ s
      go d k l y u t (yes z) = omega (arith, w.most d k z y u t, o.low)
      go d k l y u t (no z) =
          let e : d ≡ b = omega (arith, l, z) in
          o.most (g (subst (Lit word) e y)) (omega (arith, u, e, i)) k (subst (λ (j : ℕ). Touch Tb c R p j k) (let q : 32 * v + d ≡ x = omega (arith, e, i) in q) t)

  pub words-end : {p v word b best r : ℕ} → 32 ≤ b → Words Tb c R p v word b best r → Words Tb c R p v word 32 best r
  words-end h w = record { within = w.within; is = w.is; low = w.low; most = λ d k l. w.most d k (omega (arith, l, h)) }

  pub best-start : {size : ℕ} {S : List ℕ} {P : ℕ → ℕ → Type 0} {best : ℕ} → ((p i : ℕ) → P p i → ⊥) → Best Tb c R size S P best best
  best-start f = record { within = λ h. h; is = inl refl; low = omega arith; most = λ p i k x. absurd (f p i x) }

  pub best-join : {size : ℕ} {S : List ℕ} {P Q : ℕ → ℕ → Type 0} (W : ℕ → ℕ → Type 0) {a r s : ℕ} → Best Tb c R size S P a r → Best Tb c R size S Q r s
      → ((p i : ℕ) → i < 256 → W p i → P p i ⊎ Q p i) → Best Tb c R size S W a s
  best-join {size} {S} W {a} {r} {s} v w f = record {
    within = λ l. w.within (v.within l);
    is = ⊎_elim
        (λ e. ⊎_elim (λ q. inl (e ∙ q)) (λ q. inr (subst (Hit Tb c R size S) (sym e) q)) v.is) inr w.is;
    low = omega (arith, v.low, w.low);
    most = λ p i k x l m t. ⊎_elim (λ z. (let y = v.most p i k z l m t in omega (arith, y, w.low))) (λ z. w.most p i k z l m t) (f p i m.low x);
  }

  pub words-best : {size : ℕ} (S : List ℕ) {p v a r : ℕ} → p < size → v < 8 → Words Tb c R p v (get_or S (8 * p + v) 0) 32 a r → Best Tb c R size S (λ q i. (q ≡ p) × (i / 32 ≡ v)) a r
  words-best {size} S {p} {v} {a} {r} h l w = record { within = w.within; is = ⊎_elim inl (λ z. inr (hit z)) w.is; low = w.low; most = most }
    where
      hit : (b : ℕ) × (b < 32) × Lit (get_or S (8 * p + v) 0) b × (32 * v + b ≤ length R) × Touch Tb c R p (32 * v + b) r → Hit Tb c R size S r
      hit z = record {
        dot = p;
        place = 32 * v + z.0;
        inside = h;
        on = z.3;
        member = record {
          low = omega (arith, l, z.1);
          lit = subst (λ (k : ℕ). Lit (get_or S (8 * p + k) 0) ((32 * v + z.0) % 32)) (let q : v ≡ (32 * v + z.0) / 32 = omega (arith, z.1) in q)
              (subst (Lit (get_or S (8 * p + v) 0)) (let q : z.0 ≡ (32 * v + z.0) % 32 = omega (arith, z.1) in q) z.2);
        };
        touch = z.4;
      }

      most : (q i k : ℕ) → (q ≡ p) × (i / 32 ≡ v) → i ≤ length R → Member S q i → Touch Tb c R q i k → k ≤ r
      most q i k x u m t =
          let e : i ≡ 32 * v + i % 32 = omega (arith, x.1) in
          let at : 8 * q + i / 32 ≡ 8 * p + v = omega (arith, x.0, x.1) in
          w.most (i % 32) k (omega arith) (subst (λ (j : ℕ). Lit (get_or S j 0) (i % 32)) at m.lit) (omega (arith, e, u))
          (subst (λ (j : ℕ). Touch Tb c R p j k) e (subst (λ (j : ℕ). Touch Tb c R j i k) x.0 t))

  -- the numbers of a row before v; the rows before p
  pub row_next : {size : ℕ} {S : List ℕ} {p v a r s : ℕ} → Best Tb c R size S (λ q i. (q ≡ p) × (i / 32 < v)) a r → Best Tb c R size S (λ q i. (q ≡ p) × (i / 32 ≡ v)) r s
      → Best Tb c R size S (λ q i. (q ≡ p) × (i / 32 < v + 1)) a s
  row_next {p = p} {v} a b = best-join (λ q i. (q ≡ p) × (i / 32 < v + 1)) a b (λ q i l x. go q i x (dec_lt (i / 32) v))
    where
      go : (q i : ℕ) → (q ≡ p) × (i / 32 < v + 1) → Dec (i / 32 < v) → ((q ≡ p) × (i / 32 < v)) ⊎ ((q ≡ p) × (i / 32 ≡ v))
      go q i x (yes z) = inl (x.0, z)
      go q i x (no z) = inr (x.0, omega (arith, x.1, z))

  pub row-end : {size : ℕ} {S : List ℕ} {p v a r : ℕ} → 8 ≤ v → Best Tb c R size S (λ q i. (q ≡ p) × (i / 32 < v)) a r → Best Tb c R size S (λ q i. q ≡ p) a r
  row-end h b = record { within = b.within; is = b.is; low = b.low; most = λ q i k x l m t. b.most q i k (x, omega (arith, m.low, h)) l m t }

  pub rows_next : {size : ℕ} {S : List ℕ} {p a r s : ℕ} → Best Tb c R size S (λ q i. q < p) a r → Best Tb c R size S (λ q i. q ≡ p) r s → Best Tb c R size S (λ q i. q < p + 1) a s
  rows_next {p = p} a b = best-join (λ q i. q < p + 1) a b (λ q i l x. go q x (dec_lt q p))
    where
      go : (q : ℕ) → q < p + 1 → Dec (q < p) → (q < p) ⊎ (q ≡ p)
      go q x (yes z) = inl z
      go q x (no z) = inr (omega (arith, x, z))

  pub rows_end : {size : ℕ} {S : List ℕ} {p a r : ℕ} → size ≤ p → Best Tb c R size S (λ q i. q < p) a r → Best Tb c R size S (λ q i. q < size) a r
  rows_end h b = record { within = b.within; is = b.is; low = b.low; most = λ q i k x l m t. b.most q i k (omega (arith, x, h)) l m t }

  -- what is reached, and nothing farther
  pub confirmed : {L M S : List ℕ} {size n top r : ℕ} → n ≡ length R → size ≤ 512 → Firsts Tb c size L → Exact c L M size n top S → Best Tb c R size S (λ q i. q < size) 0 r
      → Confirmed Tb R c M size top r
  confirmed {L} {M} {S} {size} {n} {top} {r} e h f s w = record {
    firsts = L;
    listed = f;
    is = ⊎_elim inl (λ z. inr (
      z.dot,
      z.place,
      z.inside,
      z.on,
      subst (λ (y : ℕ). Stood c L M y top z.dot z.place) e
          (s.told.dots z.dot z.place (omega (arith, z.inside, h)) z.member),
      z.touch,
    )) w.is;
    most = λ p i k l o z t. w.most p i k l o (s.all p i (subst (λ (y : ℕ). Stood c L M y top p i) (sym e) z)) t;
  }

pub ground-for : {Tb : List ℕ} {R : Text} {c M F L : List ℕ} {size n top main : ℕ} → Confirming Tb R c M F size n top main → Firsts Tb c size L → Ground c L M size n main
ground-for {L = L} w f = record { shape = w.tokened.shape; linked = f.linked; flows = w.flows L f; short = omega (arith, w.long, w.short); marks-long = w.marks-long; room = w.room }
