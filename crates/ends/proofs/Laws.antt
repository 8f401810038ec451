-- Sound steps.
use mathlib.Core.Bool.{Bool, true, false, ◌||◌, true≢false}
use mathlib.Core.List.{List}
use mathlib.Core.Logic.{inl, inr, ⊎_elim}
use mathlib.Core.Path.{◌≡◌, refl, sym, subst, ◌∙◌}
use Prim.Native.Nat.{ℕ, ◌+◌, ◌<◌, ◌≤◌}
use native.Mathlib.Decide.{dec_lt}
use native.Mathlib.Omega.{arith}
use Rattle.bits.specs.Bits.{Has}
use Rattle.chart.specs.Code.{next_kind, rule_at}
use Rattle.reach.specs.Flags.{Begins}
use Rattle.ends.specs.Spans.{OnList, Steps, by-terminal, by-symbol, Spans}
use Rattle.moves.specs.Moves.{Derived, Move, move-terminal, move-symbol, Moved}
use Rattle.ends.specs.Table.{Ground, Begun, Sound, Finished, Cleared, Settling, Settled, Opened, SoundFrom}
use Rattle.ends.proofs.Reach.{arrived}

-- a step from places that are reached from the rule's first dot q
module _ {c L M : List ℕ} {size n main m e q : ℕ} (g : Ground c L M size n main) (hm : m ≤ n) (he : e < size) (o : OnList L e q) (b : Begins M e m) where
  moved-one : {t : List ℕ} → Sound c L M size n m size t → {p y z : ℕ} → Steps c L M n q m p y → Move c M n t p y z → Steps c L M n q m (p + 1) z
  moved-one s {p} {y} w (move-terminal k l) = subst (λ (v : ℕ). Steps c L M n q m (p + 1) v) (sym l.is) (by-terminal w k l.fits l.within)
  moved-one s {p} {y} {z} w (move-symbol k l d) =
      let a = arrived g.shape g.linked g.flows e he hm o b w in
      let h = (g.shape.names p a.inside k).0 in
      let r = s.is (rule_at c p) y z h l (g.flows.begin p y a.inside l k a.used) (begun h a.order) d in
      by-symbol w k r.listed r.steps r.end
    where
      begun : {e' y : ℕ} → e' < size → m ≤ y → Begun m size e' y
      begun {e'} {y} h l = elim (dec_lt m y) as (λ _. Begun m size e' y) [
        | yes u ↦ inl u
        | no u ↦ inr (omega arith, h)
      ]

  pub moved-steps : {t S : List ℕ} {p : ℕ} → Sound c L M size n m size t → ((x : ℕ) → Has S x → Steps c L M n q m p x) → (z : ℕ) → Moved c M n t p S z → Steps c L M n q m (p + 1) z
  moved-steps s f z w = moved-one s (f w.from w.has) w.move

  pub finished-sound : {t t' S : List ℕ} {p : ℕ} → Sound c L M size n m size t → next_kind c p ≡ 0 → ((x : ℕ) → Has S x → Steps c L M n q m p x) → {r : Bool} → Finished n t t' e m S r
      → Sound c L M size n m size t'
  finished-sound {t} {S = S} {p = p} s k f w = record { is = λ e' x j h l u v d. ⊎_elim (s.is e' x j h l u v) (new e' x j) (w.is e' x j l d) }
    where
      new : (e' x j : ℕ) → (e' ≡ e) × (x ≡ m) × Has S j → Spans c L M n e' x j
      new e' x j z = subst (λ (v : ℕ). Spans c L M n v x j) (sym z.0) (subst (λ (v : ℕ). Spans c L M n e v j) (sym z.1)
          (record { first = q; last = p; listed = o; steps = f j z.2; end = k }))

pub ground-as : {c L M : List ℕ} {size n a b : ℕ} → b ≡ a → Ground c L M size n a → Ground c L M size n b
ground-as {c} {L} {M} {size} {n} e g = subst (Ground c L M size n) (sym e) g

pub settled-start : {c L M : List ℕ} {size n m : ℕ} {t : List ℕ} → Settling c L M size n m t → Settled c L M size n m t t
settled-start s = record { long = refl; sound = s.sound; kept = λ e x j d. d }

pub settled-join : {c L M : List ℕ} {size n m : ℕ} {t t' t'' : List ℕ} → Settled c L M size n m t t' → Settled c L M size n m t' t'' → Settled c L M size n m t t''
settled-join a b = record { long = b.long ∙ a.long; sound = b.sound; kept = λ e x j d. b.kept e x j (a.kept e x j d) }

pub settling-as : {c L M : List ℕ} {size n m : ℕ} {t t' : List ℕ} → Settling c L M size n m t → Settled c L M size n m t t' → Settling c L M size n m t'
settling-as s w = record { ground = ground-as w.long s.ground; sound = w.sound; on = s.on }

-- the row of a rule that may not begin is begun; so is one that was cleared
pub opened-none : {M : List ℕ} {size n m e : ℕ} {t : List ℕ} → (Begins M e m → ⊥) → Opened M size n m e (e + 1) t t false
opened-none {M} {size} {n} {m} {e} {t} f = record {
  long = refl;
  kept = λ e x j h l d. d;
  none = λ z e' l h b. f (subst (λ (y : ℕ). Begins M y m) (let w : e' ≡ e = omega (arith, l, h) in w) b);
  sound = λ c L s. record {
    is = λ e' x j h l b u d. ⊎_elim (λ z. s.is e' x j h l b (inl z) d)
        (λ z. go c L s e' x j h l b d z.0 z.1 (dec_lt e' e)) u;
  };
}
  where
    go : (c L : List ℕ) → Sound c L M size n m e t → (e' x j : ℕ) → e' < size → x ≤ n → Begins M e' x → Derived n t e' x j → x ≡ m → e' < e + 1 → Dec (e' < e) → Spans c L M n e' x j
    go c L s e' x j h l b d p q (yes z) = s.is e' x j h l b (inr (p, z)) d
    go c L s e' x j h l b d p q (no z) = absurd (f (subst (λ (y : ℕ). Begins M y m) (let w : e' ≡ e = omega arith in w) (subst (Begins M e') p b)))

pub opened-clear : {M : List ℕ} {size n m e : ℕ} {t t' : List ℕ} → Cleared n t t' e m → Opened M size n m e (e + 1) t t' true
opened-clear {M} {size} {n} {m} {e} {t} {t'} w = record {
  long = w.long;
  kept = w.kept;
  none = λ z. absurd (true≢false z);
  sound = λ c L s. record {
    is = λ e' x j h l b u d. ⊎_elim
        (λ z. s.is e' x j h l b (inl z) (w.same e' x j l d)) (λ z. go c L s e' x j h l b d z.0 z.1 (dec_lt e' e)) u;
  };
}
  where
    go : (c L : List ℕ) → Sound c L M size n m e t → (e' x j : ℕ) → e' < size → x ≤ n → Begins M e' x → Derived n t' e' x j → x ≡ m → e' < e + 1 → Dec (e' < e) → Spans c L M n e' x j
    go c L s e' x j h l b d p q (yes z) = s.is e' x j h l b (inr (p, z)) (w.same e' x j l d)
    go c L s e' x j h l b d p q (no z) = absurd (w.none j (subst (λ (y : ℕ). Derived n t' y m j) (let v : e' ≡ e = omega arith in v) (subst (λ (y : ℕ). Derived n t' e' y j) p d)))

pub opened-start : {M : List ℕ} {size n m a : ℕ} {t : List ℕ} → Opened M size n m a a t t false
opened-start = record { long = refl; kept = λ e x j h l d. d; none = λ z e l h. absurd (omega (arith, l, h)); sound = λ c L s. s }

pub neither : (a b : Bool) {r : Bool} → r ≡ (a || b) → r ≡ false → (a ≡ false) × (b ≡ false)
neither true b e z = absurd (true≢false (sym e ∙ z))
neither false b e z = (refl, sym e ∙ z)

pub opened-join : {M : List ℕ} {size n m a b d : ℕ} {t t' t'' : List ℕ} (r s : Bool) {u : Bool} → Opened M size n m a b t t' r → Opened M size n m b d t' t'' s → u ≡ (r || s)
    → Opened M size n m a d t t'' u
opened-join {M} {size} {n} {m} {a} {b} {d} r s {u} v w e = record {
  long = w.long ∙ v.long;
  kept = λ e x j h l y. w.kept e x j h l (v.kept e x j h l y);
  none = λ z i l h. go i l h (neither r s e z) (dec_lt i b);
  sound = λ c L s. w.sound c L (v.sound c L s);
}
  where
    go : (i : ℕ) → a ≤ i → i < d → (r ≡ false) × (s ≡ false) → Dec (i < b) → Begins M i m → ⊥
    go i l h z (yes y) = v.none z.0 i l y
    go i l h z (no y) = w.none z.1 i (omega (arith, y)) h

-- from one place to the one before it
pub sound-down : {c L M : List ℕ} {size n k : ℕ} {t : List ℕ} → SoundFrom c L M size n (k + 1) t → Sound c L M size n k 0 t
sound-down s = record { is = λ e x j h l b u d. s.is e x j h l b (⊎_elim (λ z. omega (arith, z)) (λ z. absurd (omega (arith, z.1))) u) d }

pub sound-up : {c L M : List ℕ} {size n m : ℕ} {t : List ℕ} → Sound c L M size n m size t → SoundFrom c L M size n m t
sound-up {size = size} {m = m} s = record { is = λ e x j h l b u d. s.is e x j h l b (go e x h u (dec_lt m x)) d }
  where
    go : (e x : ℕ) → e < size → m ≤ x → Dec (m < x) → Begun m size e x
    go e x h u (yes z) = inl z
    go e x h u (no z) = inr (omega arith, h)

pub sound_none : {c L M : List ℕ} {size n : ℕ} {t : List ℕ} → SoundFrom c L M size n (n + 1) t
sound_none = record { is = λ e x j h l b u d. absurd (omega (arith, l, u)) }
