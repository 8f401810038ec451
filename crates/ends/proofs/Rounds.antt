-- Rows that are closed have all ends.
use mathlib.Core.Bool.{Bool, false, ◌||◌}
use mathlib.Core.List.{List}
use mathlib.Core.Logic.{◌⊎◌, inl, inr}
use mathlib.Core.Path.{◌≡◌, refl, sym, ap, subst, ◌∙◌}
use Prim.Native.Nat.{ℕ, ◌+◌, ◌*◌, ◌-◌, ◌<◌, ◌≤◌}
use native.Mathlib.Decide.{dec_lt}
use native.Mathlib.Omega.{arith}
use lib.ListN.{length, get_or}
use Rattle.bits.specs.Bits.{Has, Grows}
use Rattle.bits.proofs.Grows.{grows_start, grows-join}
use Rattle.chart.specs.Code.{next_kind, rule_at}
use Rattle.reach.specs.Flags.{Begins}
use Rattle.reach.specs.Work.{Listed, l-here, l-next}
use Rattle.moves.specs.Moves.{Derived, Move, move-terminal, move-symbol, Stepped}
use Rattle.ends.specs.Spans.{OnList, Steps, here, by-terminal, by-symbol, Spans}
use Rattle.ends.specs.Table.{Ground, Sound, Led, Trying, Rest, rest_end, rest-step, Closed, Finished, Tried, Settling, Settled, Redone, Rounded, Closing, Opened, SoundFrom, CompleteFrom}
use Rattle.ends.specs.Table.{Filled}
use Rattle.ends.proofs.Reach.{Arrived, arrived}
use Rattle.ends.proofs.Laws.{neither, settled-start, settled-join, ground-as, moved-steps, finished-sound, sound_none, sound-down, sound-up}

-- if all that goes on from the places of a set at p ends in the row, so does all from q at m
pub record Leads (c M : List ℕ) (n : ℕ) (t : List ℕ) (e m q p : ℕ) (S : List ℕ) : Type 0 where
  pub by : ((x j : ℕ) → Has S x → Rest c M n t p x j → Derived n t e m j) → (j : ℕ) → Rest c M n t q m j → Derived n t e m j

module _ {c M : List ℕ} {n : ℕ} {t : List ℕ} {e m q : ℕ} where
  pub leads-start : {size p x : ℕ} {S : List ℕ} → Led c M size n m q p x → Has S x → Leads c M n t e m q p S
  leads-start {x = x} l h = record { by = λ f j r. f x j h (l.rest t j r).1 }

  pub leads-step : {p : ℕ} {S S' : List ℕ} → (next_kind c p ≡ 0 → ⊥) → Stepped c M n t p S S' → Leads c M n t e m q p S → Leads c M n t e m q (p + 1) S'
  leads-step {p} {S} {S'} k s l = record { by = λ f. l.by (λ x j h r. go f h r) }
    where
      go : ((x j : ℕ) → Has S' x → Rest c M n t (p + 1) x j → Derived n t e m j) → {x j : ℕ} → Has S x → Rest c M n t p x j → Derived n t e m j
      go f h (rest_end z) = absurd (k z)
      go f {x} {j} h (rest-step {z = z} y r) = f z j (s.all z (record { from = x; has = h; move = y })) r

  pub leads-none : {p : ℕ} {S : List ℕ} → ((x : ℕ) → Has S x → ⊥) → Leads c M n t e m q p S → (j : ℕ) → Rest c M n t q m j → Derived n t e m j
  leads-none f l = l.by (λ x j h r. absurd (f x h))

  pub leads-end : {p : ℕ} {S : List ℕ} → next_kind c p ≡ 0 → ((x : ℕ) → Has S x → Derived n t e m x) → Leads c M n t e m q p S → (j : ℕ) → Rest c M n t q m j → Derived n t e m j
  leads-end {p} {S} k f l = l.by (λ x j h r. go h r)
    where
      none : {y z : ℕ} → Move c M n t p y z → ⊥
      none (move-terminal i w) = omega (arith, i, k)
      none (move-symbol i w d) = omega (arith, i, k)

      go : {x j : ℕ} → Has S x → Rest c M n t p x j → Derived n t e m j
      go {x} h (rest_end z) = f x h
      go h (rest-step y r) = absurd (none y)

-- an alternative that adds nothing
tried-still : {c M : List ℕ} {size n m e q : ℕ} {t : List ℕ} → ((j : ℕ) → Rest c M n t q m j → Derived n t e m j) → Tried c M size n m e q t t false
tried-still f = record { long = refl; kept = λ e x j d. d; grows = grows_start; closed = λ _. f; sound = λ L g o s. s }

pub tried-nowhere : {c M : List ℕ} {size n m e q p x : ℕ} {t : List ℕ} → Led c M size n m q p x → n < x → Tried c M size n m e q t t false
tried-nowhere {t = t} l h = tried-still (λ j r. absurd (omega (arith, h, (l.rest t j r).0)))

-- an alternative that goes no further, and one that comes to its end
module _ {c M : List ℕ} {size n m e q : ℕ} {t : List ℕ} (pre : Trying c M size n m e q t) where
  reached : {p x : ℕ} → Steps c pre.lists M n q m p x → Arrived c M size n e m p x
  reached s = arrived pre.ground.shape pre.ground.linked pre.ground.flows e pre.inside pre.on pre.listed pre.begins s

  pub tried-none : {p : ℕ} {S S' : List ℕ} → ((x : ℕ) → Has S x → Steps c pre.lists M n q m p x) → (next_kind c p ≡ 0 → ⊥) → Stepped c M n t p S S' → ((x : ℕ) → x < 256 → Has S' x → ⊥)
      → Leads c M n t e m q p S → Tried c M size n m e q t t false
  tried-none {p} {S} {S'} f k s none l = tried-still (leads-none (λ x h. none x (low x h) h) (leads-step k s l))
    where
      low : (x : ℕ) → Has S' x → x < 256
      low x h = omega (arith, (reached (moved-steps pre.ground pre.on pre.inside pre.listed pre.begins pre.sound f x (s.is x h))).on, pre.ground.short)

  pub tried-end : {p : ℕ} {S t' : List ℕ} {r : Bool} → ((L : List ℕ) → Ground c L M size n (length t) → OnList L e q → Sound c L M size n m size t → (x : ℕ) → Has S x → Steps c L M n q m p x)
      → next_kind c p ≡ 0 → Finished n t t' e m S r → Leads c M n t e m q p S → Tried c M size n m e q t t' r
  tried-end {p} {S} {t'} f k w l = record {
    long = w.long;
    kept = w.kept;
    grows = w.grows;
    closed = λ z. leads-end k (λ x h. subst (λ (v : List ℕ). Derived n v e m x) (w.grows.still z) (ends x h)) l;
    sound = λ L g o s. finished-sound g pre.on pre.inside o pre.begins s k (f L g o s) w;
  }
    where
      ends : (x : ℕ) → Has S x → Derived n t' e m x
      ends x h = let a = reached (f pre.lists pre.ground pre.listed pre.sound x h) in w.all x h a.order a.on

-- the dots of the rule's list that are still to come from x on, or are done
pub record Trials (c L M : List ℕ) (size n m e x : ℕ) (t t' : List ℕ) (g : Bool) : Type 0 where
  pub settled : Settled c L M size n m t t'
  pub grows : Grows t t' g
  pub closed : g ≡ false → (q : ℕ) → OnList L e q → Listed L x q ⊎ ((j : ℕ) → Rest c M n t q m j → Derived n t e m j)

module _ {c L M : List ℕ} {size n m e : ℕ} where
  pub trials-start : {x : ℕ} {t : List ℕ} → x ≡ get_or L (2 * e) 0 → Settling c L M size n m t → Trials c L M size n m e x t t false
  trials-start {x} i s = record { settled = settled-start s; grows = grows_start; closed = λ z q o. inl (subst (λ (v : ℕ). Listed L v q) (sym i) o) }

  pub trials-next : {x y : ℕ} {t₀ t t' : List ℕ} (g b : Bool) {g' : Bool} → Ground c L M size n (length t₀) → OnList L e (x - 1) → 0 < x → y ≡ get_or L (2 * x - 1) 0
      → Trials c L M size n m e x t₀ t g → Tried c M size n m e (x - 1) t t' b → g' ≡ (g || b) → Trials c L M size n m e y t₀ t' g'
  trials-next {x} {y} {t₀} {t} {t'} g b {g'} w o h i s d z = record {
    settled = record {
      long = d.long ∙ s.settled.long;
      sound = d.sound L (ground-as s.settled.long w) o s.settled.sound;
      kept = λ e x j v. d.kept e x j (s.settled.kept e x j v);
    };
    grows = grows-join g b s.grows d.grows z;
    closed = λ k q u. (let n = neither g b z k in done n.0 n.1 q (s.closed n.0 q u));
  }
    where
      link : 2 * (x - 1) + 1 ≡ 2 * x - 1
      link = omega (arith, h)

      done : g ≡ false → b ≡ false → (q : ℕ) → Listed L x q ⊎ ((j : ℕ) → Rest c M n t₀ q m j → Derived n t₀ e m j) → Listed L y q ⊎ ((j : ℕ) → Rest c M n t₀ q m j → Derived n t₀ e m j)
      done f k q (inr v) = inr v
      done f k q (inl (l-here a)) = inr (λ j r. (let at = s.grows.still f in
          subst (λ (v : List ℕ). Derived n v e m j) at (d.closed k j (subst (λ (v : List ℕ). Rest c M n v (x - 1) m j) (sym at)
          (subst (λ (v : ℕ). Rest c M n t₀ v m j) (let w : q ≡ x - 1 = omega (arith, a) in w) r)))))
      done f k q (inl (l-next v a r)) = inl (subst (λ (u : ℕ). Listed L u q)
          (sym (i ∙ ap (λ (u : ℕ). get_or L u 0) (let w : 2 * x - 1 ≡ 2 * v + 1 = omega (arith, a) in w))) r)

  pub trials-end : {x : ℕ} {t t' : List ℕ} {g : Bool} → x ≡ 0 → Trials c L M size n m e x t t' g → Redone c L M size n m e t t' g
  trials-end {x} {t} i s = record { settled = s.settled; grows = s.grows; closed = λ z b. record { is = λ q j o. go q j (s.closed z q o) } }
    where
      go : (q j : ℕ) → Listed L x q ⊎ ((j : ℕ) → Rest c M n t q m j → Derived n t e m j) → Rest c M n t q m j → Derived n t e m j
      go q j (inr v) = v j
      go q j (inl (l-here a)) = absurd (omega (arith, a, i))
      go q j (inl (l-next v a r)) = absurd (omega (arith, a, i))

  pub redone-none : {t : List ℕ} → Settling c L M size n m t → (Begins M e m → ⊥) → Redone c L M size n m e t t false
  redone-none s f = record { settled = settled-start s; grows = grows_start; closed = λ z b. absurd (f b) }

module _ {c L M : List ℕ} {size n m : ℕ} where
  pub rounded-start : {t : List ℕ} → Settling c L M size n m t → Rounded c L M size n m size t t false
  rounded-start s = record { settled = settled-start s; grows = grows_start; closed = λ z e l h. absurd (omega (arith, l, h)) }

  pub rounded-next : {e k : ℕ} {t t' t'' : List ℕ} (g b : Bool) {g' : Bool} → Rounded c L M size n m k t t' g → Redone c L M size n m e t' t'' b → k ≡ e + 1 → g' ≡ (g || b)
      → Rounded c L M size n m e t t'' g'
  rounded-next {e} {k} {t} {t'} {t''} g b v w s z = record {
    settled = settled-join v.settled w.settled;
    grows = grows-join g b v.grows w.grows z;
    closed = λ y i l h u. (let n = neither g b z y in go n.0 n.1 i l h u (dec_lt e i));
  }
    where
      go : g ≡ false → b ≡ false → (i : ℕ) → e ≤ i → i < size → Begins M i m → Dec (e < i) → Closed c L M n t i m
      go f x i l h u (yes y) = v.closed f i (omega (arith, s, y)) h u
      go f x i l h u (no y) =
          let at : i ≡ e = omega (arith, l, y) in
          subst (λ (x : List ℕ). Closed c L M n x i m) (v.grows.still f)
          (subst (λ (x : ℕ). Closed c L M n t' x m) (sym at) (w.closed x (subst (λ (x : ℕ). Begins M x m) at u)))

  pub closing_end : {t t' t'' : List ℕ} {g : Bool} → g ≡ false → Settled c L M size n m t t' → Rounded c L M size n m 0 t' t'' g → Closing c L M size n m t t''
  closing_end z v w = record {
    settled = settled-join v w.settled;
    closed = λ e h b. subst (λ (x : List ℕ). Closed c L M n x e m) (sym (w.grows.still z)) (w.closed z e (omega arith) h b);
  }

-- what steps derive from a place of rows that are closed, or complete
module _ {c L M : List ℕ} {size n m main : ℕ} {t : List ℕ} (g : Ground c L M size n main) (above : CompleteFrom c L M size n (m + 1) t)
    (closed : (e : ℕ) → e < size → Begins M e m → Closed c L M n t e m) where
  rest_of : {q x p j : ℕ} (e : ℕ) → e < size → x ≤ n → m ≤ x → OnList L e q → Begins M e x → Steps c L M n q x p j → (k : ℕ) → Rest c M n t p j k → Rest c M n t q x k
  rest_of e h l o b i here k r = r
  rest_of e h l o b i (by-terminal {p = p} {j = j} s z f w) k r = rest_of e h l o b i s k (rest-step (move-terminal z (record { fits = f; within = w; is = refl })) r)
  rest_of e h l o b i (by-symbol {p = p} {j = j} {f = f} {l = last} {m = u} s z r t' end) k v =
      let a = arrived g.shape g.linked g.flows e h l b i s in
      let named = (g.shape.names p a.inside z).0 in
      let begins = g.flows.begin p j a.inside a.on z a.used in
      let inner = rest_of (rule_at c p) named a.on (omega (arith, o, a.order)) r begins t' u (rest_end end) in
      let derived = ends_at (rule_at c p) j u named a.on (omega (arith, o, a.order)) begins (record { first = f; last = last; listed = r; steps = t'; end = end }) inner (dec_lt m j) in
      rest_of e h l o b i s k (rest-step (move-symbol z a.on derived) v)
    where
      ends_at : (e x j : ℕ) → e < size → x ≤ n → m ≤ x → Begins M e x → (s : Spans c L M n e x j) → Rest c M n t s.first x j → Dec (m < x) → Derived n t e x j
      ends_at e x j h l o b s r (yes y) = above.is e x j h l b (omega (arith, y)) s
      ends_at e x j h l o b s r (no y) =
          let at : x ≡ m = omega (arith, o, y) in
          subst (λ (v : ℕ). Derived n t e v j) (sym at) ((closed e h (subst (Begins M e) at b)).is s.first j s.listed (subst (λ (v : ℕ). Rest c M n t s.first v j) at r))

  pub complete-up : CompleteFrom c L M size n m t
  complete-up = record { is = λ e x j h l b o s. go e x j h l b o s (dec_lt m x) }
    where
      go : (e x j : ℕ) → e < size → x ≤ n → Begins M e x → m ≤ x → Spans c L M n e x j → Dec (m < x) → Derived n t e x j
      go e x j h l b o s (yes y) = above.is e x j h l b (omega (arith, y)) s
      go e x j h l b o s (no y) =
          let at : x ≡ m = omega (arith, o, y) in
          let r = rest_of e h l o s.listed b s.steps j (rest_end s.end) in
          subst (λ (v : ℕ). Derived n t e v j) (sym at) ((closed e h (subst (Begins M e) at b)).is s.first j s.listed (subst (λ (v : ℕ). Rest c M n t s.first v j) at r))

pub complete-none : {c L M : List ℕ} {size n : ℕ} {t : List ℕ} → CompleteFrom c L M size n (n + 1) t
complete-none = record { is = λ e x j h l b o s. absurd (omega (arith, l, o)) }

-- rows of places after m that stay
pub complete-kept : {c L M : List ℕ} {size n m : ℕ} {t t' : List ℕ} → ((e x j : ℕ) → x ≤ n → m < x → Derived n t e x j → Derived n t' e x j) → CompleteFrom c L M size n (m + 1) t
    → CompleteFrom c L M size n (m + 1) t'
complete-kept f w = record { is = λ e x j h l b o s. f e x j l (omega (arith, o)) (w.is e x j h l b o s) }

pub complete-settled : {c L M : List ℕ} {size n m k : ℕ} {t t' : List ℕ} → Settled c L M size n m t t' → CompleteFrom c L M size n k t → CompleteFrom c L M size n k t'
complete-settled s w = record { is = λ e x j h l b o z. s.kept e x j (w.is e x j h l b o z) }

-- the rows from the place m on have what is so
pub record Exact (c L M : List ℕ) (size n m : ℕ) (t : List ℕ) : Type 0 where
  pub sound : SoundFrom c L M size n m t
  pub complete : CompleteFrom c L M size n m t

module _ {c L M : List ℕ} {size n : ℕ} where
  pub exact_none : {t : List ℕ} → Exact c L M size n (n + 1) t
  exact_none = record { sound = sound_none; complete = complete-none }

  pub opened-sound : {m k : ℕ} {t t' : List ℕ} {r : Bool} → m ≡ k + 1 → Exact c L M size n m t → Opened M size n k 0 size t t' r → Sound c L M size n k size t'
  opened-sound {t = t} e x w = w.sound c L (sound-down (subst (λ (v : ℕ). SoundFrom c L M size n v t) e x.sound))

  opened-complete : {m k : ℕ} {t t' : List ℕ} {r : Bool} → m ≡ k + 1 → Exact c L M size n m t → Opened M size n k 0 size t t' r → CompleteFrom c L M size n (k + 1) t'
  opened-complete {t = t} e x w = complete-kept w.kept (subst (λ (v : ℕ). CompleteFrom c L M size n v t) e x.complete)

  pub exact-closed : {m k main : ℕ} {t t' t'' t''' : List ℕ} {r : Bool} → Ground c L M size n main → m ≡ k + 1 → Exact c L M size n m t → Opened M size n k 0 size t t' r
      → Settled c L M size n k t' t'' → Closing c L M size n k t'' t''' → Exact c L M size n k t'''
  exact-closed g e x w s d = record {
    sound = sound-up d.settled.sound;
    complete = complete-up g (complete-settled d.settled (complete-settled s (opened-complete e x w))) d.closed;
  }

  pub exact-empty : {m k main : ℕ} {t t' : List ℕ} {r : Bool} → Ground c L M size n main → m ≡ k + 1 → Exact c L M size n m t → Opened M size n k 0 size t t' r → r ≡ false
      → Exact c L M size n k t'
  exact-empty g e x w z = record {
    sound = sound-up (opened-sound e x w);
    complete = complete-up g (opened-complete e x w) (λ i h b. absurd (w.none z i (omega arith) h b));
  }

  pub exact-filled : {m : ℕ} {t t' : List ℕ} → length t' ≡ length t → m ≡ 0 → Exact c L M size n m t' → Filled c L M size n t t'
  exact-filled {t' = t'} l e x =
      let done = subst (λ (k : ℕ). Exact c L M size n k t') e x in
      record { long = l; complete = done.complete; sound = done.sound }
