-- Rounds over the sets: where nothing grows, they are closed, and have all places where dots stand.
use mathlib.Core.Bool.{Bool, false, ◌||◌}
use mathlib.Core.List.{List}
use mathlib.Core.Logic.{◌⊎◌, inl, inr, ⊎_elim}
use mathlib.Core.Path.{◌≡◌, refl, sym, ap, subst, ◌∙◌}
use Prim.Native.Nat.{ℕ, ◌+◌, ◌*◌, ◌-◌, ◌<◌, ◌≤◌}
use native.Mathlib.Decide.{dec_lt}
use native.Mathlib.Omega.{arith}
use lib.ListN.{length, get_or}
use Rattle.bits.specs.Bits.{Has, Adds}
use Rattle.bits.proofs.Grows.{grows_start, grows-join}
use Rattle.chart.specs.Code.{next_kind, rule_at}
use Rattle.reach.specs.Work.{Listed, l-here, l-next}
use Rattle.moves.specs.Moves.{Move, move-terminal, move-symbol, Stepped}
use Rattle.ends.specs.Spans.{OnList}
use Rattle.ends.proofs.Laws.{neither}
use Rattle.standing.specs.Stood.{Stood, at_first, entering, past-terminal, past-symbol, Base}
use Rattle.standing.specs.Sets.{Member, Grown, Merged, Taken, AtDot, Told, Ran, Entered, Advanced, DotClosed, RuleClosed, Redot, Rerule, Rounded, Closing, Exact}
use Rattle.standing.proofs.Laws.{stood-flagged, moved-stood, told-dot, told-rule}

pub grown-start : {S : List ℕ} → Grown S S false
grown-start = record { long = refl; kept = λ l q x m. m; grows = λ l. grows_start }

pub grown-join : {S S' S'' : List ℕ} (a b : Bool) {r : Bool} → Grown S S' a → Grown S' S'' b → r ≡ (a || b) → Grown S S'' r
grown-join a b v w e = record {
  long = w.long ∙ v.long;
  kept = λ l q x m. w.kept (v.long ∙ l) q x (v.kept l q x m);
  grows = λ l. grows-join a b (v.grows l) (w.grows (v.long ∙ l)) e;
}

-- a set that adds nothing to a row was in it
merged-still : {S S' C : List ℕ} {row : ℕ} {r : Bool} → Merged S S' row C r → r ≡ false → length S ≡ 8192 → (x : ℕ) → x < 256 → Has C x → Member S row x
merged-still {row = row} m z l x h y = subst (λ (T : List ℕ). Member T row x) ((m.grown.grows l).still z) (m.all l x h y)

-- a move ends on the record, and begins at a dot with something after it
move-low : {c M : List ℕ} {n : ℕ} {t : List ℕ} {p y z : ℕ} → n ≤ 200 → Move c M n t p y z → z < 256
move-low h (move-terminal k l) = omega (arith, l.is, l.within, h)
move-low h (move-symbol k l d) = omega (arith, d.inside, h)

no_move : {c M : List ℕ} {n : ℕ} {t : List ℕ} {p y z : ℕ} → next_kind c p ≡ 0 → Move c M n t p y z → ⊥
no_move e (move-terminal k l) = omega (arith, e, k)
no_move e (move-symbol k l d) = omega (arith, e, k)

pub entered-none : {c : List ℕ} {p : ℕ} {S C : List ℕ} → (next_kind c p ≡ 2 → ⊥) → Entered c p S S C false
entered-none f = record { told = λ L M n top s a. s; grown = grown-start; closed = λ z l k. absurd (f k) }

pub entered_by : {c : List ℕ} {p row : ℕ} {S S' C : List ℕ} {r : Bool} → next_kind c p ≡ 2 → row ≡ 512 + rule_at c p → Merged S S' row C r → Entered c p S S' C r
entered_by {c} {p} {row} {S} {S'} {C} k e m = record {
  told = λ L M n top s a. told-rule s (rule_at c p) e m.joined (λ x h y q o. entering (a x h y) k o);
  grown = m.grown;
  closed = λ z l _ x h y. subst (λ (i : ℕ). Member S i x) e (merged-still m z l x h y);
}

pub advanced-none : {c M : List ℕ} {size n p : ℕ} {t S C : List ℕ} → next_kind c p ≡ 0 → Advanced c M size n p t S S C false
advanced-none e = record { told = λ L top b s a. s; grown = grown-start; closed = λ z l y w h v. absurd (no_move e v) }

pub advanced-by : {c M : List ℕ} {size n p : ℕ} {t S S' C N : List ℕ} {r : Bool} → n ≤ 200 → p + 1 < 512 → Stepped c M n t p C N → Merged S S' (p + 1) N r → Advanced c M size n p t S S' C r
advanced-by h i w m = record {
  told = λ L top b s a. told-dot s i m.joined (λ x l y. moved-stood b a x (w.is x y));
  grown = m.grown;
  closed = λ z l y x k v. merged-still m z l x (move-low h v) (w.all x (record { from = y; has = k; move = v }));
}

-- a dot
pub redot-none : {c M : List ℕ} {size n p : ℕ} {t S Z C : List ℕ} → length Z ≡ 8 → Taken S p Z C → ((x : ℕ) → x < 256 → Has C x → ⊥) → Redot c M size n p t S S false
redot-none l t f = record {
  told = λ L top b s. s;
  grown = grown-start;
  closed = λ z w. record { symbol = λ k x m. absurd (f x m.low (t.all l x m)); next = λ y x m v. absurd (f y m.low (t.all l y m)) };
}

pub redot-by : {c M : List ℕ} {size n p : ℕ} {t S S' S'' Z C : List ℕ} (a b : Bool) {r : Bool} → p < 512 → length Z ≡ 8 → Taken S p Z C → Entered c p S S' C a
    → Advanced c M size n p t S' S'' C b → r ≡ (a || b) → Redot c M size n p t S S'' r
redot-by {c} {M} {size} {n} {p} {t} {S} {S'} {S''} {Z} {C} a b h l k v w e = record {
  told = λ L top y s. (let at : AtDot c L M n top p C = λ x i j. s.dots p x h (k.is x i j) in w.told L top y (v.told L M n top s at) at);
  grown = grown-join a b v.grown w.grown e;
  closed = λ z i. (let d = neither a b e z in record {
    symbol = λ y x m. v.closed d.0 i y x m.low (k.all l x m);
    next = λ y x m u. subst (λ (T : List ℕ). Member T (p + 1) x) ((v.grown.grows i).still d.0) (w.closed d.1 (v.grown.long ∙ i) y x (k.all l y m) u);
  });
}

-- the first dots of a rule that are still to come from x on, or are done
pub record Rulings (L : List ℕ) (size e x : ℕ) (S S' C : List ℕ) (g : Bool) : Type 0 where
  pub told : (c M : List ℕ) (n top : ℕ) → Told c L M n top S → Told c L M n top S'
  pub grown : Grown S S' g
  pub closed : g ≡ false → length S ≡ 8192 → (q : ℕ) → OnList L e q → Listed L x q ⊎ ((y : ℕ) → y < 256 → Has C y → Member S q y)

module _ {L : List ℕ} {size e : ℕ} {C : List ℕ} where
  pub rulings-start : {x : ℕ} {S : List ℕ} → x ≡ get_or L (2 * e) 0 → Rulings L size e x S S C false
  rulings-start {x} i = record { told = λ c M n top s. s; grown = grown-start; closed = λ z l q o. inl (subst (λ (v : ℕ). Listed L v q) (sym i) o) }

  pub rulings-next : {x y : ℕ} {S S' S'' Z : List ℕ} (g b : Bool) {g' : Bool} → e < 512 → x - 1 < 512 → Taken S (512 + e) Z C → OnList L e (x - 1) → 0 < x → y ≡ get_or L (2 * x - 1) 0
      → Rulings L size e x S S' C g → Merged S' S'' (x - 1) C b → g' ≡ (g || b) → Rulings L size e y S S'' C g'
  rulings-next {x} {y} {S} {S'} g b h k t o p i s m z = record {
    told = λ c M n top w. told-dot (s.told c M n top w) k m.joined (λ u l v. w.rules e u h (t.is u l v) (x - 1) o);
    grown = grown-join g b s.grown m.grown z;
    closed = λ f l q u. (let d = neither g b z f in done d.0 d.1 l q (s.closed d.0 l q u));
  }
    where
      done : g ≡ false → b ≡ false → length S ≡ 8192 → (q : ℕ) → Listed L x q ⊎ ((y : ℕ) → y < 256 → Has C y → Member S q y) → Listed L y q ⊎ ((y : ℕ) → y < 256 → Has C y → Member S q y)
      done f a l q (inr v) = inr v
      done f a l q (inl (l-here j)) = inr (λ u w v. subst (λ (d : ℕ). Member S d u) (let d : x - 1 ≡ q = omega (arith, j) in d)
          (subst (λ (T : List ℕ). Member T (x - 1) u) ((s.grown.grows l).still f) (merged-still m a (s.grown.long ∙ l) u w v)))
      done f a l q (inl (l-next v j r)) = inl (subst (λ (u : ℕ). Listed L u q)
          (sym (i ∙ ap (λ (u : ℕ). get_or L u 0) (let w : 2 * x - 1 ≡ 2 * v + 1 = omega (arith, j) in w))) r)

  pub rulings-end : {x : ℕ} {S S' Z : List ℕ} {g : Bool} → x ≡ 0 → length Z ≡ 8 → Taken S (512 + e) Z C → Rulings L size e x S S' C g → Rerule L size e S S' g
  rulings-end {x} {S} i l t s = record { told = s.told; grown = s.grown; closed = λ z w q y o m. go q y m (s.closed z w q o) }
    where
      go : (q y : ℕ) → Member S (512 + e) y → Listed L x q ⊎ ((y : ℕ) → y < 256 → Has C y → Member S q y) → Member S q y
      go q y m (inr v) = v y m.low (t.all l y m)
      go q y m (inl (l-here j)) = absurd (omega (arith, j, i))
      go q y m (inl (l-next v j r)) = absurd (omega (arith, j, i))

-- rounds
pub record Rounds (c L M : List ℕ) (size n : ℕ) (t S S' : List ℕ) : Type 0 where
  pub told : (top : ℕ) → Base c L M size n top t → Told c L M n top S → Told c L M n top S'
  pub long : length S' ≡ 8192
  pub kept : (q x : ℕ) → Member S q x → Member S' q x

module _ {c L M : List ℕ} {size n : ℕ} {t : List ℕ} where
  pub rounded-start : {S : List ℕ} → Rounded c L M size n 0 t S S false
  rounded-start = record { told = λ top b s. s; grown = grown-start; closed = λ z l p h. absurd (omega (arith, h)) }

  pub rounded-next : {b : ℕ} {S S' S'' T : List ℕ} (g u v : Bool) {w g' : Bool} → Rounded c L M size n b t S S' g → Redot c M size n b t S' S'' u → Rerule L size b S'' T v
      → w ≡ (u || v) → g' ≡ (g || w) → Rounded c L M size n (b + 1) t S T g'
  rounded-next {b} {S} {S'} {S''} {T} g u v {w} {g'} x y r d e = record {
    told = λ top a s. r.told c M n top (y.told L top a (x.told top a s));
    grown = grown-join g w x.grown (grown-join u v y.grown r.grown d) e;
    closed = λ z l p h. (let i = neither g w e z in let j = neither u v d i.1 in go i.0 j.0 j.1 l p h (dec_lt p b));
  }
    where
      go : g ≡ false → u ≡ false → v ≡ false → length S ≡ 8192 → (p : ℕ) → p < b + 1 → Dec (p < b) → DotClosed c M n t S p × RuleClosed L S p
      go f i j l p h (yes k) = x.closed f l p k
      go f i j l p h (no k) =
          let at : p ≡ b = omega (arith, h, k) in
          let one = (x.grown.grows l).still f in
          let two = (y.grown.grows (x.grown.long ∙ l)).still i in
          subst (λ (q : ℕ). DotClosed c M n t S q × RuleClosed L S q) (sym at) (
            subst (λ (Y : List ℕ). DotClosed c M n t Y b) one (y.closed i (x.grown.long ∙ l)),
            subst (λ (Y : List ℕ). RuleClosed L Y b) (two ∙ one) (r.closed j (y.grown.long ∙ x.grown.long ∙ l)),
          )

  pub rounds-start : {S : List ℕ} → length S ≡ 8192 → Rounds c L M size n t S S
  rounds-start l = record { told = λ top b s. s; long = l; kept = λ q x m. m }

  pub rounds-next : {S S' S'' : List ℕ} {r : Bool} → Rounds c L M size n t S S' → Rounded c L M size n size t S' S'' r → Rounds c L M size n t S S''
  rounds-next v w = record {
    told = λ top b s. w.told top b (v.told top b s);
    long = w.grown.long ∙ v.long;
    kept = λ q x m. w.grown.kept v.long q x (v.kept q x m);
  }

  pub rounds-end : {S S' S'' : List ℕ} {r : Bool} → r ≡ false → Rounds c L M size n t S S' → Rounded c L M size n size t S' S'' r → Closing c L M size n t S S''
  rounds-end z v w = record {
    told = (rounds-next v w).told;
    kept = (rounds-next v w).kept;
    closed = λ p h. subst (λ (T : List ℕ). DotClosed c M n t T p × RuleClosed L T p) (sym ((w.grown.grows v.long).still z)) (w.closed z v.long p h);
  }

  -- what stands is in sets that are closed
  module _ {top : ℕ} {S : List ℕ} (b : Base c L M size n top t) (root : Member S (512 + top) 0) (closed : (p : ℕ) → p < size → DotClosed c M n t S p × RuleClosed L S p) where
    pub stood-member : {p i : ℕ} → Stood c L M n top p i → Member S p i
    stood-member (at_first {q} o) = (closed top b.inside).1 q 0 o root
    stood-member (entering {p} {i} {q} s k o) =
        let a = stood-flagged b s in
        let h = (b.ground.shape.names p a.inside k).0 in
        (closed (rule_at c p) h).1 q i o ((closed p a.inside).0.symbol k i (stood-member s))
    stood-member (past-terminal {p} {i} s k f w) =
        let a = stood-flagged b s in
        (closed p a.inside).0.next i _ (stood-member s) (move-terminal k (record { fits = f; within = w; is = refl }))
    stood-member (past-symbol {p} {i} {m} s k w) =
        let a = stood-flagged b s in
        let h = (b.ground.shape.names p a.inside k).0 in
        let d = b.complete.is (rule_at c p) i m h a.on (b.ground.flows.begin p i a.inside a.on k a.used) (omega arith) w in
        (closed p a.inside).0.next i m (stood-member s) (move-symbol k a.on d)

  pub exact-of : {top : ℕ} {S S' : List ℕ} → Base c L M size n top t → Told c L M n top S → Member S (512 + top) 0 → Closing c L M size n t S S' → Exact c L M size n top S'
  exact-of {top} b s m w = record { told = w.told top b s; all = λ p x z. stood-member b (w.kept (512 + top) 0 m) w.closed z }

  -- the root's rule begins at 0; the search, and rounds after it
  pub stand-exact : {top : ℕ} {S S₁ S₂ S₃ S₄ Z C : List ℕ} {a r : Bool} → Base c L M size n top t → ((q x : ℕ) → Member S q x → ⊥) → length S ≡ 8192 → ((x : ℕ) → Has Z x → ⊥)
      → length Z ≡ 8 → Adds (λ x. x ≡ 0) Z C → Merged S S₁ (512 + top) C a → Ran c L M size n t S₁ S₂ → Merged S₂ S₃ (512 + top) C r → Closing c L M size n t S₃ S₄
      → Exact c L M size n top S₄
  stand-exact {top} {S} {S₁} {S₂} {S₃} {C = C} b none l empty k p m w v d =
      let long : length S₂ ≡ 8192 = w.long ∙ m.grown.long ∙ l in
      let first = told-rule (record { dots = λ p x h z. absurd (none p x z); rules = λ e x h z. absurd (none (512 + e) x z) }) top refl m.joined root in
      exact-of b (told-rule (w.told top b first) top refl v.joined root) (v.all long 0 (omega arith) (p.all k 0 refl)) d
    where
      root : (x : ℕ) → x < 256 → Has C x → (q : ℕ) → OnList L top q → Stood c L M n top q x
      root x h y q o = ⊎_elim (λ z. absurd (empty x z)) (λ z. subst (Stood c L M n top q) (sym z) (at_first o)) (p.is x y)
