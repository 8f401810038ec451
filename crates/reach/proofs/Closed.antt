-- What flags that are closed say of derivations: every dot of one is reached, and every symbol's end in one is wanted.
use mathlib.Core.List.{List, [], ◌∷◌}
use mathlib.Core.Path.{◌≡◌, refl, sym, subst, ap, ◌∙◌}
use Prim.Native.Nat.{ℕ, zero, suc, ◌+◌, ◌-◌, ◌<◌, ◌≤◌}
use native.Mathlib.Numerals.{add-one}
use native.Mathlib.Omega.{arith}
use borrow.Author.Tests.{ne_eqb}
use lib.ListN.{length, get_or}
use Rattle.text.specs.Lists.{Text}
use Rattle.tree.specs.Tree.{Terminal, Symbol, terminal, Grammar}
use Rattle.plain.specs.Plain.{alts, width}
use Rattle.derive.specs.Derive.{Row, alternative, Derives, d-end, d-leaf, d-node, root, Derivation}
use Rattle.derive.proofs.Rows.{forward}
use Rattle.chart.specs.Code.{next_kind, goes_at, rule_at, owner_at, after_dot, head_of, On, at-end, at-terminal, at_symbol, Chain, ch-last, ch-next, Ruled}
use Rattle.reach.specs.Flags.{Reached, Continued, Begins, Ends, Wanted, home_of, LeftClosed, RightClosed}

-- the end of the alternative in which the dot p is
abbrev pub end_of : List (List Symbol) → ℕ → ℕ
end_of dots p = p + length (after_dot dots p)

-- an alternative of the rule e
pub record Alternative (c : List ℕ) (dots : List (List Symbol)) (e : ℕ) (ss : List Symbol) : Type 0 where
  pub dot : ℕ
  pub inside : dot < length dots
  pub owner : owner_at c dot ≡ e + 1
  pub is : after_dot dots dot ≡ ss
  pub home : home_of c dot ≡ e

-- the rule of a first dot, and of the next dot in an alternative
pub home-first : (c : List ℕ) (p e : ℕ) → owner_at c p ≡ e + 1 → home_of c p ≡ e
unfolding home_of
home-first c zero e o = omega arith
home-first c (suc p) e o = let k : e + 1 - 1 ≡ e = omega arith in rw (o, ne_eqb (e + 1) 0 (λ y. omega arith)) k

pub home-next : (c : List ℕ) (p : ℕ) → owner_at c (p + 1) ≡ 0 → home_of c (p + 1) ≡ home_of c p
unfolding home_of
home-next c p o = rw add-one (let z : owner_at c (suc p) ≡ 0 = rw add-one at o in rw z refl)

module _ {c : List ℕ} {dots : List (List Symbol)} {e : ℕ} where
  alternative-of : {q : ℕ} {ts : List (List Symbol)} (a : ℕ) → Chain c dots e q ts → a < length ts → Alternative c dots e (get_or ts a [])
  alternative-of zero (ch-last {q} h o l z) n = record { dot = q; inside = h; owner = o; is = refl; home = home-first c q e o }
  alternative-of (suc a) (ch-last h o l z) n = absurd (omega arith)
  alternative-of zero (ch-next {q} h o z r) n = record { dot = q; inside = h; owner = o; is = refl; home = home-first c q e o }
  alternative-of {q = q} (suc a) (ch-next {m = m} {ts = ts} h o z r) n = alternative-of {q = m} a r (omega arith)

cons_head : {A : Type 0} {x y : A} {xs ys : List A} → x ∷ xs ≡ y ∷ ys → x ≡ y
cons_head e = cc

cons_tail : {A : Type 0} {x y : A} {xs ys : List A} → x ∷ xs ≡ y ∷ ys → xs ≡ ys
cons_tail e = cc

not-cons : {A : Type 0} {x : A} {xs : List A} → x ∷ xs ≡ [] → ⊥
not-cons {xs = xs} e = let n : suc (length xs) ≡ 0 = ap length e in omega arith

-- a dot before what derives something
record BeforeSymbol (c : List ℕ) (g : Grammar) (dots : List (List Symbol)) (heads : List Symbol) (p : ℕ) (s : Symbol) (ss : List Symbol) : Type 0 where
  kind : next_kind c p ≡ 2
  next : p + 1 < length dots
  rest : after_dot dots (p + 1) ≡ ss
  same : alts g (head_of g heads (rule_at c p)) ≡ alts g s

record BeforeTerminal (At : ℕ → Terminal → Type 0) (c : List ℕ) (dots : List (List Symbol)) (p : ℕ) (x : Terminal) (ss : List Symbol) : Type 0 where
  kind : next_kind c p ≡ 1
  next : p + 1 < length dots
  rest : after_dot dots (p + 1) ≡ ss
  goes : goes_at c p ≡ width x
  at : At p x

module _ {At : ℕ → Terminal → Type 0} {c : List ℕ} {g : Grammar} {dots : List (List Symbol)} {heads : List Symbol} {p : ℕ} where
  before-end : On At c g dots heads p → after_dot dots p ≡ [] → next_kind c p ≡ 0
  before-end (at-end z e) i = z
  before-end (at-terminal x z l e _ v) i = absurd (not-cons (sym e ∙ i))
  before-end (at_symbol u z l e n r d) i = absurd (not-cons (sym e ∙ i))

  before-terminal : {x : Terminal} {ss : List Symbol} → On At c g dots heads p → after_dot dots p ≡ terminal x ∷ ss → BeforeTerminal At c dots p x ss
  before-terminal (at-end z e) i = absurd (not-cons (sym i ∙ e))
  before-terminal {x} (at-terminal y z l e v a) i =
      let j = sym e ∙ i in
      let k : y ≡ x = cc in
      record { kind = z; next = l; rest = cons_tail j; goes = v ∙ ap width k; at = subst (At p) k a }
  before-terminal {x} (at_symbol u z l e n r d) i = absurd (n x (cons_head (sym e ∙ i)))

  before-symbol : {s : Symbol} {ss : List Symbol} {a : ℕ} → a < length (alts g s) → On At c g dots heads p → after_dot dots p ≡ s ∷ ss → BeforeSymbol c g dots heads p s ss
  before-symbol m (at-end z e) i = absurd (not-cons (sym i ∙ e))
  before-symbol {s} {a = a} m (at-terminal y z l e _ v) i =
      let k : s ≡ terminal y = sym (cons_head (sym e ∙ i)) in
      absurd (let b : a < 0 = subst (λ (u : Symbol). a < length (alts g u)) k m in omega arith)
  before-symbol m (at_symbol u z l e n r d) i = let j = sym e ∙ i in record { kind = z; next = l; rest = cons_tail j; same = d ∙ ap (alts g) (cons_head j) }

-- the end of the alternative in which the dot p is, is reached at j
pub record Passed (c : List ℕ) (dots : List (List Symbol)) (size : ℕ) (M : List ℕ) (p j : ℕ) : Type 0 where
  pub inside : end_of dots p < size
  pub ends : next_kind c (end_of dots p) ≡ 0
  pub home : home_of c (end_of dots p) ≡ home_of c p
  pub reached : Reached M (end_of dots p) j

-- a symbol's alternative, reached where its derivation begins
pub record Entered (c : List ℕ) (dots : List (List Symbol)) (size : ℕ) (M : List ℕ) (e : ℕ) (ss : List Symbol) (i : ℕ) : Type 0 where
  pub dot : ℕ
  pub inside : dot < size
  pub owner : owner_at c dot ≡ e + 1
  pub is : after_dot dots dot ≡ ss
  pub home : home_of c dot ≡ e
  pub reached : Reached M dot i

module _ {At : ℕ → Terminal → Type 0} {c : List ℕ} {g : Grammar} {r : Text} {size top first : ℕ} {M : List ℕ} (w : Ruled At c g size top first) (l : LeftClosed At c r size top M) where
  below : {x : ℕ} → x < length w.dots → x < size
  below h = omega (arith, w.count)

  -- a rule that begins: its alternatives
  entered : {e q i a : ℕ} (s : Symbol) → Chain c w.dots e q (alts g s) → a < length (alts g s) → i ≤ length r → Begins M e i
      → Entered c w.dots size M e (alternative g s a) i
  entered {e} {i = i} {a = a} s h n b m =
      let f = alternative-of a h n in
      record { dot = f.dot; inside = below f.inside; owner = f.owner; is = f.is; home = f.home; reached = l.first f.dot e i (below f.inside) b f.owner m }

  pub enters : {p i a : ℕ} {s : Symbol} {ss : List Symbol} → p < size → after_dot w.dots p ≡ s ∷ ss → a < length (alts g s) → i ≤ length r → Reached M p i
      → Entered c w.dots size M (rule_at c p) (alternative g s a) i
  enters {p} {i} {s = s} h e n b m =
      let v = before-symbol n (w.stands p h) e in
      entered s (subst (Chain c w.dots (rule_at c p) (goes_at c p)) v.same (w.chains p h v.kind)) n b (l.begin p i h b v.kind m)

  same_home : (p : ℕ) → p + 1 < length w.dots → (next_kind c p ≡ 0 → ⊥) → home_of c (p + 1) ≡ home_of c p
  same_home p h n = home-next c p (w.inner p (below h) n)

  onward : {p j : ℕ} (s : Symbol) → after_dot w.dots p ≡ s ∷ after_dot w.dots (p + 1) → home_of c (p + 1) ≡ home_of c p
      → Passed c w.dots size M (p + 1) j → Passed c w.dots size M p j
  onward {p} {j} s e o v =
      let k : end_of w.dots (p + 1) ≡ end_of w.dots p = omega (arith, ap length e) in
      record {
        inside = omega (arith, v.inside);
        ends = subst (λ (x : ℕ). next_kind c x ≡ 0) k v.ends;
        home = ap (home_of c) (sym k) ∙ v.home ∙ o;
        reached = subst (λ (x : ℕ). Reached M x j) k v.reached;
      }

  ended : {e q i : ℕ} → home_of c q ≡ e → i ≤ length r → Passed c w.dots size M q i → Ends M e i
  ended {q = q} {i} h b v = subst (λ (x : ℕ). Ends M x i) (v.home ∙ h) (l.end (end_of w.dots q) i v.inside b v.ends v.reached)

  -- what stands after a reached dot derives up to j: so the alternative's end is reached there
  pub passes : {t : Row} {ss : List Symbol} {i j : ℕ} → Derives g r t ss i j → (p : ℕ) → p < size → after_dot w.dots p ≡ ss → j ≤ length r → Reached M p i
      → Passed c w.dots size M p j
  passes {i = i} d-end p h e b m =
      let z : end_of w.dots p ≡ p = omega (arith, ap length e) in
      record {
        inside = omega arith;
        home = ap (home_of c) z;
        ends = subst (λ (x : ℕ). next_kind c x ≡ 0) (sym z) (before-end (w.stands p h) e);
        reached = subst (λ (x : ℕ). Reached M x i) (sym z) m;
      }
  passes (d-leaf {x} {i = i} f d) p h e b m =
      let v = before-terminal (w.stands p h) e in
      let k = forward g r d in
      let n = subst (λ (y : ℕ). Reached M (p + 1) (i + y)) v.goes (l.fit p i x h (omega arith) v.kind m v.at f).1 in
      onward (terminal x) (e ∙ ap (λ (ts : List Symbol). terminal x ∷ ts) (sym v.rest)) (same_home p v.next (λ q. omega (arith, v.kind))) (passes d (p + 1) (below v.next) v.rest b n)
  passes (d-node {s} {a = a} {i = i} {m = k} n f d) p h e b m =
      let v = before-symbol n (w.stands p h) e in
      let y = forward g r d in
      let z = forward g r f in
      let u = enters h e n (omega arith) m in
      let q = passes f u.dot u.inside u.is (omega arith) u.reached in
      let o = l.over p i k h (omega arith) (omega arith) v.kind m (ended u.home (omega arith) q) in
      onward s (e ∙ ap (λ (ts : List Symbol). s ∷ ts) (sym v.rest)) (same_home p v.next (λ q. omega (arith, v.kind))) (passes d (p + 1) (below v.next) v.rest b o)

  -- the symbol after a reached dot: its rule may end where its derivation does, and the dot after it is reached there
  pub steps-over : {t : Row} {p i m a : ℕ} {s : Symbol} {ss : List Symbol} → p < size → after_dot w.dots p ≡ s ∷ ss → a < length (alts g s)
      → Derives g r t (alternative g s a) i m → m ≤ length r → Reached M p i → Ends M (rule_at c p) m × Reached M (p + 1) m
  steps-over {p = p} {i} {m} h e n d b k =
      let v = before-symbol n (w.stands p h) e in
      let y = forward g r d in
      let u = enters h e n (omega arith) k in
      let f = ended u.home b (passes d u.dot u.inside u.is b u.reached) in
      (f, l.over p i m h y b v.kind k f)

  -- a record that has a derivation: the root's rule may end at its end
  pub root_ends : {t : Row} → Derivation g r t → Ends M top (length r)
  root_ends (d-node {a = a} n f d-end) =
      let u = entered {i = 0} (root g) w.root-chain n (omega arith) l.root in
      ended u.home (omega arith) (passes f u.dot u.inside u.is (omega arith) u.reached)

  module _ (v : RightClosed c (length r) size top M) where
    -- what stands after a reached dot derives up to an end at which its rule is wanted
    pub continues : {t : Row} {ss : List Symbol} {i j : ℕ} → Derives g r t ss i j → (p : ℕ) → p < size → after_dot w.dots p ≡ ss → j ≤ length r → Reached M p i
        → Wanted M (home_of c p) j → Continued M p i
    continues {i = i} d-end p h e b m n =
        v.end p i h b (before-end (w.stands p h) e) m n
    continues {j = j} (d-leaf {x} {i = i} f d) p h e b m n =
        let u = before-terminal (w.stands p h) e in
        let k = forward g r d in
        let y = l.fit p i x h (omega arith) u.kind m u.at f in
        let o = subst (λ (z : ℕ). Reached M (p + 1) (i + z)) u.goes y.1 in
        let z = same_home p u.next (λ q. omega (arith, u.kind)) in
        let q = continues d (p + 1) (below u.next) u.rest b o (subst (λ (a : ℕ). Wanted M a j) (sym z) n) in
        v.shift p i h (omega (arith, u.goes)) u.kind y.0 (subst (λ (a : ℕ). Continued M (p + 1) (i + a)) (sym u.goes) q)
    continues {j = j} (d-node {s} {a = a} {i = i} {m = k} y f d) p h e b m n =
        let u = before-symbol y (w.stands p h) e in
        let lf = forward g r f in
        let ld = forward g r d in
        let o = steps-over h e y f (omega arith) m in
        let z = same_home p u.next (λ q. omega (arith, u.kind)) in
        let q = continues d (p + 1) (below u.next) u.rest b o.1 (subst (λ (x : ℕ). Wanted M x j) (sym z) n) in
        let want = v.want p k h (omega arith) u.kind q o.0 in
        let x = enters h e y (omega arith) m in
        let first = continues f x.dot x.inside x.is (omega arith) x.reached (subst (λ (z : ℕ). Wanted M z k) (sym x.home) want) in
        v.back p x.dot i k h x.inside lf (omega arith) u.kind m q x.owner first

    -- so each symbol after the dot is wanted where its derivation ends
    pub wants : {f t : Row} {s : Symbol} {ss : List Symbol} {a p i m j : ℕ} → p < size → after_dot w.dots p ≡ s ∷ ss → a < length (alts g s)
        → Derives g r f (alternative g s a) i m → Derives g r t ss m j → j ≤ length r → Reached M p i → Wanted M (home_of c p) j → Wanted M (rule_at c p) m
    wants {s = s} {p = p} {m = k} {j} h e y f d b m n =
        let u = before-symbol y (w.stands p h) e in
        let ld = forward g r d in
        let o = steps-over h e y f (omega arith) m in
        let z = same_home p u.next (λ q. omega (arith, u.kind)) in
        v.want p k h (omega arith) u.kind (continues d (p + 1) (below u.next) u.rest b o.1 (subst (λ (x : ℕ). Wanted M x j) (sym z) n)) o.0
