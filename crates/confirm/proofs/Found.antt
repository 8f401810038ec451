-- The place that is found is that of the fault: what stands by the grammar stands by the code.
use mathlib.Core.Bool.{false}
use mathlib.Core.List.{List, [], ◌∷◌}
use mathlib.Core.Logic.{◌⊎◌, inl, inr}
use mathlib.Core.Path.{◌≡◌, refl, sym, ap, subst, ◌∙◌}
use Prim.Native.Nat.{ℕ, ◌+◌, ◌<◌, ◌≤◌}
use native.Mathlib.Omega.{arith}
use lib.Dec.{T}
use lib.ListN.{length, get_or, drop}
use Rattle.text.specs.Lists.{Text, all}
use Rattle.text.specs.Utf8.{known}
use Rattle.tree.specs.Tree.{Terminal, Symbol, terminal, Grammar}
use Rattle.plain.specs.Plain.{alts, width}
use Rattle.derive.specs.Derive.{Row, Derives, d-end, d-leaf, d-node, alternative, root}
use Rattle.derive.specs.Yield.{productive, unproductive}
use Rattle.derive.proofs.Symbols.{Inside, alternative-of, root-inside}
use Rattle.derive.proofs.Rows.{forward}
use Rattle.derive.proofs.Productive.{derived-productive}
use Rattle.viable.specs.Fault.{FaultAt}
use Rattle.viable.specs.Stands.{begun, Stands, at-root, into, Farthest}
use Rattle.viable.specs.Stands as sees
use Rattle.viable.proofs.Sound.{First, is-literal, no-literal, first_of}
use Rattle.viable.proofs.Fault.{root-produces, farthest-fault}
use Rattle.chart.specs.Code.{next_kind, goes_at, rule_at, owner_at, after_dot, head_of, On, at-end, at-terminal, at_symbol, Ruled}
use Rattle.heights.proofs.Part.{find}
use Rattle.rules.specs.Ready.{Token}
use Rattle.reach.specs.Flags.{Reached, Begins, LeftClosed, FitsOnly}
use Rattle.reach.proofs.Closed.{steps-over}
use Rattle.sparse.specs.Cells.{Shape}
use Rattle.fault.specs.Firsts.{Tokened, Firsts}
use Rattle.fault.specs.Far.{Begun, Ranging}
use Rattle.fault.proofs.Ranges.{one-begun}
use Rattle.fault.proofs.Alike.{begun-same}
use Rattle.fault.proofs.Model.{alive-first}
use Rattle.ends.specs.Spans.{OnList, Steps, here, by-terminal, by-symbol, Flows}
use Rattle.ends.proofs.Reach.{Arrived, arrived}
use Rattle.confirm.proofs.Standing.{flows-of, standing}
use Rattle.standing.specs.Stood.{Stood, at_first, entering, past-terminal, past-symbol}
use Rattle.confirm.specs.Find.{Touch, Confirmed}

module _ {Tb c M : List ℕ} {R : Text} {size top first : ℕ} {g : Grammar} (k : Ruled (Token Tb) c g size top first) (shape : Shape c size) (left : LeftClosed (Token Tb) c R size top M)
    (only : FitsOnly (Token Tb) c R size M) where
  abbrev n : ℕ
  n = length R

  abbrev dots : List (List Symbol)
  dots = k.dots

  module _ (prod : unproductive g ≡ false) (held : T (all known R)) {L : List ℕ} (f : Firsts Tb c size L) where
    flows : Flows c L M size n
    flows = flows-of k shape left only L f

    -- a dot before a symbol with alternatives; before a terminal
    record Named (p : ℕ) (u : Symbol) (ss : List Symbol) : Type 0 where
      kind : next_kind c p ≡ 2
      next : p + 1 < size
      rest : after_dot dots (p + 1) ≡ ss
      same : alts g (head_of g k.heads (rule_at c p)) ≡ alts g u

    before-symbol : {p a : ℕ} {u : Symbol} {ss : List Symbol} → p < size → after_dot dots p ≡ u ∷ ss → a < length (alts g u) → Named p u ss
    before-symbol {p} {a} {u} {ss} h is l = go (k.stands p h)
      where
        go : On (Token Tb) c g dots k.heads p → Named p u ss
        go (at-end z e) = absurd (let q : ◌≡◌ {A = ℕ} 0 1 = cc in omega arith)
        go (at-terminal x z b e w a') = absurd (let q : u ≡ terminal x = cc in let y : a < 0 = subst (λ (v : Symbol). a < length (alts g v)) q l in omega arith)
        go (at_symbol v z b e m r d) = let q : v ≡ u = cc in record { kind = z; next = omega (arith, k.count); rest = cc; same = d ∙ ap (alts g) q }

    record Spelt (p : ℕ) (x : Terminal) (ss : List Symbol) : Type 0 where
      kind : next_kind c p ≡ 1
      next : p + 1 < size
      rest : after_dot dots (p + 1) ≡ ss
      goes : goes_at c p ≡ width x
      token : Token Tb p x

    before-terminal : {p : ℕ} {x : Terminal} {ss : List Symbol} → p < size → after_dot dots p ≡ terminal x ∷ ss → Spelt p x ss
    before-terminal {p} {x} {ss} h is = go (k.stands p h)
      where
        go : On (Token Tb) c g dots k.heads p → Spelt p x ss
        go (at-end z e) = absurd (let q : ◌≡◌ {A = ℕ} 0 1 = cc in omega arith)
        go (at-terminal y z b e w a) = let q : y ≡ x = cc in record { kind = z; next = omega (arith, k.count); rest = cc; goes = w ∙ ap width q; token = subst (Token Tb p) q a }
        go (at_symbol v z b e m r d) = absurd (m x cc)

    -- the first dot of an alternative that can be finished, of the symbol after a dot
    record Entry (p : ℕ) (u : Symbol) (a : ℕ) : Type 0 where
      dot : ℕ
      inside : dot < size
      owner : owner_at c dot ≡ rule_at c p + 1
      listed : OnList L (rule_at c p) dot
      is : after_dot dots dot ≡ alternative g u a

    entry : (p a : ℕ) {u : Symbol} {ss : List Symbol} → p < size → Named p u ss → a < length (alts g u) → T (all (productive g) (alternative g u a)) → Entry p u a
    entry p a {u} h w l t =
        let e = find (k.chains p h w.kind) a (rw w.same l) in
        let i : e.place < size = omega (arith, e.inside, k.count) in
        let is : after_dot dots e.place ≡ alternative g u a = e.is ∙ ap (λ (ts : List (List Symbol)). get_or ts a []) w.same in
        record {
          dot = e.place;
          inside = i;
          owner = e.owned;
          listed = alive-first k shape prod f e.place (rule_at c p) i e.owned (subst (λ (ss : List Symbol). T (all (productive g) ss)) (sym is) t);
          is = is;
        }

    -- derivations are steps
    record Ended (q x m : ℕ) : Type 0 where
      last : ℕ
      steps : Steps c L M n q x last m
      end : next_kind c last ≡ 0

    record From (e q x : ℕ) : Type 0 where
      inside : e < size
      on : x ≤ n
      listed : OnList L e q
      begins : Begins M e x

    arrives : (e q x p j : ℕ) → From e q x → Steps c L M n q x p j → Arrived c M size n e x p j
    arrives e q x p j w s = arrived shape f.linked flows e w.inside w.on w.listed w.begins s

    at-its-end : (p : ℕ) → after_dot dots p ≡ [] → On (Token Tb) c g dots k.heads p → next_kind c p ≡ 0
    at-its-end p is (at-end z e) = z
    at-its-end p is (at-terminal x z b e w a) = absurd (let q : ◌≡◌ {A = ℕ} 1 0 = cc in omega arith)
    at-its-end p is (at_symbol u z b e m r d) = absurd (let q : ◌≡◌ {A = ℕ} 1 0 = cc in omega arith)

    run : {t : Row} {ss : List Symbol} {j m : ℕ} → Derives g R t ss j m → Inside g ss → (e q x p : ℕ) → From e q x → after_dot dots p ≡ ss → m ≤ n → Steps c L M n q x p j → Ended q x m
    run {j = j} d-end i e q x p w is b s =
        record { last = p; steps = s; end = at-its-end p is (k.stands p (arrives e q x p j w s).inside) }
    run (d-leaf {x = y} {i = j} fit d) i e q x p w is b s =
        let a = arrives e q x p j w s in
        let v = before-terminal a.inside is in
        let z = left.fit p j y a.inside a.on v.kind a.used v.token fit in
        run d i.1 e q x (p + 1) w v.rest b (subst (λ (h : ℕ). Steps c L M n q x (p + 1) (j + h)) v.goes
        (by-terminal s v.kind z.0 (omega (arith, forward g R d, v.goes, b))))
    run (d-node {s = u} {a = a} {i = j} {m = o} l d₁ d₂) i e q x p w is b s =
        let at = arrives e q x p j w s in
        let v = before-symbol at.inside is l in
        let inner = alternative-of g i.0 a in
        let y = entry p a at.inside v l (derived-productive g held inner d₁) in
        let from : From (rule_at c p) y.dot j = record {
          inside = (shape.names p at.inside v.kind).0;
          on = at.on;
          listed = y.listed;
          begins = left.begin p j at.inside at.on v.kind at.used;
        } in
        let r = run d₁ inner (rule_at c p) y.dot j y.dot from y.is (omega (arith, forward g R d₂, b)) here in
        run d₂ i.1 e q x (p + 1) w v.rest b (by-symbol s v.kind y.listed r.steps r.end)

    -- what stands by the grammar stands by the code
    record AtDot (ss : List Symbol) (i : ℕ) : Type 0 where
      dot : ℕ
      inside : dot < size
      on : i ≤ n
      is : after_dot dots dot ≡ ss
      used : Reached M dot i
      stood : Stood c L M n top dot i
      within : Inside g ss

    found : {ss : List Symbol} {i : ℕ} → Stands g R ss i → AtDot ss i
    found (at-root {a} l t) =
        let w = find k.root-chain a l in
        let h : w.place < size = omega (arith, w.inside, k.count) in
        let o = alive-first k shape prod f w.place top h w.owned (subst (λ (ss : List Symbol). T (all (productive g) ss)) (sym w.is) t) in
        record {
          dot = w.place;
          inside = h;
          on = omega arith;
          is = w.is;
          used = left.first w.place top 0 h (omega arith) w.owned left.root;
          stood = at_first o;
          within = alternative-of g (root-inside g).0 a;
        }
    found (sees.past-terminal {x} {ss} {i} z fit far) =
        let o = found z in
        let w = before-terminal o.inside o.is in
        let y = left.fit o.dot i x o.inside o.on w.kind o.used w.token fit in
        record {
          dot = o.dot + 1;
          inside = w.next;
          on = far;
          is = w.rest;
          used = subst (λ (b : ℕ). Reached M (o.dot + 1) (i + b)) w.goes y.1;
          stood = subst (λ (b : ℕ). Stood c L M n top (o.dot + 1) (i + b)) w.goes (past-terminal o.stood w.kind y.0 (omega (arith, far, w.goes)));
          within = o.within.1;
        }
    found (into {s = u} {a = a} {i = i} z l t) =
        let o = found z in
        let w = before-symbol o.inside o.is l in
        let e = entry o.dot a o.inside w l t in
        record {
          dot = e.dot;
          inside = e.inside;
          on = o.on;
          is = e.is;
          used = left.first e.dot (rule_at c o.dot) i e.inside o.on e.owner (left.begin o.dot i o.inside o.on w.kind o.used);
          stood = entering o.stood w.kind e.listed;
          within = alternative-of g o.within.0 a;
        }
    found (sees.past-symbol {a = a} {i = i} {m = m} z l d b) =
        let o = found z in
        let w = before-symbol o.inside o.is l in
        let inner = alternative-of g o.within.0 a in
        let e = entry o.dot a o.inside w l (derived-productive g held inner d) in
        let from : From (rule_at c o.dot) e.dot i = record {
          inside = (shape.names o.dot o.inside w.kind).0;
          on = o.on;
          listed = e.listed;
          begins = left.begin o.dot i o.inside o.on w.kind o.used;
        } in
        let r = run d inner (rule_at c o.dot) e.dot i e.dot from e.is b here in
        record {
          dot = o.dot + 1;
          inside = w.next;
          on = b;
          is = w.rest;
          used = (steps-over k left o.inside o.is l d b o.used).1;
          stood = past-symbol o.stood w.kind (record { first = e.dot; last = r.last; listed = e.listed; steps = r.steps; end = r.end });
          within = o.within.1;
        }

    -- as many characters of the terminal after a dot are begun as the code counts
    begun-at : (p i : ℕ) → p < size → Begun Tb c R p i (begun (after_dot dots p) (drop i R))
    begun-at p i h = go (k.stands p h)
      where
        go : On (Token Tb) c g dots k.heads p → Begun Tb c R p i (begun (after_dot dots p) (drop i R))
        go (at-end z e) = record { terminal = λ y. absurd (omega (arith, y, z)); other = λ _. ap (λ (ss : List Symbol). begun ss (drop i R)) e }
        go (at-terminal x z l e w a) = record {
          terminal = λ _ y t. ap (λ (ss : List Symbol). begun ss (drop i R)) e ∙ begun-same a.1 t.1 (drop i R);
          other = λ m. absurd (m z);
        }
        go (at_symbol u z l e m r d) = record { terminal = λ y. absurd (omega (arith, y, z)); other = λ _. ap (λ (ss : List Symbol). begun ss (drop i R)) e ∙ none (first_of u) }
          where
            none : First u → begun (u ∷ after_dot dots (p + 1)) (drop i R) ≡ 0
            none (is-literal y x q) = absurd (m _ q)
            none (no-literal q) = q (after_dot dots (p + 1)) (drop i R)

    -- the root has an alternative that can be finished
    root-there : {t : Row} {w : Text} {j : ℕ} → T (all known w) → Derives g w t (root g ∷ []) 0 j → (ss : List Symbol) × Stands g R ss 0
    root-there v (d-node {a = a} l d d-end) = (alternative g (root g) a, at-root l (derived-productive g v (alternative-of g (root-inside g).0 a) d))

    module _ (tokened : Tokened Tb c size) (short : length R ≤ 200) {r : ℕ} (bound : (p i k : ℕ) → p < size → i ≤ n → Stood c L M n top p i → Touch Tb c R p i k → k ≤ r) where
      most : {ss : List Symbol} {i : ℕ} → Stands g R ss i → i + begun ss (drop i R) ≤ r
      most {ss} {i} z =
          let o = found z in
          let e : begun (after_dot dots o.dot) (drop i R) ≡ begun ss (drop i R) = ap (λ (ts : List Symbol). begun ts (drop i R)) o.is in
          bound o.dot i (i + begun ss (drop i R)) o.inside o.on o.stood
          (record { count = begun ss (drop i R); begun = subst (Begun Tb c R o.dot i) e (begun-at o.dot i o.inside); is = refl })

      reached : (p i : ℕ) → p < size → i ≤ n → Stood c L M n top p i → Touch Tb c R p i r → Farthest g R r
      reached p i h l s t =
          let v = standing k shape left only prod f s in
          let ranging : Ranging Tb c R size i = record { tokened = tokened; short = short; on = l } in
          let e = one-begun ranging h t.begun (begun-at p i h) in
          record { symbols = after_dot dots p; place = i; stands = v.stands; is = omega (arith, t.is, e); most = most }

      farthest : (r ≡ 0) ⊎ ((p : ℕ) × (i : ℕ) × (p < size) × (i ≤ n) × Stood c L M n top p i × Touch Tb c R p i r) → Farthest g R r
      farthest (inl z) =
          let y = root-produces g prod in
          let w = root-there y.held y.derives in
          record { symbols = w.0; place = 0; stands = w.1; is = omega (arith, z, most w.1); most = most }
      farthest (inr z) = reached z.0 z.1 z.2 z.3 z.4 z.5

  pub confirmed-fault : {r : ℕ} → Tokened Tb c size → length R ≤ 200 → unproductive g ≡ false → T (all known R) → Confirmed Tb R c M size top r → FaultAt g R r
  confirmed-fault t short prod held w = farthest-fault g R held (farthest prod held w.listed t short w.most w.is)
