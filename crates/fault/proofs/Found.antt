-- The place that the search finds is that of the fault.
use mathlib.Core.Bool.{false}
use mathlib.Core.List.{List, [], ◌∷◌}
use mathlib.Core.Logic.{⊎_elim}
use mathlib.Core.Path.{◌≡◌, refl, sym, ap, subst, ◌∙◌}
use Prim.Native.Nat.{ℕ, ◌+◌, ◌<◌, ◌≤◌}
use native.Mathlib.Omega.{arith}
use lib.Dec.{T}
use lib.ListN.{length, get_or, drop}
use Rattle.text.specs.Lists.{Text, all}
use Rattle.text.specs.Utf8.{known}
use Rattle.tree.specs.Tree.{Terminal, Symbol, terminal, Grammar}
use Rattle.plain.specs.Plain.{alts, width}
use Rattle.derive.specs.Derive.{Row, Derives, d-end, d-node, alternative, root}
use Rattle.derive.specs.Yield.{productive, unproductive}
use Rattle.derive.proofs.Rows.{forward}
use Rattle.derive.proofs.Symbols.{alternative-of, root-inside}
use Rattle.derive.proofs.Productive.{derived-productive}
use Rattle.viable.specs.Fault.{FaultAt}
use Rattle.viable.specs.Stands.{begun, Stands, at-root, past-terminal, into, past-symbol, Farthest}
use Rattle.viable.proofs.Sound.{First, is-literal, no-literal, first_of}
use Rattle.viable.proofs.Fault.{root-produces, farthest-fault}
use Rattle.chart.specs.Code.{next_kind, goes_at, rule_at, owner_at, after_dot, head_of, On, at-end, at-terminal, at_symbol, Ruled}
use Rattle.chart.specs.Heights.{none}
use Rattle.heights.proofs.Part.{find, Attained, RuleLow, Stays, toward-rule}
use Rattle.heights.proofs.PartSays.{lower}
use Rattle.rules.specs.Ready.{Token}
use Rattle.left_pass.proofs.Shifts.{fits-within}
use Rattle.reach.specs.Flags.{Reached, Fits, Ends, Wanted, home_of, LeftClosed, FitsOnly}
use Rattle.reach.proofs.Closed.{home-first, home-next, steps-over}
use Rattle.reach.proofs.Stays.{goes_on, named}
use Rattle.sparse.specs.Cells.{rule_of, rest_of, Shape, Tables}
use Rattle.stands.proofs.Laws.{list-below}
use Rattle.fault.specs.Firsts.{Tokened, Firsts}
use Rattle.fault.proofs.Ranges.{one-begun}
use Rattle.stands.specs.State.{Exact}
use Rattle.sparse.specs.Steps.{Flagged, LeastOn}
use Rattle.prepare.proofs.Rows.{ruled-as}
use Rattle.stands.specs.Viable.{Begins, by-terminal, by-entering, by-passing, Viable, at_first, onward}
use Rattle.fault.specs.Far.{Begun, Placed}
use Rattle.fault.specs.Far as far
use Rattle.fault.proofs.Alike.{begun-same}
use Rattle.fault.proofs.Model.{first-alive, alive-first}

-- the code, with flags in the place of its terminals' tokens
unfoldable pub flagged : {Tb c M : List ℕ} {R : Text} {size top first : ℕ} {g : Grammar} → Ruled (Token Tb) c g size top first → LeftClosed (Token Tb) c R size top M → FitsOnly (Token Tb) c R size M
    → Ruled (Flagged M R) c g size top first
flagged k left only = ruled-as (λ p x h z a i b. (λ f. only p i x h b z f a, λ u t. (left.fit p i x h b z u a t).0)) k

-- flags of the pass from the left, with every end wanted, and a table filled by them
pub record Searched (Tb c M F H : List ℕ) (R : Text) (size top first : ℕ) (g : Grammar) (k : Ruled (Token Tb) c g size top first) : Type 0 where
  pub tables : Tables c M F size (length R) (length H)
  pub left : LeftClosed (Token Tb) c R size top M
  pub only : FitsOnly (Token Tb) c R size M
  pub wants : (e j : ℕ) → e < size → j ≤ length R → Ends M e j → Wanted M e j
  pub least : (i j : ℕ) → i ≤ j → j ≤ length R → LeastOn c M F size (length R) H i j
  pub attained : (i j : ℕ) → i ≤ j → j ≤ length R → Attained (flagged k left only) R (home_of c) (Fits M) (Reached M) (Wanted M) (rule_of c M F (length R) H) (rest_of c M F (length R) H) i j

module _ {Tb c M F H : List ℕ} {R : Text} {size top first : ℕ} {g : Grammar} (k : Ruled (Token Tb) c g size top first) (s : Searched Tb c M F H R size top first g k)
    (tokened : Tokened Tb c size) where
  abbrev n : ℕ
  n = length R

  abbrev dots : List (List Symbol)
  dots = k.dots

  -- a dot before a symbol with alternatives; before a terminal
  record Named (p : ℕ) (u : Symbol) (ss : List Symbol) : Type 0 where
    kind : next_kind c p ≡ 2
    next : p + 1 < size
    rest : after_dot dots (p + 1) ≡ ss
    same : alts g (head_of g k.heads (rule_at c p)) ≡ alts g u

  before-symbol : {p a : ℕ} {u : Symbol} {ss : List Symbol} → p < size → after_dot dots p ≡ u ∷ ss → a < length (alts g u) → Named p u ss
  before-symbol {p} {a} {u} {ss} h is l = go (k.stands p h)
    where
      go : On (Token Tb) c g dots k.heads p → Named p u ss
      go (at-end z e) = absurd (let q : ◌≡◌ {A = ℕ} 0 1 = cc in omega arith)
      go (at-terminal x z b e w a') = absurd (let q : u ≡ terminal x = cc in let y : a < 0 = subst (λ (v : Symbol). a < length (alts g v)) q l in omega arith)
      go (at_symbol v z b e m r d) = let q : v ≡ u = cc in record { kind = z; next = omega (arith, k.count); rest = cc; same = d ∙ ap (alts g) q }

  record Spelt (p : ℕ) (x : Terminal) (ss : List Symbol) : Type 0 where
    kind : next_kind c p ≡ 1
    next : p + 1 < size
    rest : after_dot dots (p + 1) ≡ ss
    goes : goes_at c p ≡ width x
    token : Token Tb p x

  before-terminal : {p : ℕ} {x : Terminal} {ss : List Symbol} → p < size → after_dot dots p ≡ terminal x ∷ ss → Spelt p x ss
  before-terminal {p} {x} {ss} h is = go (k.stands p h)
    where
      go : On (Token Tb) c g dots k.heads p → Spelt p x ss
      go (at-end z e) = absurd (let q : ◌≡◌ {A = ℕ} 0 1 = cc in omega arith)
      go (at-terminal y z b e w a) = let q : y ≡ x = cc in record { kind = z; next = omega (arith, k.count); rest = cc; goes = w ∙ ap width q; token = subst (Token Tb p) q a }
      go (at_symbol v z b e m r d) = absurd (m x cc)

  stays : Stays (flagged k s.left s.only) R (home_of c) (Fits M) (Reached M) (Wanted M)
  unfolding flagged ruled-as
  stays = record {
    next-home = λ p h z. home-next c p (k.inner p (omega (arith, goes_on (k.stands p h) z, k.count)) z);
    shifts = λ p i x h b z u a f. shifts p i h b z u ((a i b).1 u f) (k.stands p h);
    enters = λ p q i h hq b z u o. (s.left.first q _ i hq b o (s.left.begin p i h b z u), home-first c q _ o);
    passes = λ p i m h e l d b u. (steps-over k s.left h e l d b u).1;
    wants = λ p i m j h e l d f b u y. (let q = forward g R f in
        let w = before-symbol h e l in
        s.wants (rule_at c p) m (omega (arith, named (k.stands p h) w.kind, k.count)) (omega arith) (steps-over k s.left h e l d (omega arith) u).0);
  }
    where
      shifts : (p i : ℕ) → p < size → i ≤ n → next_kind c p ≡ 1 → Reached M p i → Fits M p i → On (Token Tb) c g dots k.heads p → Fits M p i × Reached M (p + 1) (i + goes_at c p)
      shifts p i h b z u f (at-end q e) = absurd (omega arith)
      shifts p i h b z u f (at-terminal x q l e w a) = s.left.fit p i x h b z u a (s.only p i x h b z f a)
      shifts p i h b z u f (at_symbol v q l e m w d) = absurd (omega arith)

  -- a rule that derives something after a dot that is reached has a height
  height-there : {p i m a : ℕ} {u : Symbol} {ss : List Symbol} {d : Row} → p < size → after_dot dots p ≡ u ∷ ss → a < length (alts g u) → Derives g R d (alternative g u a) i m → m ≤ n
      → Reached M p i → rule_of c M F n H (rule_at c p) i m < none
  unfolding flagged ruled-as
  height-there {p} {i} {m} {a} {u} h is l d b r =
      let w = before-symbol h is l in
      let f = find (k.chains p h w.kind) a (rw w.same l) in
      let q = f.place in
      let hq : f.place < size = omega (arith, f.inside, k.count) in
      let x = forward g R d in
      let used = s.left.first q (rule_at c p) i hq (omega arith) f.owned (s.left.begin p i h (omega arith) w.kind r) in
      let live = s.wants (rule_at c p) m (omega (arith, named (k.stands p h) w.kind, k.count)) b (steps-over k s.left h is l d b r).0 in
      let y = lower (flagged k s.left s.only) R s.tables.shape.small s.tables.short (home_of c) (Fits M) (Reached M) (Wanted M) stays
      (rule_of c M F n H) (rest_of c M F n H) s.least d q
      (record {
        inside = hq;
        is = f.is ∙ ap (λ (ts : List (List Symbol)). get_or ts a []) w.same;
        stop = b;
        used = used;
        live = subst (λ (e : ℕ). Wanted M e m) (sym (home-first c q (rule_at c p) f.owned)) live;
      }) in
      let e = toward-rule c (rule_of c M F n H) (rest_of c M F n H) q (rule_at c p) i m f.owned in
      omega (arith, y.some)

  attained-rule : (q e i m : ℕ) → q < size → owner_at c q ≡ e + 1 → i ≤ m → m ≤ n → rule_of c M F n H e i m < none → RuleLow g R (rule_of c M F n H e i m) (head_of g k.heads e) i m
  unfolding flagged ruled-as
  attained-rule q e i m h o lo hi l = (s.attained i m lo hi).rules q e h o l

  -- what is viable stands, and is reached
  pub record Standing (L : List ℕ) (p i : ℕ) : Type 0 where
    pub inside : p < size
    pub on : i ≤ n
    pub used : Reached M p i
    pub stands : Stands g R (after_dot dots p) i

  module _ (prod : unproductive g ≡ false) {L : List ℕ} (f : Firsts Tb c size L) where
    abbrev shape : Shape c size
    shape = s.tables.shape

    -- an alternative of a rule, by its first dot
    record Alternative (q : ℕ) (u : Symbol) : Type 0 where
      number : ℕ
      exists : number < length (alts g u)
      is : after_dot dots q ≡ alternative g u number
      alive : T (all (productive g) (alternative g u number))

    alternative-at : (q e : ℕ) (u : Symbol) → e < size → Begins L e q → alts g (head_of g k.heads e) ≡ alts g u → Alternative q u
    alternative-at q e u h b d =
        let w = first-alive k shape prod f q e h b in
        let o = k.owned q e w.0 w.1 in
        let is : after_dot dots q ≡ alternative g u o.number = o.is ∙ ap (λ (ts : List (List Symbol)). get_or ts o.number []) d in
        record {
          number = o.number;
          exists = subst (λ (ts : List (List Symbol)). o.number < length ts) d o.exists;
          is = is;
          alive = subst (λ (ss : List Symbol). T (all (productive g) ss)) is w.2;
        }

    entered : (q e i : ℕ) (u : Symbol) → e < size → i ≤ n → Begins L e q → alts g (head_of g k.heads e) ≡ alts g u → Reached M q i
        → ((a : ℕ) → a < length (alts g u) → T (all (productive g) (alternative g u a)) → Stands g R (alternative g u a) i) → Standing L q i
    entered q e i u h l b d r go =
        let a = alternative-at q e u h b d in
        record {
          inside = list-below f.linked h q b;
          on = l;
          used = r;
          stands = subst (λ (ss : List Symbol). Stands g R ss i) (sym a.is) (go a.number a.exists a.alive);
        }

    viable-stands : {p i : ℕ} → Viable c L M F H n top p i → Standing L p i
    viable-stands (at_first {q} b) =
        let t = k.root-inside in
        let w = first-alive k shape prod f q top t b in
        entered q top 0 (root g) t (omega arith) b k.root-head (s.left.first q top 0 w.0 (omega arith) w.1 s.left.root) (λ a l v. at-root l v)
    viable-stands (onward {p} {i} v (by-terminal z y)) = go (viable-stands v) (k.stands p (viable-stands v).inside)
      where
        go : Standing L p i → On (Token Tb) c g dots k.heads p → Standing L (p + 1) (i + goes_at c p)
        go o (at-end q e) = absurd (omega arith)
        go o (at_symbol u q l e m r d) = absurd (omega arith)
        go o (at-terminal x q l e w a) =
            let fit = s.only p i x o.inside o.on z y a in
            let far = fits-within x R i o.on fit in
            record {
              inside = omega (arith, k.count);
              on = omega (arith, far, w);
              used = (s.left.fit p i x o.inside o.on z o.used a fit).1;
              stands = subst (λ (b : ℕ). Stands g R (after_dot dots (p + 1)) (i + b)) (sym w) (past-terminal (subst (λ (ss : List Symbol). Stands g R ss i) e o.stands) fit far);
            }
    viable-stands (onward {p} {i} {q} v (by-entering z b)) = go (viable-stands v) (k.stands p (viable-stands v).inside)
      where
        go : Standing L p i → On (Token Tb) c g dots k.heads p → Standing L q i
        go o (at-end y e) = absurd (omega arith)
        go o (at-terminal x y l e w a) = absurd (omega arith)
        go o (at_symbol u y l e m r d) =
            let h = (shape.names p o.inside z).0 in
            let w = first-alive k shape prod f q (rule_at c p) h b in
            entered q (rule_at c p) i u h o.on b d (s.left.first q (rule_at c p) i w.0 o.on w.1 (s.left.begin p i o.inside o.on z o.used))
            (λ a x t. into (subst (λ (ss : List Symbol). Stands g R ss i) e o.stands) x t)
    viable-stands (onward {p} {i} {k = m} v (by-passing z lo hi y)) = go (viable-stands v) (k.stands p (viable-stands v).inside)
      where
        go : Standing L p i → On (Token Tb) c g dots k.heads p → Standing L (p + 1) m
        go o (at-end q e) = absurd (omega arith)
        go o (at-terminal x q l e w a) = absurd (omega arith)
        go o (at_symbol u q l e t r d) =
            let nm = shape.names p o.inside z in
            let low = attained-rule (goes_at c p) (rule_at c p) i m nm.1 nm.2 lo hi y in
            let ex : low.number < length (alts g u) = subst (λ (ts : List (List Symbol)). low.number < length ts) d low.exists in
            let de = subst (λ (ts : List (List Symbol)). Derives g R low.low.row (get_or ts low.number []) i m) d low.low.derives in
            record {
              inside = omega (arith, k.count);
              on = hi;
              used = (steps-over k s.left o.inside e ex de hi o.used).1;
              stands = past-symbol (subst (λ (ss : List Symbol). Stands g R ss i) e o.stands) ex de hi;
            }

    -- what stands is viable
    record AtDot (ss : List Symbol) (i : ℕ) : Type 0 where
      dot : ℕ
      inside : dot < size
      on : i ≤ n
      is : after_dot dots dot ≡ ss
      used : Reached M dot i
      viable : Viable c L M F H n top dot i

    stands-viable : {ss : List Symbol} {i : ℕ} → Stands g R ss i → AtDot ss i
    stands-viable (at-root {a} l t) =
        let w = find k.root-chain a l in
        let h : w.place < size = omega (arith, w.inside, k.count) in
        record {
          dot = w.place;
          inside = h;
          on = omega arith;
          is = w.is;
          used = s.left.first w.place top 0 h (omega arith) w.owned s.left.root;
          viable = at_first (alive-first k shape prod f w.place top h w.owned (subst (λ (ss : List Symbol). T (all (productive g) ss)) (sym w.is) t));
        }
    stands-viable (past-terminal {x} {ss} {i} z fit far) =
        let o = stands-viable z in
        let w = before-terminal o.inside o.is in
        let y = s.left.fit o.dot i x o.inside o.on w.kind o.used w.token fit in
        record {
          dot = o.dot + 1;
          inside = w.next;
          on = far;
          is = w.rest;
          used = subst (λ (b : ℕ). Reached M (o.dot + 1) (i + b)) w.goes y.1;
          viable = subst (λ (b : ℕ). Viable c L M F H n top (o.dot + 1) (i + b)) w.goes (onward o.viable (by-terminal w.kind y.0));
        }
    stands-viable (into {s = u} {ss = ss} {a = a} {i = i} z l t) =
        let o = stands-viable z in
        let w = before-symbol o.inside o.is l in
        let e = find (k.chains o.dot o.inside w.kind) a (rw w.same l) in
        let h : e.place < size = omega (arith, e.inside, k.count) in
        let is : after_dot dots e.place ≡ alternative g u a = e.is ∙ ap (λ (ts : List (List Symbol)). get_or ts a []) w.same in
        record {
          dot = e.place;
          inside = h;
          on = o.on;
          is = is;
          used = s.left.first e.place (rule_at c o.dot) i h o.on e.owned (s.left.begin o.dot i o.inside o.on w.kind o.used);
          viable = onward o.viable (by-entering w.kind (alive-first k shape prod f e.place (rule_at c o.dot) h e.owned
              (subst (λ (ss : List Symbol). T (all (productive g) ss)) (sym is) t)));
        }
    stands-viable (past-symbol {s = u} {a = a} {i = i} {m = m} z l d b) =
        let o = stands-viable z in
        let w = before-symbol o.inside o.is l in
        record {
          dot = o.dot + 1;
          inside = w.next;
          on = b;
          is = w.rest;
          used = (steps-over k s.left o.inside o.is l d b o.used).1;
          viable = onward o.viable (by-passing w.kind (forward g R d) b (height-there o.inside o.is l d b o.used));
        }

    -- as many characters of the terminal after a dot are begun as the code counts
    begun-at : (p i : ℕ) → p < size → Begun Tb c R p i (begun (after_dot dots p) (drop i R))
    begun-at p i h = go (k.stands p h)
      where
        go : On (Token Tb) c g dots k.heads p → Begun Tb c R p i (begun (after_dot dots p) (drop i R))
        go (at-end z e) = record { terminal = λ y. absurd (omega arith); other = λ _. ap (λ (ss : List Symbol). begun ss (drop i R)) e }
        go (at-terminal x z l e w a) = record {
          terminal = λ _ y t. ap (λ (ss : List Symbol). begun ss (drop i R)) e ∙ begun-same a.1 t.1 (drop i R);
          other = λ n. absurd (n z);
        }
        go (at_symbol u z l e m r d) = record { terminal = λ y. absurd (omega arith); other = λ _. ap (λ (ss : List Symbol). begun ss (drop i R)) e ∙ none (first_of u) }
          where
            none : First u → begun (u ∷ after_dot dots (p + 1)) (drop i R) ≡ 0
            none (is-literal y x q) = absurd (m _ q)
            none (no-literal q) = q (after_dot dots (p + 1)) (drop i R)

    -- the root has an alternative that can be finished
    root-there : {t : Row} {w : Text} {j : ℕ} → T (all known w) → Derives g w t (root g ∷ []) 0 j → (ss : List Symbol) × Stands g R ss 0
    root-there v (d-node {a = a} l d d-end) = (alternative g (root g) a, at-root l (derived-productive g v (alternative-of g (root-inside g).0 a) d))

    module _ {W : List ℕ} {r : ℕ} (x : Exact c L M F H W size n top) (reach : far.Reach Tb c R W size (n + 1) r) where
      most : {ss : List Symbol} {i : ℕ} → Stands g R ss i → i + begun ss (drop i R) ≤ r
      most {ss} {i} z =
          let o = stands-viable z in
          let w = x.complete o.dot i o.viable in
          let e : begun (after_dot dots o.dot) (drop i R) ≡ begun ss (drop i R) = ap (λ (ts : List Symbol). begun ts (drop i R)) o.is in
          reach.most o.dot i (i + begun ss (drop i R)) (omega (arith, o.on))
          (record { inside = o.inside; stood = w.2; count = begun ss (drop i R); begun = subst (Begun Tb c R o.dot i) e (begun-at o.dot i o.inside); is = refl })

      here : {p i : ℕ} → i ≤ n → far.Reached Tb c R W size p i r → Farthest g R r
      here {p} {i} l o =
          let v = viable-stands (x.sound p i o.inside l o.stood) in
          let ranging : far.Ranging Tb c R size i = record { tokened = tokened; short = s.tables.short; on = l } in
          let e = one-begun ranging o.inside o.begun (begun-at p i o.inside) in
          record { symbols = after_dot dots p; place = i; stands = v.stands; is = omega (arith, o.is, e); most = most }

      pub farthest : T (all known R) → Farthest g R r
      farthest held = ⊎_elim
          (λ z. let y = root-produces g prod in
          let w = root-there y.held y.derives in
          record { symbols = w.0; place = 0; stands = w.1; is = omega (arith, z, most w.1); most = most })
          (λ z. here (omega (arith, z.2)) z.3)
          reach.is

-- the place that is found
pub found-fault : {Tb c M F H : List ℕ} {R : Text} {size top first r : ℕ} {g : Grammar} (k : Ruled (Token Tb) c g size top first) → Searched Tb c M F H R size top first g k → Tokened Tb c size
    → unproductive g ≡ false → T (all known R) → Placed Tb R c M F H size top r → FaultAt g R r
found-fault {R = R} {g = g} k s t prod held p = farthest-fault g R held (farthest k s t prod p.listed p.exact p.reach held)
