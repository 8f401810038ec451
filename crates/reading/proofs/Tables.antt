-- What the tables of a grammar and a record say: values of positions, rules, and rows of alternatives.
use mathlib.Core.Path.{◌≡◌, refl, sym, ap, subst}
use mathlib.Core.List.Memᴰ.{head as in_head}
use mathlib.Core.List.{List, [], ◌∷◌, Memᴰ as Memb}
use Prim.Native.Nat.{ℕ, zero, suc, ◌+◌, ◌<◌, ◌≤◌}
use native.Mathlib.Decide.{ℕ_discrete, dec_lt}
use native.Mathlib.Omega.{arith}
use mir.Syntax.{w32}
use lib.Dec.{T}
use lib.ListN.{length, get_or, drop}
use Rattle.text.specs.Limits.{record_chars}
use Rattle.tree.specs.Tree.{Terminal, Symbol, terminal}
use Rattle.plain.specs.Plain.{alts, fits, width}
use Rattle.derive.specs.Derive.{Row, end, node, Derives, d-end, d-leaf, d-node, height, root}
use Rattle.derive.proofs.Rows.{forward}
use Rattle.derive.proofs.Bound.{bounded}
use Rattle.derive.proofs.Levels.{Low}
use Rattle.derive.proofs.Symbols.{in-inside}
use Rattle.chart.specs.Code.{next_kind, goes_at, rule_at, owner_at, after_dot, head_of, On, at-end, at-terminal, at_symbol, Chain, ch-last, ch-next}
use Rattle.chart.specs.Heights.{none, Says, says_none, says-height, SaysRule}
use Rattle.chart.proofs.Says.{rule-same, rule-least, rule-some}
use Rattle.heights.specs.Filling.{Any}
use Rattle.heights.specs.Part.{Least}
use Rattle.heights.proofs.Part.{RuleLow, Spot, offered, offers-low, rule-first}
use Rattle.heights.proofs.PartSays.{top_small, says, Begun, says-rule}
use Rattle.reach.specs.Flags.{Fits, Reached, Wanted, home_of}
use Rattle.reach.proofs.Closed.{home-first}
use Rattle.sparse.specs.Cells.{rule_of, rest_of}
use Rattle.sparse.specs.Steps.{Flagged}
use Rattle.splits.specs.Splits.{split_at, value_at, Ready, Position}
use Rattle.candidates.specs.Candidates.{Ends, Line, ln-last, ln-next}
use Rattle.reading.specs.Answer.{Finished}
use mir.Val.{Fits as FitsIn}
use Rattle.splits.proofs.Values.{Small, both, rule-most, rest-most, value-most, value_low, value-offer}

-- finished tables, of numbers that fit
pub record Known (c M F H : List ℕ) (size n top first : ℕ) : Type 0 where
  pub of : Finished c M F H size n top first
  pub small : Small F H

pub small_of : {F H : List ℕ} → ((x : ℕ) → FitsIn w32 (get_or F x 0)) → ((x : ℕ) → FitsIn w32 (get_or H x 0)) → Small F H
small_of f h = record { noted = λ x. omega (arith, f x); cell = λ x. omega (arith, h x) }

module _ {c M F H : List ℕ} {size n top first : ℕ} (K : Known c M F H size n top first) where
  abbrev t : Finished c M F H size n top first
  t = K.of

  abbrev dots : List (List Symbol)
  dots = t.code.dots

  abbrev heads : List Symbol
  heads = t.code.heads

  abbrev Here : ℕ → Type 0
  Here p = On (Flagged M t.r) c t.g dots heads p

  kind-by : {p : ℕ} → Here p → next_kind c p ≤ 2
  kind-by (at-end z b) = omega arith
  kind-by (at-terminal x z u b w f) = omega arith
  kind-by (at_symbol s z u b f e a) = omega arith

  pub position : (p : ℕ) → p < size → Position c size p
  position p h = record { inside = h; kind = kind-by (t.code.stands p h) }

  pub ready : {i j : ℕ} → i ≤ j → j ≤ n → Ready c M F H size n i j
  ready a b = record { tables = t.tables; order = a; inside = b }

  pub short : length t.r ≤ record_chars
  short = omega (arith, t.long, t.tables.short)

  counted : (p : ℕ) → p < length dots → p < size
  counted p h = omega (arith, t.code.count)

  abbrev least : (i j : ℕ) → i ≤ j → j ≤ length t.r → Least c size (home_of c) (Fits M) (Reached M) (Wanted M) (rule_of c M F n H) (rest_of c M F n H) i j
  least i j a b = t.least i j a (omega (arith, t.long))

  -- the dot p is reached at i, and its rule wanted at j
  abbrev pub Placed : ℕ → ℕ → ℕ → Type 0
  Placed p i j = Spot t.code t.r (home_of c) (Fits M) (Reached M) (Wanted M) p i j (after_dot dots p)

  -- the rule e is wanted at j, and its alternatives are reached at i
  abbrev pub Started : ℕ → ℕ → ℕ → Type 0
  Started = Begun t.code t.r t.tables.shape.small short (home_of c) (Fits M) (Reached M) (Wanted M) t.stays (rule_of c M F n H) (rest_of c M F n H) least

  -- there the heights are the least
  rest-says : (p i j : ℕ) → i ≤ j → Placed p i j → owner_at c p ≡ 0 → Says t.g t.r (after_dot dots p) i j (rest_of c M F n H p i j)
  rest-says p i j l b o =
      says t.code t.r t.tables.shape.small short (home_of c) (Fits M) (Reached M) (Wanted M) t.stays (rule_of c M F n H) (rest_of c M F n H) least
      p i j l b o (rest-most c M F n H K.small p i j) (t.attained i j l (omega (arith, b.stop, t.long)))

  rule-says : (e i j : ℕ) → i ≤ j → Started e i j → SaysRule t.g t.r (head_of t.g heads e) i j (rule_of c M F n H e i j)
  rule-says e i j l b =
      says-rule t.code t.r t.tables.shape.small short (home_of c) (Fits M) (Reached M) (Wanted M) t.stays (rule_of c M F n H) (rest_of c M F n H) least
      e i j b (rule-most c M F n H K.small e i j) (t.attained i j l (omega (arith, b.stop, t.long)))

  -- the value of a dot is attained
  value_row : (p i j : ℕ) → p < size → i ≤ j → j ≤ n → value_at c M F n H p i j < none → Low t.g t.r (value_at c M F n H p i j) (after_dot dots p) i j
  value_row p i j h l k b =
      offered t.code t.r (home_of c) (Fits M) (Reached M) Any (rule_of c M F n H) (rest_of c M F n H) (λ p i x h b z f a. (a i b).0 f) i j (omega (arith, t.long))
      (λ m o x y z. let w = t.attained m o y (omega arith) in record { rules = w.rules; rests = w.rests }) p (value_at c M F n H p i j) h
      (value-offer c M F n H size (home_of c) (Reached M) p i j l (position p h).kind b) b

  -- and no row is lower
  record Under (p i j k : ℕ) : Type 0 where
    low : value_at c M F n H p i j ≤ k
    some : value_at c M F n H p i j < none

  under-by : {d : Row} (p i j : ℕ) → Placed p i j → Derives t.g t.r d (after_dot dots p) i j → height d < none → Under p i j (height d)
  under-by p i j b dd l =
      let o = offers-low t.code t.r (home_of c) (Fits M) (Reached M) (Wanted M) t.stays (rule_of c M F n H) (rest_of c M F n H) least dd l p b in
      let v = value_low c M F n H size (home_of c) (Reached M) p i j o.value o.offer o.some in
      record { low = omega (arith, o.low); some = omega (arith, o.some) }

  under : {d : Row} (p i j : ℕ) → Placed p i j → Derives t.g t.r d (after_dot dots p) i j → Under p i j (height d)
  under {d} p i j b dd = elim (dec_lt (height d) none) as (λ _. Under p i j (height d)) [
    | yes l ↦ under-by p i j b dd l
    | no l ↦
        (let u = bounded t.g t.r (in-inside t.g (after_dot dots p) (t.code.within p b.inside)) b.stop dd in
        let x = under-by p i j b u.derives (omega (arith, u.low, top_small t.code t.r t.tables.shape.small short)) in
        record { low = omega (arith, x.some); some = x.some })
  ]

  -- so it is the least height of what stands after the dot
  pub value-says : (p i j : ℕ) → i ≤ j → Placed p i j → Says t.g t.r (after_dot dots p) i j (value_at c M F n H p i j)
  value-says p i j l b = elim (dec_lt (value_at c M F n H p i j) none) as (λ _. Says t.g t.r (after_dot dots p) i j (value_at c M F n H p i j)) [
    | yes m ↦
        (let u = value_row p i j b.inside l (omega (arith, b.stop, t.long)) m in
        says-height {h = value_at c M F n H p i j} u.row u.derives (omega (arith, u.low, (under p i j b u.derives).low)) (λ d dd. (under p i j b dd).low) m)
    | no m ↦
        (let z : value_at c M F n H p i j ≡ none = omega (arith, value-most c M F n H K.small p i j) in
        rw z (says_none (λ d dd. omega (arith, (under p i j b dd).some))))
  ]

  -- an alternative runs to its end
  past : (p e : ℕ) → (next_kind c p ≡ 0 → ⊥) → Ends c (p + 1) e → Ends c p e
  past p e z w = record {
    order = omega (arith, w.order);
    inside = w.inside;
    is = w.is;
    before = λ x a b. elim (ℕ_discrete x p) as (λ _. next_kind c x ≡ 0 → ⊥) [ yes k ↦ subst (λ (y : ℕ). next_kind c y ≡ 0 → ⊥) (sym k) z | no k ↦ w.before x (omega arith) b ];
  }

  stop-by : (p e : ℕ) → p < size → length (after_dot dots p) ≡ 0 → p ≡ e → Here p → Ends c p e
  stop-by p e h l q (at-end z b) = record {
    order = omega arith;
    inside = omega (arith, t.tables.shape.room);
    is = subst (λ (x : ℕ). next_kind c x ≡ 0) q z;
    before = λ x a b'. absurd (omega arith);
  }
  stop-by p e h l q (at-terminal x z u b w f) = absurd (omega (arith, ap length b))
  stop-by p e h l q (at_symbol s z u b f v a) = absurd (omega (arith, ap length b))

  go-by : (m p e : ℕ) → length (after_dot dots p) ≡ suc m → (p + 1 < size → length (after_dot dots (p + 1)) ≡ m → Ends c (p + 1) e)
      → Here p → Ends c p e
  go-by m p e l f (at-end z b) = absurd (omega (arith, ap length b))
  go-by m p e l f (at-terminal x z u b w v) = past p e (λ y. omega arith) (f (counted (p + 1) u) (omega (arith, ap length b)))
  go-by m p e l f (at_symbol s z u b v w a) = past p e (λ y. omega arith) (f (counted (p + 1) u) (omega (arith, ap length b)))

  ends_at : (m p e : ℕ) → p < size → length (after_dot dots p) ≡ m → p + m ≡ e → Ends c p e
  ends_at zero p e h l q = stop-by p e h l (omega arith) (t.code.stands p h)
  ends_at (suc m) p e h l q = go-by m p e l (λ u w. ends_at m (p + 1) e u w (omega arith)) (t.code.stands p h)

  -- the first positions of the alternatives ts of the rule e
  pub record Chained (e q : ℕ) (ts : List (List Symbol)) : Type 0 where
    pub places : List ℕ
    pub line : Line c size q places
    pub same : length places ≡ length ts
    pub inside : (a : ℕ) → a < length ts → get_or places a 0 < size
    pub owned : (a : ℕ) → a < length ts → owner_at c (get_or places a 0) ≡ e + 1
    pub is : (a : ℕ) → a < length ts → after_dot dots (get_or places a 0) ≡ get_or ts a []

  pub chained : {e q : ℕ} {ts : List (List Symbol)} → Chain c dots e q ts → Chained e q ts
  chained {e = e} (ch-last {q} l o z s) =
      let h = counted q l in
      record {
        places = q ∷ [];
        line = ln-last (position q h) (ends_at (length (after_dot dots q)) q e h refl z) s;
        same = refl;
        inside = λ a. elim a as (λ a. a < 1 → get_or (q ∷ []) a 0 < size) [ zero ↦ λ _. h | suc b ↦ λ x. absurd (omega arith) ];
        owned = λ a. elim a as (λ a. a < 1 → owner_at c (get_or (q ∷ []) a 0) ≡ e + 1) [ zero ↦ λ _. o | suc b ↦ λ x. absurd (omega arith) ];
        is = λ a. elim a as (λ a. a < 1 → after_dot dots (get_or (q ∷ []) a 0) ≡ get_or (after_dot dots q ∷ []) a []) [ zero ↦ λ _. refl | suc b ↦ λ x. absurd (omega arith) ];
      }
  chained {e = e} (ch-next {q} {m} {ts} l o z u) =
      let h = counted q l in
      let w = chained u in
      record {
        places = q ∷ w.places;
        line = ln-next (position q h) (ends_at (length (after_dot dots q)) q (q + length (after_dot dots q)) h refl refl) z w.line;
        same = ap suc w.same;
        inside = λ a. elim a as (λ a. a < suc (length ts) → get_or (q ∷ w.places) a 0 < size) [ zero ↦ λ _. h | suc b ↦ λ x. w.inside b (omega arith) ];
        owned = λ a. elim a as (λ a. a < suc (length ts) → owner_at c (get_or (q ∷ w.places) a 0) ≡ e + 1) [ zero ↦ λ _. o | suc b ↦ λ x. w.owned b (omega arith) ];
        is =
            λ a. elim a as (λ a. a < suc (length ts) → after_dot dots (get_or (q ∷ w.places) a 0) ≡ get_or (after_dot dots q ∷ ts) a [])
            [ zero ↦ λ _. refl | suc b ↦ λ x. w.is b (omega arith) ];
      }

  -- the rule named e, whose first position is q, has the alternatives of s
  pub record RuleOf (s : Symbol) (e q : ℕ) : Type 0 where
    pub other : (x : Terminal) → s ≡ terminal x → ⊥
    pub inside : e < size
    pub alternatives : Chained e q (alts t.g s)
    -- where it is started, its height is the least
    pub says : (i j : ℕ) → i ≤ j → Started e i j → SaysRule t.g t.r s i j (rule_of c M F n H e i j)

  rule-of : (s : Symbol) (e q : ℕ) → ((x : Terminal) → s ≡ terminal x → ⊥) → e < size
      → alts t.g (head_of t.g heads e) ≡ alts t.g s → Chain c dots e q (alts t.g s) → RuleOf s e q
  rule-of s e q f h a u = record { other = f; inside = h; alternatives = chained u; says = λ i j l b. rule-same t.g t.r f a (rule-says e i j l b) }

  pub root-rule : RuleOf (root t.g) top first
  root-rule = rule-of (root t.g) top first (λ x e. root-other x e) t.code.root-inside t.code.root-head t.code.root-chain
    where
      root-other : (x : Terminal) → root t.g ≡ terminal x → ⊥
      root-other x e = let z : ◌≡◌ {A = ℕ} 0 1 = cc in omega arith

  pub root-started : (j : ℕ) → j ≡ n → Started top 0 j
  root-started j e = record {
    inside = t.code.root-inside;
    stop = omega (arith, t.long);
    live = subst (λ (z : ℕ). Wanted M top z) (sym e) t.live;
    from = first;
    chain = subst (λ (ls : List (List Symbol)). Chain c dots top first ls) (sym t.code.root-head) t.code.root-chain;
    used = λ q h o. (t.used q h o, home-first c q top o);
  }

  -- the alternatives of a rule that is started
  pub alternative-placed : {s : Symbol} {e q i j : ℕ} (u : RuleOf s e q) → Started e i j → (a : ℕ) → a < length (alts t.g s) → Placed (get_or u.alternatives.places a 0) i j
  alternative-placed {j = j} u b a l =
      let w = u.alternatives in
      let h = w.inside a l in
      let y = b.used (get_or w.places a 0) h (w.owned a l) in
      record { inside = h; is = refl; stop = b.stop; used = y.0; live = subst (λ (z : ℕ). Wanted M z j) (sym y.1) b.live }

  -- what stands at a position
  pub record TerminalAt (p : ℕ) : Type 0 where
    pub x : Terminal
    pub next : p + 1 < size
    pub is : after_dot dots p ≡ terminal x ∷ after_dot dots (p + 1)
    pub wide : goes_at c p ≡ width x
    pub flagged : Flagged M t.r p x

  pub record SymbolAt (p : ℕ) : Type 0 where
    pub s : Symbol
    pub kind : next_kind c p ≡ 2
    pub alike : alts t.g (head_of t.g heads (rule_at c p)) ≡ alts t.g s
    pub next : p + 1 < size
    pub is : after_dot dots p ≡ s ∷ after_dot dots (p + 1)
    pub rule : RuleOf s (rule_at c p) (goes_at c p)

  end_by : {p : ℕ} → Here p → next_kind c p ≡ 0 → after_dot dots p ≡ []
  end_by (at-end z b) k = b
  end_by (at-terminal x z u b w f) k = absurd (omega arith)
  end_by (at_symbol s z u b f e a) k = absurd (omega arith)

  pub end-at : (p : ℕ) → p < size → next_kind c p ≡ 0 → after_dot dots p ≡ []
  end-at p h k = end_by (t.code.stands p h) k

  terminal-by : {p : ℕ} → Here p → next_kind c p ≡ 1 → TerminalAt p
  terminal-by (at-end z b) k = absurd (omega arith)
  terminal-by {p} (at-terminal x z u b w f) k = record { x = x; next = counted (p + 1) u; is = b; wide = w; flagged = f }
  terminal-by (at_symbol s z u b f e a) k = absurd (omega arith)

  pub terminal-at : (p : ℕ) → p < size → next_kind c p ≡ 1 → TerminalAt p
  terminal-at p h k = terminal-by (t.code.stands p h) k

  symbol-by : {p : ℕ} → p < size → Here p → next_kind c p ≡ 2 → SymbolAt p
  symbol-by h (at-end z b) k = absurd (omega arith)
  symbol-by h (at-terminal x z u b w f) k = absurd (omega arith)
  symbol-by {p} h (at_symbol s z u b f e a) k = record {
    s = s;
    kind = z;
    alike = a;
    next = counted (p + 1) u;
    is = b;
    rule = rule-of s (rule_at c p) (goes_at c p) f (counted (rule_at c p) e) a (subst (λ (ls : List (List Symbol)). Chain c dots (rule_at c p) (goes_at c p) ls) a (t.code.chains p h z));
  }

  pub symbol-at : (p : ℕ) → p < size → next_kind c p ≡ 2 → SymbolAt p
  symbol-at p h k = symbol-by h (t.code.stands p h) k

  -- past a terminal
  terminal-fits : {d : Row} {x : Terminal} {ss : List Symbol} {i j : ℕ} → Derives t.g t.r d (terminal x ∷ ss) i j → T (fits x (drop i t.r))
  terminal-fits (d-leaf f d) = f
  terminal-fits (d-node l c d) = absurd (omega arith)

  pub terminal-placed : {d : Row} {p i j : ℕ} → Placed p i j → next_kind c p ≡ 1 → (u : TerminalAt p) → Derives t.g t.r d (after_dot dots p) i j
      → Placed (p + 1) (i + width u.x) j
  terminal-placed {d} {p} {i} {j} b z u dd =
      let f = terminal-fits (subst (λ (ss : List Symbol). Derives t.g t.r d ss i j) u.is dd) in
      let w = t.stays.shifts p i u.x b.inside (omega (arith, forward t.g t.r dd, b.stop)) z b.used u.flagged f in
      record {
        inside = u.next;
        is = refl;
        stop = b.stop;
        used = subst (λ (a : ℕ). Reached M (p + 1) (i + a)) u.wide w.1;
        live = subst (λ (a : ℕ). Wanted M a j) (sym (t.stays.next-home p b.inside (λ y. omega arith))) b.live;
      }

  -- the children of a node
  children-of : {d : Row} {s : Symbol} {i m : ℕ} → ((x : Terminal) → s ≡ terminal x → ⊥) → Derives t.g t.r d (s ∷ []) i m → RuleLow t.g t.r (height d) s i m
  children-of f (d-leaf {x} l d-end) = absurd (f x refl)
  children-of f (d-node {c = u} {a = a} l d d-end) = record { number = a; exists = l; low = record { row = u; derives = d; low = omega arith } }

  -- a symbol that ends at m, and what stands after it
  pub record Halves (p i j m : ℕ) (s : Symbol) : Type 0 where
    pub started : Started (rule_at c p) i m
    pub placed : Placed (p + 1) m j
    pub one : SaysRule t.g t.r s i m (rule_of c M F n H (rule_at c p) i m)
    pub others : Says t.g t.r (after_dot dots (p + 1)) m j (rest_of c M F n H (p + 1) m j)
    pub cut : rule_of c M F n H (rule_at c p) i m + 1 < none

  -- a symbol's least height is no "none"
  rule-cut : {p i m k h : ℕ} → p < size → m ≤ length t.r → (S : SymbolAt p) → RuleLow t.g t.r k S.s i m → SaysRule t.g t.r S.s i m h → h + 1 < none
  rule-cut {p} {i} {m} h l S u says =
      let in-rules = t.code.within p h S.s (subst (λ (ts : List Symbol). Memb S.s ts) (sym S.is) (in_head refl)) in
      let d : Derives t.g t.r (node u.number m u.low.row end) (S.s ∷ []) i m = d-node u.exists u.low.derives d-end in
      let w = bounded t.g t.r {ss = S.s ∷ []} (in-rules, tt) l d in
      omega (
        arith,
        (rule-least t.g t.r says (rule-some t.g t.r says d)).least w.row w.derives,
        w.low,
        top_small t.code t.r t.tables.shape.small short,
      )

  halves-by : {d : Row} {p i j m h : ℕ} → Placed p i j → (S : SymbolAt p) → i ≤ m → m ≤ j → RuleLow t.g t.r h S.s i m
      → Derives t.g t.r d (after_dot dots (p + 1)) m j → Halves p i j m S.s
  halves-by {p = p} {i} {j} {m} b S hi hm u dd =
      let live = t.stays.wants p i m j b.inside S.is u.exists u.low.derives dd b.stop b.used b.live in
      let started : Started (rule_at c p) i m = record {
        inside = S.rule.inside;
        stop = omega (arith, b.stop);
        live = live;
        from = goes_at c p;
        chain = t.code.chains p b.inside S.kind;
        used = λ q h o. t.stays.enters p q i b.inside h (omega (arith, b.stop)) S.kind b.used o;
      } in
      let placed : Placed (p + 1) m j = record {
        inside = S.next;
        is = refl;
        stop = b.stop;
        used = t.stays.passes p i m b.inside S.is u.exists u.low.derives (omega (arith, b.stop)) b.used;
        live = subst (λ (a : ℕ). Wanted M a j) (sym (t.stays.next-home p b.inside (λ z. omega (arith, S.kind)))) b.live;
      } in
      let one = S.rule.says i m hi started in
      record {
        started = started;
        placed = placed;
        one = one;
        cut = rule-cut b.inside (omega (arith, b.stop)) S u one;
        others = rest-says (p + 1) m j hm placed (t.code.inner p S.next (λ z. omega (arith, S.kind)));
      }

  -- where both derive their stretches
  pub halves_of : {d e : Row} {p i j m : ℕ} → Placed p i j → (S : SymbolAt p) → i ≤ m → m ≤ j → Derives t.g t.r e (S.s ∷ []) i m
      → Derives t.g t.r d (after_dot dots (p + 1)) m j → Halves p i j m S.s
  halves_of b S hi hm de dd = halves-by b S hi hm (children-of S.rule.other de) dd

  -- where both have a height
  pub halves-at : {p i j m : ℕ} → Placed p i j → (S : SymbolAt p) → i ≤ m → m ≤ j → split_at c M F n H p i j m < none → Halves p i j m S.s
  halves-at {p} {i} {j} {m} b S hi hm l =
      let w = both (rule_of c M F n H (rule_at c p) i m) (rest_of c M F n H (p + 1) m j) l in
      let f = rule-first t.code t.r (home_of c) (Fits M) (Reached M) (Wanted M) p b.inside S.kind in
      let one = (t.attained i m hi (omega (arith, b.stop, t.long))).rules (goes_at c p) (rule_at c p) f.0 f.1 w.one in
      let rest = (t.attained m j hm (omega (arith, b.stop, t.long))).rests (p + 1) S.next (t.code.inner p S.next (λ z. omega (arith, S.kind))) w.others in
      let ex : one.number < length (alts t.g S.s) = subst (λ (ts : List (List Symbol)). one.number < length ts) S.alike one.exists in
      let d = subst (λ (ts : List (List Symbol)). Derives t.g t.r one.low.row (get_or ts one.number []) i m) S.alike one.low.derives in
      halves-by {h = rule_of c M F n H (rule_at c p) i m} b S hi hm
      (record { number = one.number; exists = ex; low = record { row = one.low.row; derives = d; low = one.low.low } }) rest.derives
