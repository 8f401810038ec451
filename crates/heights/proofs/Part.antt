-- Heights that no offer lowers are the least where they are used; heights that were offered are attained.
use mathlib.Core.Path.{◌≡◌, refl, sym, ap, subst, ◌∙◌}
use mathlib.Core.List.{List, [], ◌∷◌}
use Prim.Native.Nat.{ℕ, zero, suc, ◌+◌, ◌-◌, ◌<◌, ◌≤◌, max}
use native.Mathlib.Omega.{arith}
use lib.ListN.{length, get_or, drop}
use borrow.Author.Tests.{ne_eqb}
use lib.Dec.{T}
use Rattle.text.specs.Lists.{Text}
use Rattle.tree.specs.Tree.{Terminal, Symbol, terminal, Grammar}
use Rattle.plain.specs.Plain.{alts, fits, width}
use Rattle.derive.specs.Derive.{Row, end, leaf, node, alternative, Derives, d-end, d-leaf, d-node, height}
use Rattle.derive.proofs.Rows.{forward}
use Rattle.derive.proofs.Levels.{Low}
use Rattle.chart.specs.Code.{next_kind, goes_at, rule_at, owner_at, after_dot, head_of, On, at-end, at-terminal, at_symbol, Chain, ch-last, ch-next, Ruled}
use Rattle.chart.specs.Heights.{none}
use Rattle.heights.specs.Table.{up_of}
use Rattle.heights.specs.Part.{toward, Offers, by_end, by-terminal, by-split, Least}
use Rattle.heights.proofs.Values.{up_is, up-low}

-- where an alternative of a chain stands
pub record Found (c : List ℕ) (dots : List (List Symbol)) (e : ℕ) (ss : List Symbol) : Type 0 where
  pub place : ℕ
  pub inside : place < length dots
  pub owned : owner_at c place ≡ e + 1
  pub is : after_dot dots place ≡ ss

pub find : {c : List ℕ} {dots : List (List Symbol)} {e q : ℕ} {ts : List (List Symbol)} → Chain c dots e q ts → (a : ℕ) → a < length ts → Found c dots e (get_or ts a [])
find (ch-last {q} h o b z) zero l = record { place = q; inside = h; owned = o; is = refl }
find (ch-last h o b z) (suc a) l = absurd (omega arith)
find (ch-next {q} h o b r) zero l = record { place = q; inside = h; owned = o; is = refl }
find (ch-next h o b r) (suc a) l = find r a (omega arith)

-- a row of an alternative of s
pub record RuleLow (g : Grammar) (r : Text) (h : ℕ) (s : Symbol) (i j : ℕ) : Type 0 where
  pub number : ℕ
  pub exists : number < length (alts g s)
  pub low : Low g r h (alternative g s number) i j

-- a dot that begins an alternative lowers its rule, another itself
pub toward-rule : (c : List ℕ) (rule rest : ℕ → ℕ → ℕ → ℕ) (p e i j : ℕ) → owner_at c p ≡ e + 1 → toward c rule rest p i j ≡ rule e i j
toward-rule c rule rest p e i j o = let z : e + 1 - 1 ≡ e = omega arith in rw (o, ne_eqb (e + 1) 0 (λ q. omega arith), z)

pub toward-rest : (c : List ℕ) (rule rest : ℕ → ℕ → ℕ → ℕ) (p i j : ℕ) → owner_at c p ≡ 0 → toward c rule rest p i j ≡ rest p i j
toward-rest c rule rest p i j o = rw o

module _ {At : ℕ → Terminal → Type 0} {c : List ℕ} {g : Grammar} {size top first : ℕ} (k : Ruled At c g size top first) (r : Text)
    (home : ℕ → ℕ) (Fit Use Live : ℕ → ℕ → Type 0) where
  abbrev n : ℕ
  n = length r

  abbrev dots : List (List Symbol)
  dots = k.dots

  end_after : (p : ℕ) → next_kind c p ≡ 0 → On At c g dots k.heads p → after_dot dots p ≡ []
  end_after p z (at-end q e) = e
  end_after p z (at-terminal x q l _ _ _) = absurd (omega arith)
  end_after p z (at_symbol s q l _ _ _ _) = absurd (omega arith)

  -- heights that are attained: of a rule by a row of one of its alternatives, of a dot inside one by a row of what stands after it
  pub record Attained (rule rest : ℕ → ℕ → ℕ → ℕ) (i j : ℕ) : Type 0 where
    pub rules : (q e : ℕ) → q < size → owner_at c q ≡ e + 1 → rule e i j < none → RuleLow g r (rule e i j) (head_of g k.heads e) i j
    pub rests : (p : ℕ) → p < size → owner_at c p ≡ 0 → rest p i j < none → Low g r (rest p i j) (after_dot dots p) i j

  -- a chain begins with an alternative of its rule
  pub chain_first : {e q : ℕ} {ts : List (List Symbol)} → Chain c dots e q ts → (q < size) × (owner_at c q ≡ e + 1)
  chain_first (ch-last h o b z) = (omega (arith, k.count), o)
  chain_first (ch-next h o b y) = (omega (arith, k.count), o)

  -- the rule of a symbol has a first alternative
  pub rule-first : (p : ℕ) → p < size → next_kind c p ≡ 2 → (goes_at c p < size) × (owner_at c (goes_at c p) ≡ rule_at c p + 1)
  rule-first p h z = chain_first (k.chains p h z)

  -- what is offered by heights that are attained is attained
  module _ (rule rest : ℕ → ℕ → ℕ → ℕ)
      (fits-only : (p i : ℕ) (x : Terminal) → p < size → i ≤ n → next_kind c p ≡ 1 → Fit p i → At p x → T (fits x (drop i r)))
      (i j : ℕ) (stop : j ≤ n) (below : (m l : ℕ) → i ≤ m → m ≤ l → l ≤ j → Attained rule rest m l) where
    pub offered : (p v : ℕ) → p < size → Offers c size home Fit Use Live rule rest p i j v → v < none → Low g r v (after_dot dots p) i j
    offered p v h (by_end z e o) l =
        record { row = end; derives = rw (end_after p z (k.stands p h), e) d-end; low = omega arith }
    offered p v h (by-terminal z y b o) l = go (k.stands p h)
      where
        go : On At c g dots k.heads p → Low g r v (after_dot dots p) i j
        go (at-end q _) = absurd (omega arith)
        go (at_symbol _ q _ _ _ _ _) = absurd (omega arith)
        go (at-terminal x q hp be gw ax) =
            let inside : p + 1 < size = omega (arith, k.count) in
            let u = (below (i + goes_at c p) j (omega arith) b (omega arith)).rests (p + 1) inside (k.inner p inside (λ q. omega arith)) (omega arith) in
            let d : Derives g r u.row (after_dot dots (p + 1)) (i + width x) j = subst (λ (a : ℕ). Derives g r u.row (after_dot dots (p + 1)) (i + a) j) gw u.derives in
            record { row = leaf (i + width x) u.row; derives = rw be (d-leaf (fits-only p i x h (omega arith) z y ax) d); low = omega (arith, u.low) }
    offered p v h (by-split m z hm lm y o) l = go (k.stands p h)
      where
        go : On At c g dots k.heads p → Low g r v (after_dot dots p) i j
        go (at-end q _) = absurd (omega arith)
        go (at-terminal x q _ _ _ _) = absurd (omega arith)
        go (at_symbol s q hp be nt hr ea) =
            let a = rule (rule_at c p) i m in
            let la = up-low a (omega arith) in
            let ua = up_is a la in
            let first = rule-first p h z in
            let one = (below i m (omega arith) hm lm).rules (goes_at c p) (rule_at c p) first.0 first.1 la in
            let inside : p + 1 < size = omega (arith, k.count) in
            let x = (below m j hm lm (omega arith)).rests (p + 1) inside (k.inner p inside (λ q. omega arith)) (omega arith) in
            let ex : one.number < length (alts g s) = rw ea at one.exists in
            let d : Derives g r one.low.row (alternative g s one.number) i m = subst
            (λ (ts : List (List Symbol)). Derives g r one.low.row (get_or ts one.number []) i m) ea one.low.derives in
            record { row = node one.number m one.low.row x.row; derives = rw be (d-node ex d x.derives); low = omega (arith, one.low.low, x.low) }

    -- so a rule that an offer to the first dot of an alternative lowers is attained too
    pub offered-rule : (p e v : ℕ) → p < size → owner_at c p ≡ e + 1 → Offers c size home Fit Use Live rule rest p i j v → v < none
        → RuleLow g r v (head_of g k.heads e) i j
    offered-rule p e v h o d l =
        let a = k.owned p e h o in
        record { number = a.number; exists = a.exists; low = subst (λ (ss : List Symbol). Low g r v ss i j) a.is (offered p v h d l) }

  -- derivations stay in what is used, and their ends in what is live
  pub record Stays : Type 0 where
    pub next-home : (p : ℕ) → p < size → (next_kind c p ≡ 0 → ⊥) → home (p + 1) ≡ home p
    pub shifts : (p i : ℕ) (x : Terminal) → p < size → i ≤ n → next_kind c p ≡ 1 → Use p i → At p x → T (fits x (drop i r)) → Fit p i × Use (p + 1) (i + goes_at c p)
    pub enters : (p q i : ℕ) → p < size → q < size → i ≤ n → next_kind c p ≡ 2 → Use p i → owner_at c q ≡ rule_at c p + 1 → Use q i × (home q ≡ rule_at c p)
    pub passes : {d : Row} {s : Symbol} {ss : List Symbol} {a : ℕ} (p i m : ℕ) → p < size → after_dot dots p ≡ s ∷ ss → a < length (alts g s)
        → Derives g r d (alternative g s a) i m → m ≤ n → Use p i → Use (p + 1) m
    pub wants : {d f : Row} {s : Symbol} {ss : List Symbol} {a : ℕ} (p i m j : ℕ) → p < size → after_dot dots p ≡ s ∷ ss → a < length (alts g s)
        → Derives g r d (alternative g s a) i m → Derives g r f ss m j → j ≤ n → Use p i → Live (home p) j → Live (rule_at c p) m

  -- a dot, used, and its rule, live at the end
  pub record Spot (p i j : ℕ) (ss : List Symbol) : Type 0 where
    pub inside : p < size
    pub is : after_dot dots p ≡ ss
    pub stop : j ≤ n
    pub used : Use p i
    pub live : Live (home p) j

  module _ (w : Stays) (rule rest : ℕ → ℕ → ℕ → ℕ) (least : (i j : ℕ) → i ≤ j → j ≤ n → Least c size home Fit Use Live rule rest i j) where
    pub record Reached (p i j h : ℕ) : Type 0 where
      pub low : toward c rule rest p i j ≤ h
      pub some : toward c rule rest p i j < none

    -- a value of at most h is offered
    pub record Offered (p i j h : ℕ) : Type 0 where
      pub value : ℕ
      pub offer : Offers c size home Fit Use Live rule rest p i j value
      pub some : value < none
      pub low : value ≤ h

    by-offer : (p i j h : ℕ) → i ≤ j → {ss : List Symbol} → Spot p i j ss → Offered p i j h → Reached p i j h
    by-offer p i j h l b o = let y = least i j l b.stop p o.value b.inside b.used b.live o.offer o.some in
        record { low = omega (arith, o.low); some = omega (arith, o.some) }

    -- a dot inside an alternative has its own height
    inner : (p i j h : ℕ) → p + 1 < size → (next_kind c p ≡ 0 → ⊥) → Reached (p + 1) i j h → (rest (p + 1) i j ≤ h) × (rest (p + 1) i j < none)
    inner p i j h l z d = let e = toward-rest c rule rest (p + 1) i j (k.inner p l z) in (omega (arith, d.low), omega (arith, d.some))

    next : {p i j m : ℕ} {s : Symbol} {ss : List Symbol} → Spot p i j (s ∷ ss) → p + 1 < length dots → (next_kind c p ≡ 0 → ⊥) → after_dot dots (p + 1) ≡ ss → Use (p + 1) m → Spot (p + 1) m j ss
    next {p} {j = j} b l z e u = record {
      inside = omega (arith, k.count);
      is = e;
      stop = b.stop;
      used = u;
      live = subst (λ (a : ℕ). Live a j) (sym (w.next-home p b.inside z)) b.live;
    }

    shifted : (p i j h : ℕ) (x : Terminal) (ss : List Symbol) → i + width x ≤ j → T (fits x (drop i r)) → Spot p i j (terminal x ∷ ss)
        → (Spot (p + 1) (i + width x) j ss → Reached (p + 1) (i + width x) j h) → On At c g dots k.heads p → Offered p i j h
    shifted p i j h x ss l fit b d (at-end z y) = let e = b.is in let q : ◌≡◌ {A = ℕ} 0 1 = cc in absurd (omega arith)
    shifted p i j h x ss l fit b d (at_symbol s z _ y nt _ _) = let e = b.is in absurd (nt x cc)
    shifted p i j h x ss l fit b d (at-terminal y z ln e' gw ax) =
        let is = b.is in
        let e : y ≡ x = cc in
        let eg : goes_at c p ≡ width x = gw ∙ ap width e in
        let after : after_dot dots (p + 1) ≡ ss = cc in
        let go = w.shifts p i x b.inside (omega (arith, b.stop)) z b.used (subst (At p) e ax) fit in
        let u = inner p (i + width x) j h (omega (arith, k.count)) (λ q. omega arith)
        (d (next b ln (λ q. omega arith) after (subst (λ (a : ℕ). Use (p + 1) (i + a)) eg go.1))) in
        let v = rest (p + 1) (i + width x) j in
        record { value = v; offer = by-terminal z go.0 (omega arith) (ap (λ (o : ℕ). rest (p + 1) (i + o) j) (sym eg)); some = u.1; low = u.0 }

    noded : {e d : Row} (p i m j a hc hd : ℕ) (s : Symbol) (ss : List Symbol) → i ≤ m → m ≤ j → suc hc < none → a < length (alts g s) → Spot p i j (s ∷ ss)
        → Derives g r e (alternative g s a) i m → Derives g r d ss m j
        → ((q : ℕ) → Spot q i m (alternative g s a) → Reached q i m hc) → (Spot (p + 1) m j ss → Reached (p + 1) m j hd)
        → On At c g dots k.heads p → Offered p i j (max (suc hc) hd)
    noded p i m j a hc hd s ss hi hm hn la b de dd fc fd (at-end z y) = let e = b.is in let q : ◌≡◌ {A = ℕ} 0 1 = cc in absurd (omega arith)
    noded p i m j a hc hd s ss hi hm hn la b de dd fc fd (at-terminal y z _ e' _ _) =
        let is = b.is in
        let e : s ≡ terminal y = cc in
        let la' : a < 0 = subst (λ (o : Symbol). a < length (alts g o)) e la in
        absurd (omega arith)
    noded p i m j a hc hd s ss hi hm hn la b de dd fc fd (at_symbol y z ln e' _ hr ea) =
        let is = b.is in
        let e : y ≡ s = cc in
        let es : alts g (head_of g k.heads (rule_at c p)) ≡ alts g s = ea ∙ ap (alts g) e in
        let f : Found c dots (rule_at c p) (alternative g s a) =
        subst (λ (ts : List (List Symbol)). Found c dots (rule_at c p) (get_or ts a [])) es (find (k.chains p b.inside z) a (rw es la)) in
        let hq : f.place < size = omega (arith, f.inside, k.count) in
        let en = w.enters p f.place i b.inside hq (omega (arith, b.stop)) z b.used f.owned in
        let live = w.wants p i m j b.inside is la de dd b.stop b.used b.live in
        let one = fc f.place (record { inside = hq; is = f.is; stop = omega (arith, b.stop); used = en.0; live = subst (λ (x : ℕ). Live x m) (sym en.1) live }) in
        let after : after_dot dots (p + 1) ≡ ss = cc in
        let er = toward-rule c rule rest f.place (rule_at c p) i m f.owned in
        let u = inner p m j hd (omega (arith, k.count)) (λ q. omega arith)
        (fd (next b ln (λ q. omega arith) after (w.passes p i m b.inside is la de (omega (arith, b.stop)) b.used))) in
        let x = rule (rule_at c p) i m in
        let ux : up_of x ≡ x + 1 = up_is x (omega (arith, one.some)) in
        record { value = max (up_of x) (rest (p + 1) m j); offer = by-split m z hi hm live refl; some = omega (arith, one.low, u.1); low = omega (arith, one.low, u.0) }

    ended : (p i : ℕ) → Spot p i i [] → On At c g dots k.heads p → Offered p i i 0
    ended p i b (at-end z _) = record { value = 0; offer = by_end z refl refl; some = omega arith; low = omega arith }
    ended p i b (at-terminal x z _ y _ _) = let e = b.is in let q : ◌≡◌ {A = ℕ} 0 1 = cc in absurd (omega arith)
    ended p i b (at_symbol s z _ y _ _ _) = let e = b.is in let q : ◌≡◌ {A = ℕ} 0 1 = cc in absurd (omega arith)

    -- no derivation is lower than what is offered
    pub offers-low : {d : Row} {ss : List Symbol} {i j : ℕ} → Derives g r d ss i j → height d < none → (p : ℕ) → Spot p i j ss → Offered p i j (height d)
    offers-low (d-end {i}) hn p b = ended p i b (k.stands p b.inside)
    offers-low (d-leaf {x} {ss} {t = d} {i = i} {j = j} fit dd) hn p b =
        shifted p i j (height d) x ss (forward g r dd) fit b
        (λ q. by-offer (p + 1) (i + width x) j (height d) (forward g r dd) q (offers-low dd hn (p + 1) q)) (k.stands p b.inside)
    offers-low (d-node {s} {ss} {c = e} {t = d} {a = a} {i = i} {m = m} {j = j} la de dd) hn p b =
        noded p i m j a (height e) (height d) s ss (forward g r de) (forward g r dd) (omega arith) la b de dd
        (λ q y. by-offer q i m (height e) (forward g r de) y (offers-low de (omega arith) q y))
        (λ y. by-offer (p + 1) m j (height d) (forward g r dd) y (offers-low dd (omega arith) (p + 1) y)) (k.stands p b.inside)

    -- nor than what is kept
    pub complete : {d : Row} {ss : List Symbol} {i j : ℕ} → Derives g r d ss i j → height d < none → (p : ℕ) → Spot p i j ss → Reached p i j (height d)
    complete {d} {i = i} {j = j} dd hn p b = by-offer p i j (height d) (forward g r dd) b (offers-low dd hn p b)
