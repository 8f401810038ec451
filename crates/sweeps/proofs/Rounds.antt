-- The table after the sweeps of the heights below k: the derivations of height at most k, no more and no fewer.
use mathlib.Core.Path.{◌≡◌, refl, ap, subst, ◌∙◌}
use mathlib.Core.List.{List, [], ◌∷◌}
use Prim.Native.Nat.{ℕ, suc, ◌+◌, ◌*◌, ◌<◌, ◌≤◌, max}
use native.Mathlib.Decide.{dec_lt}
use native.Mathlib.Omega.{arith}
use lib.ListN.{length, get_or, drop}
use lib.Dec.{T}
use Rattle.text.specs.Lists.{Text}
use Rattle.tree.specs.Tree.{Terminal, Symbol, terminal, Grammar}
use Rattle.plain.specs.Plain.{alts, fits, width}
use Rattle.derive.specs.Derive.{Row, alternative, Derives, d-end, d-leaf, d-node, height}
use Rattle.derive.proofs.Rows.{forward}
use Rattle.chart.specs.Code.{next_kind, goes_at, rule_at, fits_at, flag, after_dot, head_of, Stands, at-end, at-terminal, at_symbol, Chain, Coded}
use Rattle.chart.specs.Heights.{stretches, none, Clear}
use Rattle.heights.specs.Table.{cell_of, value_of, up_of, split_of}
use Rattle.heights.specs.Filling.{by-terminal, by-split, by-owned, Steps, Any}
use Rattle.heights.proofs.Values.{value_cell, value-end, up_is, up_none}
use Rattle.heights.proofs.Exact.{flag_true, none_in, Found, find, rule-sound}
use Rattle.sweeps.specs.Layers.{Upto, Offer}
use Rattle.sweeps.specs.Rounds.{SaysUpto}

up_least : (a : ℕ) → up_of a ≤ a + 1
up_least a = elim (dec_lt a none) as (λ _. up_of a ≤ a + 1) [ yes l ↦ omega (arith, up_is a l) | no l ↦ omega (arith, up_none a (omega arith)) ]

module _ (c f : List ℕ) (g : Grammar) (r : Text) (size top first : ℕ) (k : Coded c f g r size top first) (h : ℕ) (t : List ℕ) (up : Upto c f size (length r) h t) where
  abbrev n : ℕ
  n = length r

  abbrev dots : List (List Symbol)
  dots = k.dots

  low_end : (p i : ℕ) → after_dot dots p ≡ [] → Stands c f g r dots k.heads p → value_of c t n p i i ≤ 0
  low_end p i b (at-end z _) = omega (arith, value-end c t n p i i z refl)
  low_end p i b (at-terminal x z _ w _ _) = let q : ◌≡◌ {A = ℕ} 0 1 = cc in absurd (omega arith)
  low_end p i b (at_symbol s z _ w _ _ _) = let q : ◌≡◌ {A = ℕ} 0 1 = cc in absurd (omega arith)

  -- a cell is no higher than what it is offered
  low_by : (p i j b : ℕ) → p < size → i ≤ j → j ≤ n → b < h → Offer c f size n b t p i j → cell_of n t p i j ≤ b
  low_by p i j b hp hi hj lb o = omega (arith, up.closed p i j o.value (record { inside = hp; order = hi; stop = hj }) o.gives (omega (arith, o.low)), o.low)

  leaf-offer : (p i j b : ℕ) (x : Terminal) (ss : List Symbol) → i + width x ≤ j → j ≤ n → T (fits x (drop i r)) → after_dot dots p ≡ terminal x ∷ ss
      → ((q : ℕ) → q < size → after_dot dots q ≡ ss → value_of c t n q (i + width x) j ≤ b) → Stands c f g r dots k.heads p → (next_kind c p ≡ 1) × Offer c f size n b t p i j
  leaf-offer p i j b x ss l hj fit e d (at-end z w) = let q : ◌≡◌ {A = ℕ} 0 1 = cc in absurd (omega arith)
  leaf-offer p i j b x ss l hj fit e d (at_symbol s z _ w nt _ _) = absurd (nt x cc)
  leaf-offer p i j b x ss l hj fit e d (at-terminal y z ln w gw ff) =
      let q : y ≡ x = cc in
      let u = d (p + 1) (omega (arith, k.count)) cc in
      let eg : goes_at c p ≡ width x = gw ∙ ap width q in
      let one : fits_at f p i ≡ 1 = ff i (omega arith) ∙ ap (λ (o : Terminal). flag (fits o (drop i r))) q ∙ flag_true (fits x (drop i r)) fit in
      let ev : value_of c t n (p + 1) (i + goes_at c p) j ≡ value_of c t n (p + 1) (i + width x) j = ap (λ (o : ℕ). value_of c t n (p + 1) (i + o) j) eg in
      (z, record { value = value_of c t n (p + 1) (i + goes_at c p) j; gives = by-terminal z one (omega arith) refl; low = omega arith })

  -- a rule by one of its alternatives
  rule-offer : (e i m b : ℕ) (ss : List Symbol) → Found c dots e ss → ((q : ℕ) → q < size → after_dot dots q ≡ ss → value_of c t n q i m ≤ b) → Offer c f size n b t e i m
  rule-offer e i m b ss w d =
      let l : w.place < size = omega (arith, w.inside, k.count) in
      record { value = value_of c t n w.place i m; gives = by-owned w.place l w.owned refl; low = d w.place l w.is }

  low-rule : (e i m b : ℕ) (ss : List Symbol) → i ≤ m → m ≤ n → b < h → Found c dots e ss → ((q : ℕ) → q < size → after_dot dots q ≡ ss → value_of c t n q i m ≤ b) → cell_of n t e i m ≤ b
  low-rule e i m b ss hi hm lb w d =
      let own = k.owned w.place e (omega (arith, w.inside, k.count)) w.owned in
      low_by e i m b (omega (arith, own.inside, k.count)) hi hm lb (rule-offer e i m b ss w d)

  node-offer : (p i m j a hc hd : ℕ) (s : Symbol) (ss : List Symbol) → p < size → i ≤ m → m ≤ j → j ≤ n → a < length (alts g s) → after_dot dots p ≡ s ∷ ss → hc < h
      → ((q : ℕ) → q < size → after_dot dots q ≡ alternative g s a → value_of c t n q i m ≤ hc) → ((q : ℕ) → q < size → after_dot dots q ≡ ss → value_of c t n q m j ≤ hd)
      → Stands c f g r dots k.heads p → (next_kind c p ≡ 2) × Offer c f size n (max (suc hc) hd) t p i j
  node-offer p i m j a hc hd s ss hp hi hm hj la b lb dc dd (at-end z w) = let q : ◌≡◌ {A = ℕ} 0 1 = cc in absurd (omega arith)
  node-offer p i m j a hc hd s ss hp hi hm hj la b lb dc dd (at-terminal y z _ w _ _) =
      let e : s ≡ terminal y = cc in
      let la' : a < 0 = subst (λ (o : Symbol). a < length (alts g o)) e la in
      absurd (omega arith)
  node-offer p i m j a hc hd s ss hp hi hm hj la b lb dc dd (at_symbol y z ln w _ hr ea) =
      let e : y ≡ s = cc in
      let es : alts g (head_of g k.heads (rule_at c p)) ≡ alts g s = ea ∙ ap (alts g) e in
      let fd : Found c dots (rule_at c p) (alternative g s a) =
      subst (λ (ts : List (List Symbol)). Found c dots (rule_at c p) (get_or ts a [])) es (find (k.chains p hp z) a (rw es la)) in
      let one = low-rule (rule_at c p) i m hc (alternative g s a) hi (omega arith) lb fd dc in
      let u = dd (p + 1) (omega (arith, k.count)) cc in
      let x = up_least (cell_of n t (rule_at c p) i m) in
      (z, record { value = split_of c t n p i j m; gives = by-split m z hi hm refl; low = omega arith })

  value-of : (p i j b : ℕ) (x : ℕ) → next_kind c p ≡ suc x → p < size → i ≤ j → j ≤ n → b < h → Offer c f size n b t p i j → value_of c t n p i j ≤ b
  value-of p i j b x z hp hi hj lb o = omega (arith, value_cell c t n p i j (λ q. omega arith), low_by p i j b hp hi hj lb o)

  pub low : {d : Row} {ss : List Symbol} {i j : ℕ} → Derives g r d ss i j → height d < h → (p : ℕ) → p < size → after_dot dots p ≡ ss → j ≤ n → value_of c t n p i j ≤ height d
  low (d-end {i}) lb p hp b hj = low_end p i b (k.stands p hp)
  low (d-leaf {x} {ss} {t = d} {i = i} {j = j} fit dd) lb p hp b hj =
      let o = leaf-offer p i j (height d) x ss (forward g r dd) hj fit b (λ q hq e. low dd lb q hq e hj) (k.stands p hp) in
      value-of p i j (height d) 0 o.0 hp (omega (arith, forward g r dd)) hj lb o.1
  low (d-node {s} {ss} {c = e} {t = d} {a = a} {i = i} {m = m} {j = j} la dc dd) lb p hp b hj =
      let o = node-offer p i m j a (height e) (height d) s ss hp (forward g r dc) (forward g r dd) hj la b (omega arith)
      (λ q hq w. low dc (omega arith) q hq w (omega (arith, forward g r dd))) (λ q hq w. low dd (omega arith) q hq w hj) (k.stands p hp) in
      value-of p i j (max (suc (height e)) (height d)) 1 o.0 hp (omega (arith, forward g r dc, forward g r dd)) hj lb o.1

  -- what a derivation below h offers a dot, and a rule
  pub offered : {d : Row} {ss : List Symbol} {i j : ℕ} → Derives g r d ss i j → height d < h → (p : ℕ) → p < size → (next_kind c p ≡ 0 → ⊥) → after_dot dots p ≡ ss → j ≤ n
      → Offer c f size n (height d) t p i j
  offered (d-end {i}) lb p hp z b hj = absurd (z (ended p b (k.stands p hp)))
    where
      ended : (p : ℕ) → after_dot dots p ≡ [] → Stands c f g r dots k.heads p → next_kind c p ≡ 0
      ended p b (at-end z _) = z
      ended p b (at-terminal x z _ w _ _) = let q : ◌≡◌ {A = ℕ} 0 1 = cc in absurd (omega arith)
      ended p b (at_symbol s z _ w _ _ _) = let q : ◌≡◌ {A = ℕ} 0 1 = cc in absurd (omega arith)
  offered (d-leaf {x} {ss} {t = d} {i = i} {j = j} fit dd) lb p hp z b hj =
      (leaf-offer p i j (height d) x ss (forward g r dd) hj fit b (λ q hq e. low dd lb q hq e hj) (k.stands p hp)).1
  offered (d-node {s} {ss} {c = e} {t = d} {a = a} {i = i} {m = m} {j = j} la dc dd) lb p hp z b hj =
      (node-offer p i m j a (height e) (height d) s ss hp (forward g r dc) (forward g r dd) hj la b (omega arith)
      (λ q hq w. low dc (omega arith) q hq w (omega (arith, forward g r dd))) (λ q hq w. low dd (omega arith) q hq w hj) (k.stands p hp)).1

  pub offered-rule : (e q : ℕ) (s : Symbol) → Chain c dots e q (alts g s) → (o : Row) (a i j : ℕ) → a < length (alts g s) → Derives g r o (alternative g s a) i j → j ≤ n → height o < h
      → Offer c f size n (height o) t e i j
  offered-rule e q s w o a i j la dc hj lb = rule-offer e i j (height o) (alternative g s a) (find w a la) (λ p hp b. low dc lb p hp b hj)

  pub low-symbol : (e q : ℕ) (s : Symbol) → Chain c dots e q (alts g s) → {d : Row} {i j : ℕ} → Derives g r d (s ∷ []) i j → j ≤ n → height d ≤ h → cell_of n t e i j < height d
  low-symbol e q s w (d-leaf fit dd) hj lb = absurd (none_in w refl)
  low-symbol e q s w (d-node {c = o} {a = a} {i = i} {m = m} la dc d-end) hj lb =
      omega (arith, low-rule e i m (height o) (alternative g s a) (forward g r dc) hj (omega arith) (find w a la) (λ p hp b. low dc (omega arith) p hp b hj))

  pub says-upto : {t₀ : List ℕ} → h ≤ none → Clear (size * stretches n) t₀ → Steps c f size n Any t₀ t → SaysUpto c f g r size top first k h t
  says-upto b z s = record {
    has = λ p e i j hp o hi hj l. let u = rule-sound c f g r size top first k z s p e i j hp o hi hj (omega arith) in (u.row, u.derives, omega (arith, u.low));
    only = λ p e i j hp o hi hj d dd l. let own = k.owned p e hp o in omega (arith, low-symbol e own.first (head_of g k.heads e) own.chain dd hj l);
  }
