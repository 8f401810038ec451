-- The settled table has the least heights.
use mathlib.Core.Path.{◌≡◌, refl, sym, ap, subst, ◌∙◌}
use mathlib.Core.Bool.{Bool, true, false}
use mathlib.Core.List.{List, [], ◌∷◌}
use Prim.Native.Nat.{ℕ, zero, suc, ◌+◌, ◌*◌, ◌<◌, ◌≤◌, max}
use native.Mathlib.Decide.{dec_lt, ℕ_discrete}
use native.Mathlib.Omega.{arith}
use lib.ListN.{length, get_or, set, drop}
use lib.Seq.{get_or-set_same, get_or-set_other}
use lib.Dec.{T}
use Rattle.text.specs.Lists.{Text}
use Rattle.tree.specs.Tree.{Terminal, Symbol, terminal, Grammar}
use Rattle.plain.specs.Plain.{alts, fits, width}
use Rattle.derive.specs.Derive.{Row, end, leaf, node, alternative, Derives, d-end, d-leaf, d-node, height}
use Rattle.derive.proofs.Rows.{forward}
use Rattle.derive.proofs.Levels.{Low}
use Rattle.chart.specs.Code.{next_kind, goes_at, rule_at, owner_at, fits_at, flag, after_dot, head_of, Stands, at-end, at-terminal, at_symbol, Chain, ch-last, ch-next, Coded}
use Rattle.chart.specs.Heights.{cell_at, stretches, none, Says, says_none, says-height, SaysRule, rule-none, rule-height, Heights}
use Rattle.heights.specs.Table.{cell_of, value_of, up_of, split_of, Shape, Safe, Place}
use Rattle.heights.specs.Filling.{Gives, by-terminal, by-split, by-owned, Steps, stay, step, Any, Closed, Settled, Before}
use Rattle.chart.proofs.Cells.{rows-small}
use Rattle.heights.proofs.Cells.{cell-inj, in-room, next_place, rule-place}
use Rattle.heights.proofs.Lowering.{in-range, steps-le, steps-length}
use Rattle.heights.proofs.Values.{Value, v-end, v-none, v-cell, value-is, value_cell, value-end, up_is, up-low}
use Rattle.heights.proofs.Small.{height-small}

pub flag_true : (b : Bool) → T b → flag b ≡ 1
flag_true true h = refl
flag_true false h = absurd h

true-flag : (b : Bool) → flag b ≡ 1 → T b
true-flag true h = tt
true-flag false h = absurd (omega arith)

pub none_in : {c : List ℕ} {dots : List (List Symbol)} {e q : ℕ} {ts : List (List Symbol)} → Chain c dots e q ts → ts ≡ [] → ⊥
none_in (ch-last h o b z) e = let z : ◌≡◌ {A = ℕ} 0 1 = cc in omega arith
none_in (ch-next h o b r) e = let z : ◌≡◌ {A = ℕ} 0 1 = cc in omega arith

-- where an alternative of a chain stands
pub record Found (c : List ℕ) (dots : List (List Symbol)) (e : ℕ) (ss : List Symbol) : Type 0 where
  pub place : ℕ
  pub inside : place < length dots
  pub owned : owner_at c place ≡ e + 1
  pub is : after_dot dots place ≡ ss

pub find : {c : List ℕ} {dots : List (List Symbol)} {e q : ℕ} {ts : List (List Symbol)} → Chain c dots e q ts → (a : ℕ) → a < length ts → Found c dots e (get_or ts a [])
find (ch-last {q} h o b z) zero l = record { place = q; inside = h; owned = o; is = refl }
find (ch-last h o b z) (suc a) l = absurd (omega arith)
find (ch-next {q} h o b r) zero l = record { place = q; inside = h; owned = o; is = refl }
find (ch-next h o b r) (suc a) l = find r a (omega arith)

-- a row of an alternative of s
pub record RuleLow (g : Grammar) (r : Text) (h : ℕ) (s : Symbol) (i j : ℕ) : Type 0 where
  pub number : ℕ
  pub exists : number < length (alts g s)
  pub low : Low g r h (alternative g s number) i j

module _ (c f : List ℕ) (g : Grammar) (r : Text) (size top first : ℕ) (k : Coded c f g r size top first) where
  abbrev n : ℕ
  n = length r

  abbrev dots : List (List Symbol)
  dots = k.dots

  -- the name of a rule is an end
  rule_end : (p : ℕ) → p < size → next_kind c p ≡ 2 → next_kind c (rule_at c p) ≡ 0
  rule_end p h z = ends (k.chains p h z)
    where
      ends : {e q : ℕ} {ts : List (List Symbol)} → Chain c dots e q ts → next_kind c e ≡ 0
      ends (ch-last {q} h o _ _) = (k.owned q _ (omega (arith, k.count)) o).last
      ends (ch-next {q} h o _ _) = (k.owned q _ (omega (arith, k.count)) o).last

  pub shape : (len : ℕ) → size * stretches n ≤ len → Shape c size n len
  shape len room = record {
    cells = record { few = k.small; short = k.short; room = room };
    coded = k.room;
    nexts = λ p h z. next p h z (k.stands p h);
    names = λ p h z. name p h z (k.stands p h);
    owners = λ p e h o. omega (arith, (k.owned p e h o).inside, k.count);
    rule-ends = rule_end;
    owner-ends = λ p e h o. (k.owned p e h o).last;
  }
    where
      next : (p : ℕ) → p < size → (next_kind c p ≡ 0 → ⊥) → Stands c f g r dots k.heads p → p + 1 < size
      next p h z (at-end q _) = absurd (z q)
      next p h z (at-terminal x q l _ _ _) = omega (arith, l, k.count)
      next p h z (at_symbol s q l _ _ _ _) = omega (arith, l, k.count)

      name : (p : ℕ) → p < size → next_kind c p ≡ 2 → Stands c f g r dots k.heads p → rule_at c p < size
      name p h z (at-end q _) = absurd (omega arith)
      name p h z (at-terminal x q l _ _ _) = absurd (omega arith)
      name p h z (at_symbol s q _ _ _ l _) = omega (arith, l, k.count)

  -- a height has a row
  pub record SoundAt (p i j v : ℕ) : Type 0 where
    pub dot : (next_kind c p ≡ 0 → ⊥) → Low g r v (after_dot dots p) i j
    pub rule : next_kind c p ≡ 0 → RuleLow g r v (head_of g k.heads p) i j

  abbrev pub Sound : List ℕ → Type 0
  Sound t = (p i j : ℕ) → Place size n p i j → cell_of n t p i j < none → SoundAt p i j (cell_of n t p i j)

  end_after : (p : ℕ) → next_kind c p ≡ 0 → Stands c f g r dots k.heads p → after_dot dots p ≡ []
  end_after p z (at-end q e) = e
  end_after p z (at-terminal x q l _ _ _) = absurd (omega arith)
  end_after p z (at_symbol s q l _ _ _ _) = absurd (omega arith)

  -- a row of what stands after a dot, by rows of its parts
  pub shift_by : (p i j v : ℕ) → Place size n p i j → next_kind c p ≡ 1 → fits_at f p i ≡ 1 → Low g r v (after_dot dots (p + 1)) (i + goes_at c p) j
      → Stands c f g r dots k.heads p → Low g r v (after_dot dots p) i j
  shift_by p i j v h z w u (at-end q _) = absurd (omega arith)
  shift_by p i j v h z w u (at_symbol _ q _ _ _ _ _) = absurd (omega arith)
  shift_by p i j v h z w u (at-terminal x q hp be gw ff) =
      let d : Derives g r u.row (after_dot dots (p + 1)) (i + width x) j = subst (λ (w : ℕ). Derives g r u.row (after_dot dots (p + 1)) (i + w) j) gw u.derives in
      let fit : T (fits x (drop i r)) = true-flag (fits x (drop i r)) (sym (ff i (omega (arith, h.order, h.stop))) ∙ w) in
      record { row = leaf (i + width x) u.row; derives = rw be (d-leaf fit d); low = u.low }

  pub split_by : (p i j m a b v : ℕ) → next_kind c p ≡ 2 → RuleLow g r a (head_of g k.heads (rule_at c p)) i m → Low g r b (after_dot dots (p + 1)) m j → a + 1 ≤ v → b ≤ v
      → Stands c f g r dots k.heads p → Low g r v (after_dot dots p) i j
  split_by p i j m a b v z one u la lb (at-end q _) = absurd (omega arith)
  split_by p i j m a b v z one u la lb (at-terminal x q _ _ _ _) = absurd (omega arith)
  split_by p i j m a b v z one u la lb (at_symbol y q hp be nt hr ea) =
      let ex : one.number < length (alts g y) = rw ea at one.exists in
      let d : Derives g r one.low.row (alternative g y one.number) i m = subst
      (λ (ts : List (List Symbol)). Derives g r one.low.row (get_or ts one.number []) i m) ea one.low.derives in
      record { row = node one.number m one.low.row u.row; derives = rw be (d-node ex d u.derives); low = omega (arith, one.low.low, u.low) }

  pub owned_by : (q p i j v : ℕ) → q < size → owner_at c q ≡ p + 1 → Low g r v (after_dot dots q) i j → RuleLow g r v (head_of g k.heads p) i j
  owned_by q p i j v hq o u =
      let w = k.owned q p hq o in
      record { number = w.number; exists = w.exists; low = subst (λ (ss : List Symbol). Low g r v ss i j) w.is u }

  pub value-by : (t : List ℕ) (q i j v : ℕ) → q < size → Value c t n q i j v → v < none → ((next_kind c q ≡ 0 → ⊥) → v ≡ cell_of n t q i j → Low g r v (after_dot dots q) i j)
      → Low g r v (after_dot dots q) i j
  value-by t q i j v h (v-end z e w) l s = record { row = end; derives = rw (end_after q z (k.stands q h), e) d-end; low = omega arith }
  value-by t q i j v h (v-none w) l s = absurd (omega arith)
  value-by t q i j v h (v-cell z w) l s = s z w

  module _ (t : List ℕ) (s : Sound t) where
    value-sound : (q i j v : ℕ) → Place size n q i j → v ≡ value_of c t n q i j → v < none → Low g r v (after_dot dots q) i j
    value-sound q i j v h e l = value-by t q i j v h.inside (subst (Value c t n q i j) (sym e) (value-is c t n q i j)) l
        (λ z w. subst (λ (x : ℕ). Low g r x (after_dot dots q) i j) (sym w) ((s q i j h (omega arith)).dot z))

    split-sound : (p i j v m : ℕ) → Place size n p i j → next_kind c p ≡ 2 → i ≤ m → m ≤ j → v ≡ split_of c t n p i j m → v < none → Low g r v (after_dot dots p) i j
    split-sound p i j v m h z hm lm e b =
        let sh = shape (size * stretches n) (omega arith) in
        let a = cell_of n t (rule_at c p) i m in
        let la = up-low a (omega arith) in
        let ua = up_is a la in
        let one = (s (rule_at c p) i m (rule-place sh h m z hm lm) la).rule (rule_end p h.inside z) in
        let u = value-sound (p + 1) m j (value_of c t n (p + 1) m j) (next_place sh h m (λ q. omega arith) hm lm) refl (omega arith) in
        split_by p i j m a (value_of c t n (p + 1) m j) v z one u (omega arith) (omega arith) (k.stands p h.inside)

    shift-sound : (p i j v : ℕ) → Place size n p i j → next_kind c p ≡ 1 → fits_at f p i ≡ 1 → i + goes_at c p ≤ j → v ≡ value_of c t n (p + 1) (i + goes_at c p) j → v < none
        → Low g r v (after_dot dots p) i j
    shift-sound p i j v h z w l e b =
        let next = next_place (shape (size * stretches n) (omega arith)) h (i + goes_at c p) (λ q. omega arith) (omega arith) l in
        shift_by p i j v h z w (value-sound (p + 1) (i + goes_at c p) j v next e b) (k.stands p h.inside)

    pub gives-sound : (p i j v : ℕ) → Place size n p i j → Gives c f size n t p i j v → v < none → SoundAt p i j v
    gives-sound p i j v h (by-terminal z w l e) b = record { dot = λ _. shift-sound p i j v h z w l e b; rule = λ q. absurd (omega arith) }
    gives-sound p i j v h (by-split m z hm lm e) b = record { dot = λ _. split-sound p i j v m h z hm lm e b; rule = λ q. absurd (omega arith) }
    gives-sound p i j v h (by-owned q hq o e) b =
        let u = value-sound q i j v (record { inside = hq; order = h.order; stop = h.stop }) e b in
        record { dot = λ z. absurd (z (k.owned q p hq o).last); rule = λ _. owned_by q p i j v hq o u }

    set-sound : (p i j v : ℕ) → Place size n p i j → Gives c f size n t p i j v → v < cell_of n t p i j → v < none → Sound (set t (cell_at n p i j) v)
    set-sound p i j v h d l b p' i' j' h' l' =
        elim (ℕ_discrete (cell_at n p' i' j') (cell_at n p i j)) as (λ _. SoundAt p' i' j' (cell_of n (set t (cell_at n p i j) v) p' i' j')) [
          | no e ↦ (let o = get_or-set_other t (cell_at n p i j) (cell_at n p' i' j') v 0 e in rw o (s p' i' j' h' (omega (arith, o))))
          | yes e ↦ (let w = cell-inj n p' i' j' p i j h'.order h'.stop h.order h.stop e in
              let o : cell_of n (set t (cell_at n p i j) v) p' i' j' ≡ v = ap (λ (z : ℕ). get_or (set t (cell_at n p i j) v) z 0) e
              ∙ get_or-set_same t (cell_at n p i j) v 0 (in-range t (cell_at n p i j) v l) in
              rw (o, w.same-p, w.same-i, w.same-j) (gives-sound p i j v h d b))
        ]

  abbrev Empty : List ℕ → Type 0
  Empty t = (x : ℕ) → x < size * stretches n → get_or t x 0 ≡ none

  cell_in : {p i j : ℕ} → Place size n p i j → cell_at n p i j < size * stretches n
  cell_in = in-room (record { few = k.small; short = k.short; room = omega arith })

  -- steps keep it
  pub steps-keep : {A : ℕ → ℕ → Type 0} {t₀ t : List ℕ} → Sound t₀ → ((p i j : ℕ) → Place size n p i j → cell_of n t₀ p i j ≤ none) → Steps c f size n A t₀ t → Sound t
  steps-keep s m stay = s
  steps-keep s m (step {t = t} p i j v w ha hp hi hj d l) =
      let h : Place size n p i j = record { inside = hp; order = hi; stop = hj } in
      set-sound t (steps-keep s m w) p i j v h d l (omega (arith, steps-le c f size n w (cell_at n p i j), m p i j h))

  module _ {A : ℕ → ℕ → Type 0} {t₀ : List ℕ} (z : Empty t₀) where
    steps-most : {t : List ℕ} → Steps c f size n A t₀ t → {p i j : ℕ} → Place size n p i j → cell_of n t p i j ≤ none
    steps-most s {p} {i} {j} h = omega (arith, steps-le c f size n s (cell_at n p i j), z (cell_at n p i j) (cell_in h))

    steps-sound : {t : List ℕ} → Steps c f size n A t₀ t → Sound t
    steps-sound = steps-keep (λ p i j h l. absurd (omega (arith, z (cell_at n p i j) (cell_in h)))) (λ p i j h. omega (arith, z (cell_at n p i j) (cell_in h)))

    -- a rule's height has a row of its symbol
    pub rule-sound : {t : List ℕ} → Steps c f size n A t₀ t → (p e i j : ℕ) → p < size → owner_at c p ≡ e + 1 → i ≤ j → j ≤ n → cell_of n t e i j < none
        → Low g r (suc (cell_of n t e i j)) (head_of g k.heads e ∷ []) i j
    rule-sound s p e i j hp o hi hj l =
        let own = k.owned p e hp o in
        let u = (steps-sound s e i j (record { inside = omega (arith, own.inside, k.count); order = hi; stop = hj }) l).rule own.last in
        record { row = node u.number j u.low.row end; derives = d-node u.exists u.low.derives d-end; low = omega (arith, u.low.low) }

  -- no derivation is lower
  module _ (t : List ℕ) (closed : Before c f size n (n + 1) t) (small : (p i j : ℕ) → Place size n p i j → cell_of n t p i j < none → cell_of n t p i j + 1 < none) where
    closed_at : (i j : ℕ) → i ≤ j → j ≤ n → Closed c f size n t i j
    closed_at i j h l = closed i j h (omega arith)

    pub record Reached (p i j h : ℕ) : Type 0 where
      pub low : value_of c t n p i j ≤ h
      pub some : value_of c t n p i j < none

    -- by the symbols' stands
    module _ (p i j : ℕ) (h : Place size n p i j) where
      reach-cell : (v : ℕ) → (next_kind c p ≡ 0 → ⊥) → cell_of n t p i j ≤ v → v < none → (w : ℕ) → v ≤ w → Reached p i j w
      reach-cell v z l b w q = record { low = omega (arith, value_cell c t n p i j z); some = omega (arith, value_cell c t n p i j z) }

      reach-end : i ≡ j → after_dot dots p ≡ [] → Stands c f g r dots k.heads p → Reached p i j 0
      reach-end e b (at-end z _) = record { low = omega (arith, value-end c t n p i j z e); some = omega (arith, value-end c t n p i j z e) }
      reach-end e b (at-terminal x z _ w _ _) = let q : ◌≡◌ {A = ℕ} 0 1 = cc in absurd (omega arith)
      reach-end e b (at_symbol s z _ w _ _ _) = let q : ◌≡◌ {A = ℕ} 0 1 = cc in absurd (omega arith)

    low-rule : (e i m h : ℕ) (ss : List Symbol) → i ≤ m → m ≤ n → Found c dots e ss
        → ((p : ℕ) → p < size → after_dot dots p ≡ ss → Reached p i m h) → (cell_of n t e i m ≤ h) × (cell_of n t e i m < none)
    low-rule e i m h ss hi hm w d =
        let l : w.place < size = omega (arith, w.inside, k.count) in
        let u = d w.place l w.is in
        let o = (closed_at i m hi hm).owner w.place e l w.owned in
        (omega (arith, u.low), omega (arith, u.some))

    shifted : (p i j h : ℕ) (x : Terminal) (ss : List Symbol) → p < size → i + width x ≤ j → j ≤ n → T (fits x (drop i r)) → after_dot dots p ≡ terminal x ∷ ss
        → ((q : ℕ) → q < size → after_dot dots q ≡ ss → Reached q (i + width x) j h) → Stands c f g r dots k.heads p → Reached p i j h
    shifted p i j h x ss hp l hj fit b d (at-end z w) = let q : ◌≡◌ {A = ℕ} 0 1 = cc in absurd (omega arith)
    shifted p i j h x ss hp l hj fit b d (at_symbol s z _ w nt _ _) = absurd (nt x cc)
    shifted p i j h x ss hp l hj fit b d (at-terminal y z ln w gw ff) =
        let e : y ≡ x = cc in
        let u = d (p + 1) (omega (arith, k.count)) cc in
        let eg : goes_at c p ≡ width x = gw ∙ ap width e in
        let one : fits_at f p i ≡ 1 = ff i (omega arith) ∙ ap (λ (o : Terminal). flag (fits o (drop i r))) e ∙ flag_true (fits x (drop i r)) fit in
        let v = value_of c t n (p + 1) (i + width x) j in
        let ev : value_of c t n (p + 1) (i + goes_at c p) j ≡ v = ap (λ (o : ℕ). value_of c t n (p + 1) (i + o) j) eg in
        let o = (closed_at i j (omega arith) hj).terminal p hp z one (omega arith) (omega (arith, u.some)) in
        reach-cell p i j (record { inside = hp; order = omega arith; stop = hj }) v (λ q. omega arith) (omega arith) u.some h u.low

    noded : (p i m j a hc hd : ℕ) (s : Symbol) (ss : List Symbol) → p < size → i ≤ m → m ≤ j → j ≤ n → a < length (alts g s) → after_dot dots p ≡ s ∷ ss
        → ((q : ℕ) → q < size → after_dot dots q ≡ alternative g s a → Reached q i m hc) → ((q : ℕ) → q < size → after_dot dots q ≡ ss → Reached q m j hd)
        → Stands c f g r dots k.heads p → Reached p i j (max (suc hc) hd)
    noded p i m j a hc hd s ss hp hi hm hj la b dc dd (at-end z w) = let q : ◌≡◌ {A = ℕ} 0 1 = cc in absurd (omega arith)
    noded p i m j a hc hd s ss hp hi hm hj la b dc dd (at-terminal y z _ w _ _) =
        let e : s ≡ terminal y = cc in
        let la' : a < 0 = subst (λ (o : Symbol). a < length (alts g o)) e la in
        absurd (omega arith)
    noded p i m j a hc hd s ss hp hi hm hj la b dc dd (at_symbol y z ln w _ hr ea) =
        let e : y ≡ s = cc in
        let es : alts g (head_of g k.heads (rule_at c p)) ≡ alts g s = ea ∙ ap (alts g) e in
        let fd : Found c dots (rule_at c p) (alternative g s a) =
        subst (λ (ts : List (List Symbol)). Found c dots (rule_at c p) (get_or ts a [])) es (find (k.chains p hp z) a (rw es la)) in
        let one = low-rule (rule_at c p) i m hc (alternative g s a) hi (omega arith) fd dc in
        let u = dd (p + 1) (omega (arith, k.count)) cc in
        let x = cell_of n t (rule_at c p) i m in
        let sm = small (rule_at c p) i m (record { inside = omega (arith, k.count); order = hi; stop = omega arith }) one.1 in
        let ux : up_of x ≡ x + 1 = up_is x one.1 in
        reach-cell p i j (record { inside = hp; order = omega arith; stop = hj }) (split_of c t n p i j m) (λ q. omega arith) ((closed_at i j (omega arith) hj).split p m hp z hi hm u.some)
        (omega (arith, one.0, sm, u.some)) (max (suc hc) hd) (omega (arith, one.0, u.low))

    pub complete : {d : Row} {ss : List Symbol} {i j : ℕ} → Derives g r d ss i j → (p : ℕ) → p < size → after_dot dots p ≡ ss → j ≤ n → Reached p i j (height d)
    complete (d-end {i}) p hp b hj = reach-end p i i (record { inside = hp; order = omega arith; stop = hj }) refl b (k.stands p hp)
    complete (d-leaf {x} {ss} {t = d} {i = i} {j = j} fit dd) p hp b hj = shifted p i j (height d) x ss hp (forward g r dd) hj fit b (λ q hq e. complete dd q hq e hj) (k.stands p hp)
    complete (d-node {s} {ss} {c = e} {t = d} {a = a} {i = i} {m = m} {j = j} la dc dd) p hp b hj =
        noded p i m j a (height e) (height d) s ss hp (forward g r dc) (forward g r dd) hj la b
        (λ q hq w. complete dc q hq w (omega (arith, forward g r dd))) (λ q hq w. complete dd q hq w hj) (k.stands p hp)

    -- the same of a rule's symbol
    pub complete-rule : (e q : ℕ) (s : Symbol) → Chain c dots e q (alts g s) → {d : Row} {i j : ℕ} → Derives g r d (s ∷ []) i j → j ≤ n
        → (suc (cell_of n t e i j) ≤ height d) × (cell_of n t e i j < none)
    complete-rule e q s w (d-leaf fit dd) hj = absurd (none_in w refl)
    complete-rule e q s w (d-node {c = o} {a = a} {i = i} {m = m} la dc d-end) hj =
        let u = low-rule e i m (height o) (alternative g s a) (forward g r dc) hj (find w a la) (λ p hp b. complete dc p hp b hj) in
        (omega (arith, u.0), u.1)

  -- a table whose heights have rows, and which is closed, has the least heights
  module _ (t : List ℕ) (sound : Sound t) (most : (p i j : ℕ) → Place size n p i j → cell_of n t p i j ≤ none) (closed : Before c f size n (n + 1) t)
      (small : (p i j : ℕ) → Place size n p i j → cell_of n t p i j < none → cell_of n t p i j + 1 < none) where
    dot-says : (p i j : ℕ) → p < size → (next_kind c p ≡ 0 → ⊥) → i ≤ j → j ≤ n → Says g r (after_dot dots p) i j (cell_of n t p i j)
    dot-says p i j hp kn hi hj =
        let h : Place size n p i j = record { inside = hp; order = hi; stop = hj } in
        let v = cell_of n t p i j in
        let ev : value_of c t n p i j ≡ v = value_cell c t n p i j kn in
        elim (dec_lt v none) as (λ _. Says g r (after_dot dots p) i j v) [
          | yes l ↦ (let u = (sound p i j h l).dot kn in
              says-height {h = v} u.row u.derives (omega (arith, u.low, (complete t closed small u.derives p hp refl hj).low))
              (λ d dd. omega (arith, (complete t closed small dd p hp refl hj).low)) l)
          | no l ↦ (let e : v ≡ none = omega (arith, most p i j h) in
              subst (Says g r (after_dot dots p) i j) (sym e) (says_none (λ d dd. omega (arith, (complete t closed small dd p hp refl hj).some))))
        ]

    rule-says : (p e i j : ℕ) → p < size → owner_at c p ≡ e + 1 → i ≤ j → j ≤ n → SaysRule g r (head_of g k.heads e) i j (cell_of n t e i j)
    rule-says p e i j hp o hi hj =
        let own = k.owned p e hp o in
        let h : Place size n e i j = record { inside = omega (arith, own.inside, k.count); order = hi; stop = hj } in
        let s = head_of g k.heads e in
        let v = cell_of n t e i j in
        let lows : (d : Row) → Derives g r d (s ∷ []) i j → (suc v ≤ height d) × (v < none) = λ d dd. complete-rule t closed small e own.first s own.chain dd hj in
        elim (dec_lt v none) as (λ _. SaysRule g r s i j v) [
          | yes l ↦ (let u = (sound e i j h l).rule own.last in
              let d = node u.number j u.low.row end in
              let dd : Derives g r d (s ∷ []) i j = d-node u.exists u.low.derives d-end in
              rule-height {h = v} (record { tree = d; derives = dd; attained = omega (arith, u.low.low, (lows d dd).0); least = λ x dx. (lows x dx).0 }) l)
          | no l ↦ (let e : v ≡ none = omega (arith, most e i j h) in
              subst (SaysRule g r s i j) (sym e) (rule-none (λ d dd. omega (arith, (lows d dd).1))))
        ]

    pub heights-of : size * stretches n ≤ length t → Heights c f g r size top first k t
    heights-of room = record { room = room; dot = dot-says; rule = rule-says }

  -- the finished table
  module _ (t₀ t : List ℕ) (z : Empty t₀) (w : Settled c f size n Any (Before c f size n (n + 1)) t₀ t) (room : size * stretches n ≤ length t₀) where
    small_by : (p i j : ℕ) → Place size n p i j → cell_of n t p i j < none → cell_of n t p i j + 1 < none
    small_by p i j h l = omega (arith, height-small c f size n (length t₀) (shape (length t₀) room) w.steps z h l, rows-small size n k.small k.short)

    pub heights : Heights c f g r size top first k t
    heights = heights-of t (steps-sound z w.steps) (λ p i j h. steps-most z w.steps h) w.closed small_by (omega (arith, steps-length c f size n w.steps))

-- the same with the number of characters
pub filled : (c f : List ℕ) (size n : ℕ) (t₀ t : List ℕ) → ((x : ℕ) → x < size * stretches n → get_or t₀ x 0 ≡ none)
    → Settled c f size n Any (Before c f size n (n + 1)) t₀ t → size * stretches n ≤ length t₀
    → (g : Grammar) (r : Text) (top first : ℕ) (k : Coded c f g r size top first) → length r ≡ n → Heights c f g r size top first k t
filled c f size n t₀ t z w room g r top first k e =
    heights c f g r size top first k t₀ t (rw e z) (subst (λ (m : ℕ). Settled c f size m Any (Before c f size m (m + 1)) t₀ t) (sym e) w) (rw e room)

-- what fill asks for, of a grammar's code
pub safe : (c f : List ℕ) (g : Grammar) (r : Text) (size top first len : ℕ) → Coded c f g r size top first → size * stretches (length r) ≤ len → Safe c f size (length r) len
safe c f g r size top first len k room = record { shape = shape c f g r size top first k len room; fitted = k.fits-room }
