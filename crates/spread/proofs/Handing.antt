-- Laws of handing on: what is kept while heights of longer stretches fall, and the turns of the loops.
use mathlib.Core.Bool.{Bool, true, false}
use mathlib.Core.List.{List}
use mathlib.Core.Path.{◌≡◌, refl, sym, ap, subst, ◌∙◌}
use Prim.Native.Nat.{ℕ, ◌+◌, ◌-◌, ◌<◌, ◌≤◌, max, min}
use native.Mathlib.Decide.{ℕ_discrete, dec_lt}
use native.Mathlib.Omega.{arith}
use lib.ListN.{length, get_or, set, length-set}
use lib.Seq.{get_or-set_same, get_or-set_other}
use Rattle.chart.specs.Code.{next_kind, goes_at, rule_at, owner_at}
use Rattle.chart.specs.Heights.{cell_at, none}
use Rattle.heights.specs.Table.{cell_of, up_of}
use Rattle.heights.specs.Filling.{Only}
use Rattle.heights.specs.Part.{by-terminal}
use Rattle.heights.proofs.Values.{up_is, up_none}
use Rattle.reach.specs.Flags.{Fits, Wanted}
use Rattle.reach.proofs.Closed.{home-next}
use Rattle.sparse.specs.Cells.{row_of, rule_of, rest_of, Shape, Tables}
use Rattle.sparse.specs.Steps.{OffersAt, Fell, On, HandedOn, Listed, Lowered, lowered, kept}
use Rattle.sparse.proofs.Rows.{in_table, last-symbol}
use Rattle.sparse.proofs.Falls.{fell-refl, fell-join, fell-widen, fell-set, lowered-cell}
use Rattle.sparse.proofs.Toward.{target-of, toward-row, fell-toward, fell-rule, fell-rest}
use Rattle.spread.specs.Spread.{level_at, low_from, Low, Ahead, Better, Full, AllFlagged, Touching, Touched, Placed, Offering, Merging, Spread, DotSpread}

-- the less of v and what is one more than the larger of a and h
pub better-less : (a h v m : ℕ) → a ≤ none → v ≤ none → m ≡ max a h → m < v → Better a h v (m + 1)
better-less a h v m la lv e l = record {
  is = λ b eb lb. omega (arith, up_is a (omega arith));
  idle = λ k. absurd (omega arith);
  some = λ k. omega arith;
}

pub better-kept : (a h v m : ℕ) → a ≤ none → v ≤ none → m ≡ max a h → v ≤ m → Better a h v v
better-kept a h v m la lv e l = record {
  is = λ b eb lb. elim (dec_lt a none) as (λ _. v ≡ min v (max (up_of a) b)) [
    | yes k ↦ omega (arith, up_is a k)
    | no k ↦ omega (arith, up_none a (omega arith))
  ];
  idle = λ k. refl;
  some = λ k. absurd (omega arith);
}

-- one start more
pub touching-none : (t : List ℕ) (x : ℕ) (C : List ℕ) → Touching t x 0 C C
touching-none t x C = record { long = refl; before = λ z h. refl; after = λ z h. refl; at = λ i h. absurd (omega arith) }

pub touching-next : (t : List ℕ) (x i r : ℕ) (C D : List ℕ) → 2563 + i < length D → Touching t x i C D → (r ≡ 0 → (get_or D (2563 + i) 0 ≡ 0) × (none ≤ get_or t (x + i) 0))
    → Touching t x (i + 1) C (set D (2563 + i) r)
touching-next t x i r C D room a e = record {
  long = length-set D (2563 + i) r ∙ a.long;
  before = λ z h. get_or-set_other D (2563 + i) z r 0 (λ o. omega arith) ∙ a.before z h;
  after = λ z h. get_or-set_other D (2563 + i) z r 0 (λ o. omega arith) ∙ a.after z (omega arith);
  at = λ k h z. elim (ℕ_discrete k i) as (λ _. (get_or C (2563 + k) 0 ≡ 0) × (none ≤ get_or t (x + k) 0)) [
    | yes o ↦ (let y = e (sym (get_or-set_same D (2563 + i) r 0 room) ∙ ap (λ (w : ℕ). get_or (set D (2563 + i) r) (2563 + w) 0) (sym o) ∙ z) in
        subst (λ (w : ℕ). (get_or C (2563 + w) 0 ≡ 0) × (none ≤ get_or t (x + w) 0)) (sym o) (sym (a.after (2563 + i) (omega arith)) ∙ y.0, y.1))
    | no o ↦ a.at k (omega arith) (sym (get_or-set_other D (2563 + i) (2563 + k) r 0 (λ w. o (omega arith))) ∙ z)
  ];
}

pub all-next : (i r : ℕ) (D : List ℕ) → 2563 + i < length D → AllFlagged i D → (r ≡ 0 → ⊥) → AllFlagged (i + 1) (set D (2563 + i) r)
all-next i r D room a d k h z = elim (ℕ_discrete k i) as (λ _. ⊥) [
  | yes o ↦ d (sym (get_or-set_same D (2563 + i) r 0 room) ∙ ap (λ (w : ℕ). get_or (set D (2563 + i) r) (2563 + w) 0) (sym o) ∙ z)
  | no o ↦ a k (omega arith) (sym (get_or-set_other D (2563 + i) (2563 + k) r 0 (λ w. o (omega arith))) ∙ z)
]

-- all of the starts are flagged before, or afterwards, or not
module _ (t : List ℕ) (x k : ℕ) (C : List ℕ) (few : k ≤ 200) (full : Full C) where
  pub touched-before : k ≤ get_or C 3788 0 → Touched t x k C C
  touched-before l = record { long = refl; before = λ z h. refl; after = λ z h h'. refl; at = λ i h z. absurd (full i (omega arith) (omega arith) z); full = full }

  module _ {D : List ℕ} (a : Touching t x k C D) where
    pub touched-all : length C ≡ 3789 → AllFlagged k D → Touched t x k C (set D 3788 k)
    touched-all long all = record {
      long = length-set D 3788 k ∙ a.long;
      before = λ z h. get_or-set_other D 3788 z k 0 (λ o. omega arith) ∙ a.before z h;
      after = λ z h h'. get_or-set_other D 3788 z k 0 (λ o. omega arith) ∙ a.after z h;
      at = λ i h z. a.at i h (sym (get_or-set_other D 3788 (2563 + i) k 0 (λ o. omega arith)) ∙ z);
      full = λ i w h z. let l : i < k = omega (arith, get_or-set_same D 3788 k 0 (omega (arith, a.long))) in
          all i l (sym (get_or-set_other D 3788 (2563 + i) k 0 (λ o. omega arith)) ∙ z);
    }

    pub touched-some : (k ≤ get_or C 3788 0 → ⊥) → Touched t x k C D
    touched-some l = record {
      long = a.long;
      before = a.before;
      after = λ z h h'. a.after z h;
      at = a.at;
      full = λ i w h z. let e = a.after 3788 (omega arith) in full i w (omega arith) (a.at i (omega (arith, l)) z).0;
    }

-- a run of cells is in the table
pub run_in : {c C : List ℕ} {size n m j len p : ℕ} → Placed c size n m j len C p → (y k l x : ℕ) → y < size → k ≤ l → l ≤ n → x ≡ cell_at n y 0 l → x + k ≤ len
run_in {size = size} {n = n} {len = len} a y k l x h lk ll e =
    omega (arith, in_table size n k l y len (x + k) a.shape.small a.short a.room h lk ll (omega arith))

module _ (c M F : List ℕ) (size n m j : ℕ) where
  pub spread_none : (t C : List ℕ) → Spread c M F size n m j t C t C
  spread_none t C = record { fell = fell-refl c M F size n (j + 1); long = refl; before = λ z h. refl; still = λ i h z. (z, λ y. refl); low = λ l. l; full = λ l. l }

  pub spread_join : {t u v C D E : List ℕ} → Spread c M F size n m j t C u D → Spread c M F size n m j u D v E → Spread c M F size n m j t C v E
  spread_join a b = record {
    fell = fell-join c M F size n (j + 1) a.fell b.fell;
    long = b.long ∙ a.long;
    before = λ z h. b.before z h ∙ a.before z h;
    low = λ l. b.low (a.low l);
    full = λ l. b.full (a.full l);
    still = λ i h z. let x = b.still i h z in let y = a.still i h x.0 in (y.0, λ w. x.1 w ∙ y.1 w);
  }

  -- what is noted of a row stays true where cells fall
  pub low-kept : (t u C D : List ℕ) → ((x : ℕ) → get_or u x 0 ≤ get_or t x 0) → ((y : ℕ) → y < size → (low_from D y ≡ low_from C y) × (level_at D y ≡ level_at C y))
      → Low size n m j t C → Low size n m j u D
  low-kept t u C D le e l y i h f k = omega (arith, le (cell_at n y i j), (e y h).0, (e y h).1, l y i h (omega (arith, (e y h).0)) k)

  -- nothing to hand on
  pub end_on : (t : List ℕ) (p : ℕ) → (next_kind c p ≡ 1 → ⊥) → (next_kind c p ≡ 2 → m < j → Wanted M (rule_at c p) m → ⊥) → HandedOn c M F size n m j t p
  end_on t p a b = record { terminal = λ i o l k. absurd (a k); split = λ i o l w k d. absurd (b k w d) }

  pub none-on : (t : List ℕ) (p : ℕ) → none ≤ rest_of c M F n t (p + 1) m j → HandedOn c M F size n m j t p
  none-on t p e = record { terminal = λ i o l k f g s. absurd (omega arith); split = λ i o l w k d s. absurd (omega arith) }

  pub astray-on : (t : List ℕ) (p : ℕ) → next_kind c p ≡ 1 → ((i : ℕ) → i < m → Fits M p i → i + goes_at c p ≡ m → ⊥) → HandedOn c M F size n m j t p
  astray-on t p k a = record { terminal = λ i o l k' f g s. absurd (a i l f g); split = λ i o l w k'. absurd (omega arith) }

  module _ (order : m ≤ j) (stop : j ≤ n) where
    -- what was handed on stays so
    pub on-kept : {t u : List ℕ} → Fell c M F size n (j + 1) (Ahead m j) t u → (p : ℕ) → HandedOn c M F size n m j t p → HandedOn c M F size n m j u p
    on-kept {t} {u} f p h = record {
      terminal = λ i o l k g e s. omega (arith, fell-toward f p i j, rest, h.terminal i o l k g e (omega (arith, rest)));
      split = λ i o l w k d s.
          let v : max (up_of (rule_of c M F n u (rule_at c p) i m)) (rest_of c M F n u (p + 1) m j) ≡ max (up_of (rule_of c M F n t (rule_at c p) i m)) (rest_of c M F n t (p + 1) m j) =
          (λ ι. max (up_of (fell-rule f (rule_at c p) i m (omega arith) (omega arith) (λ x. omega (arith, x.1)) ι)) (rest ι)) in
          omega (arith, fell-toward f p i j, v, h.split i o l w k d (omega (arith, v)));
    }
      where
        rest : rest_of c M F n u (p + 1) m j ≡ rest_of c M F n t (p + 1) m j
        rest = fell-rest f (p + 1) m j order stop (λ x. omega (arith, x.0))

  -- every dot is handed on, if those before the listed ones are
  pub all-on : Shape c size → {t C : List ℕ} → Listed c M size j C → ((k : ℕ) → k < get_or C 512 0 → (p : ℕ) → get_or C k 0 ≡ p + 1 → HandedOn c M F size n m j t p)
      → (p : ℕ) → p < size → HandedOn c M F size n m j t p
  all-on shape {t} {C} l h p lp = record {
    terminal = λ i o a k. (on i o (λ z. omega arith)).terminal i o a k;
    split = λ i o a w k. (on i o (λ z. omega arith)).split i o a w k;
  }
    where
      on : (i : ℕ) → On c M size p i j → (next_kind c p ≡ 0 → ⊥) → HandedOn c M F size n m j t p
      on i o z =
          let next = shape.nexts p lp z in
          let home = home-next c p (shape.inner p next z) in
          let x = l.all (p + 1) next (subst (λ (y : ℕ). Wanted M y j) (sym home) o.live) in
          h x.0 x.1 p x.2

  -- the terminal of p, from i on
  module _ {len : ℕ} {t C : List ℕ} {p b i : ℕ} (a : Offering c M F size n m j len t C p b) (kind : next_kind c p ≡ 1) (fit : Fits M p i) (less : i < m) (goes : i + goes_at c p ≡ m) where
    inner : next_kind c p ≡ 0 → ⊥
    inner z = omega arith

    offered : OffersAt c M F size n t p i j b
    offered = by-terminal kind fit (omega (arith, a.placed.order)) (a.is ∙ ap (λ (z : ℕ). rest_of c M F n t (p + 1) z j) (sym goes))

    handed : {u : List ℕ} → Fell c M F size n (j + 1) (Ahead m j) t u → cell_of n u (row_of c p) i j ≤ b → HandedOn c M F size n m j u p
    handed {u} f low = record {
      terminal = λ q o l k g e s.
          let z : q ≡ i = omega arith in
          let rest = fell-rest f (p + 1) m j a.placed.order a.placed.stop (λ w. omega (arith, w.0)) in
          omega (
            arith,
            toward-row c M F size n u p q j o (omega (arith, a.placed.order)) inner (last-symbol c p (λ y. omega arith)),
            rest,
            a.is,
            ap (λ (y : ℕ). cell_of n u (row_of c p) y j) z,
          );
      split = λ q o l w k. absurd (omega arith);
    }

    module _ (low : b < cell_of n t (row_of c p) i j) where
      abbrev lower_row : List ℕ
      lower_row = set t (cell_at n (row_of c p) i j) b

      fell : Fell c M F size n (j + 1) (Only i j) t lower_row
      fell = fell-set c M F size n a.placed.shape t p (row_of c p) i j b a.placed.inside inner (target-of c p) (omega (arith, a.placed.order)) a.placed.stop a.some low offered

      ahead : Fell c M F size n (j + 1) (Ahead m j) t lower_row
      ahead = fell-widen c M F size n (j + 1) (λ k l w. (omega (arith, w.0), w.1)) fell

      terminal-set : DotSpread c M F size n m j t C lower_row (set C (2563 + i) 1) p
      terminal-set = record {
        spread = record {
          fell = ahead;
          long = length-set C (2563 + i) 1;
          before = λ z h. get_or-set_other C (2563 + i) z 1 0 (λ o. omega arith);
          low = low-kept t lower_row C (set C (2563 + i) 1) ahead.le (λ y h. (
            get_or-set_other C (2563 + i) (3276 + y) 1 0 (λ o. omega (arith, a.placed.order, a.placed.stop, a.placed.short)),
            get_or-set_other C (2563 + i) (2764 + y) 1 0 (λ o. omega (arith, a.placed.order, a.placed.stop, a.placed.short)),
          ));
          full = λ f q w h z. elim (ℕ_discrete q i) as (λ _. ⊥) [
            | yes e ↦ omega (
              arith,
              get_or-set_same C (2563 + i) 1 0 (omega (arith, a.placed.column, a.placed.order, a.placed.stop, a.placed.short)),
              ap (λ (w : ℕ). get_or (set C (2563 + i) 1) (2563 + w) 0) e,
            )
            | no e ↦ f q w (omega (arith, get_or-set_other C (2563 + i) 3788 1 0 (λ o. omega (arith, a.placed.order, a.placed.stop, a.placed.short))))
                (sym (get_or-set_other C (2563 + i) (2563 + q) 1 0 (λ w. e (omega arith))) ∙ z)
          ];
          still = λ q h z. elim (ℕ_discrete q i) as (λ _. (get_or C (2563 + q) 0 ≡ 0) × ((y : ℕ) → cell_of n lower_row y q j ≡ cell_of n t y q j)) [
            | yes e ↦ absurd (omega (
              arith,
              get_or-set_same C (2563 + i) 1 0 (omega (arith, a.placed.column, a.placed.order, a.placed.stop, a.placed.short)),
              ap (λ (w : ℕ). get_or (set C (2563 + i) 1) (2563 + w) 0) e,
            ))
            | no e ↦ (
              sym (get_or-set_other C (2563 + i) (2563 + q) 1 0 (λ w. e (omega arith))) ∙ z,
              λ y. fell.same y q j (omega (arith, a.placed.order)) a.placed.stop (λ w. e w.0),
            )
          ];
        };
        on = handed ahead (omega (
          arith,
          lowered-cell c M F size n a.placed.shape t p (row_of c p) i j b a.placed.inside inner (target-of c p)
              (omega (arith, a.placed.order)) a.placed.stop a.some low offered,
        ));
      }

    lower-set : {v : List ℕ} → Lowered t (cell_at n (row_of c p) i j) b true v → DotSpread c M F size n m j t C v (set C (2563 + i) 1) p
    lower-set (lowered l) = terminal-set l

    lower-kept : {v : List ℕ} → Lowered t (cell_at n (row_of c p) i j) b false v → DotSpread c M F size n m j t C v C p
    lower-kept (kept l) = record { spread = spread_none t C; on = handed (fell-refl c M F size n (j + 1)) l }

    module _ {v : List ℕ} {y : ℕ} {r : Bool} (row : y ≡ row_of c p) (d : Lowered t (cell_at n y i j) b r v) where
      at_row : (x : Bool) → r ≡ x → Lowered t (cell_at n (row_of c p) i j) b x v
      at_row x e = subst (λ (z : ℕ). Lowered t (cell_at n z i j) b x v) row (subst (λ (z : Bool). Lowered t (cell_at n y i j) b z v) e d)

      pub terminal-low : r ≡ true → DotSpread c M F size n m j t C v (set C (2563 + i) 1) p
      terminal-low e = lower-set (at_row true e)

      pub terminal-kept : r ≡ false → DotSpread c M F size n m j t C v C p
      terminal-kept e = lower-kept (at_row false e)

  -- the rest of the dot before x
  module _ {len x : ℕ} (tables : Tables c M F size n len) (order : m ≤ j) (stop : j ≤ n) (inside : x < size) where
    pub placed : (C : List ℕ) → length C ≡ 3789 → Full C → Placed c size n m j len C (x - 1)
    placed C column full = record {
      shape = tables.shape;
      short = tables.short;
      room = tables.room;
      order = order;
      stop = stop;
      column = column;
      full = full;
      inside = omega arith;
    }

    pub offering : {t : List ℕ} {b : ℕ} (C : List ℕ) → length C ≡ 3789 → Full C → Low size n m j t C → (x ≡ 0 → ⊥) → b ≡ rest_of c M F n t x m j → (b ≡ none → ⊥) → b ≤ none
        → Offering c M F size n m j len t C (x - 1) b
    offering {t} C column full noted d e s l =
        let z : x - 1 + 1 ≡ x = omega (arith, d) in
        record { placed = placed C column full; is = e ∙ ap (λ (y : ℕ). rest_of c M F n t y m j) (sym z); some = omega (arith, s); low = noted }

    -- a first dot stands after an end
    pub first_on : {t : List ℕ} → (owner_at c x ≡ 0 → ⊥) → (p : ℕ) → x ≡ p + 1 → HandedOn c M F size n m j t p
    first_on {t} o p e = elim (ℕ_discrete (next_kind c p) 0) as (λ _. HandedOn c M F size n m j t p) [
      | yes z ↦ end_on t p (λ y. omega arith) (λ y. omega arith)
      | no z ↦ absurd (o (ap (owner_at c) e ∙ tables.shape.inner p (omega arith) z))
    ]

    pub rest-none : {t : List ℕ} → none ≤ rest_of c M F n t x m j → (p : ℕ) → x ≡ p + 1 → HandedOn c M F size n m j t p
    rest-none {t} l p e = none-on t p (subst (λ (y : ℕ). none ≤ rest_of c M F n t y m j) e l)

  pub before-next : {t : List ℕ} {x : ℕ} → HandedOn c M F size n m j t (x - 1) → (p : ℕ) → x ≡ p + 1 → HandedOn c M F size n m j t p
  before-next {t} {x} h p e = let z : x - 1 ≡ p = omega arith in subst (HandedOn c M F size n m j t) z h

  -- a symbol's turn
  module _ {len : ℕ} {t C : List ℕ} {p b : ℕ} (a : Offering c M F size n m j len t C p b) where
    pub merging : {e x y z h k : ℕ} → k ≤ m → next_kind c p ≡ 2 → m < j → Wanted M (rule_at c p) m → e ≡ rule_at c p → x ≡ cell_at n e 0 m → z ≡ row_of c p → y ≡ cell_at n z 0 j → h ≡ b - 1
        → Merging c M F size n m j t p x y k h
    merging most kind wide live rule source row target less = record {
      shape = a.placed.shape;
      wide = wide;
      stop = a.placed.stop;
      inside = a.placed.inside;
      kind = kind;
      live = live;
      source = source ∙ ap (λ (w : ℕ). cell_at n w 0 m) rule;
      row = target ∙ ap (λ (w : ℕ). cell_at n w 0 j) row;
      count = most;
      less = omega (arith, a.is);
      some = omega (arith, a.is, a.some);
    }

    pub astray : next_kind c p ≡ 1 → ((i : ℕ) → i < m → Fits M p i → i + goes_at c p ≡ m → ⊥) → DotSpread c M F size n m j t C t C p
    astray k o = record { spread = spread_none t C; on = astray-on t p k o }

  -- one listed dot more
  abbrev pub Done : (ℕ → ℕ) → ℕ → List ℕ → Type 0
  Done f k t = (q : ℕ) → q < k → (p : ℕ) → f q ≡ p + 1 → HandedOn c M F size n m j t p

  pub done_next : m ≤ j → j ≤ n → (f : ℕ → ℕ) {t u D E : List ℕ} {k x : ℕ} → Spread c M F size n m j t D u E → Done f k t → x ≡ f k
      → ((p : ℕ) → x ≡ p + 1 → HandedOn c M F size n m j u p) → Done f (k + 1) u
  done_next order stop f {u = u} {k = k} a b e h q l p z = elim (ℕ_discrete q k) as (λ _. HandedOn c M F size n m j u p) [
    | yes d ↦ h p (e ∙ ap f (sym d) ∙ z)
    | no d ↦ on-kept order stop a.fell p (b q (omega arith) p z)
  ]
