-- Cells that are lowered to what is offered: heights stay attained, and nothing else changes.
use mathlib.Core.Bool.{Bool, true, false}
use mathlib.Core.List.{List, [], ◌∷◌}
use mathlib.Core.Logic.{⊎_elim}
use mathlib.Core.Path.{◌≡◌, refl, sym, ap, subst, ◌∙◌}
use Prim.Native.Nat.{ℕ, ◌+◌, ◌<◌, ◌≤◌}
use native.Mathlib.Decide.{ℕ_discrete, dec_lt}
use native.Mathlib.Omega.{arith}
use lib.Dec.{eqb, leb}
use lib.ListN.{length, get_or, set, length-set}
use lib.Seq.{get_or-set_same, get_or-set_other}
use Rattle.text.specs.Lists.{Text, pick}
use Rattle.text.proofs.Tests.{look}
use Rattle.tree.specs.Tree.{Terminal, Symbol, Grammar}
use Rattle.plain.specs.Plain.{alts}
use Rattle.derive.specs.Derive.{end, node, alternative, Derives, d-end, d-node}
use Rattle.derive.proofs.Levels.{Low}
use Rattle.chart.specs.Code.{next_kind, goes_at, rule_at, owner_at, after_dot, head_of, On as Stood, at-end, at-terminal, at_symbol, Ruled}
use Rattle.chart.specs.Heights.{cell_at, none}
use Rattle.heights.specs.Table.{cell_of, up_of}
use Rattle.heights.specs.Filling.{Only, Any}
use Rattle.heights.proofs.Cells.{cell-inj}
use Rattle.heights.proofs.Lowering.{sum-set, in-range, set-le}
use Rattle.heights.proofs.Values.{up_is, up-low}
use Rattle.heights.proofs.Part.{Attained, RuleLow, offered, offered-rule}
use Rattle.reach.specs.Flags.{dot_at, end_at, Reached, Fits, Wanted, home_of}
use Rattle.sparse.specs.Cells.{is_last, empty_in, empty_rest, rule_of, wide_rest, rest_of, Shape}
use Rattle.sparse.specs.Steps.{Flagged, OffersAt, Fell}
use Rattle.sparse.proofs.Rows.{rule-cell, rule-none, last-is, wide-last, rest_end, rest-away, rest-last, rest-row, rest-unwanted}

-- heights go by cells
module _ (c M F : List ℕ) (n : ℕ) (t u : List ℕ) where
  pub rule-same : (e i j : ℕ) → cell_of n u e i j ≡ cell_of n t e i j → rule_of c M F n u e i j ≡ rule_of c M F n t e i j
  unfolding rule_of
  rule-same e i j q = ap (λ (z : ℕ). pick (eqb i j) (empty_in F e) (pick (leb 2 (end_at M e j)) z none)) q

  row_same : (p i j : ℕ) → cell_of n u p i j ≡ cell_of n t p i j → is_last c p ≡ false → wide_rest c M F n u p i j ≡ wide_rest c M F n t p i j
  unfolding wide_rest
  row_same p i j q e = rw e (ap (λ (z : ℕ). pick (leb 2 (end_at M (home_of c p) j)) z none) q)

  wide-same : (p i j : ℕ) → cell_of n u p i j ≡ cell_of n t p i j → (is_last c p ≡ true → cell_of n u (rule_at c p) i j ≡ cell_of n t (rule_at c p) i j)
      → wide_rest c M F n u p i j ≡ wide_rest c M F n t p i j
  wide-same p i j q r = ⊎_elim
      (λ e. wide-last c M F n u p i j e ∙ ap up_of (rule-same (rule_at c p) i j (r e)) ∙ sym (wide-last c M F n t p i j e))
      (λ e. row_same p i j q e) (look (is_last c p))

  end_same : (p i j : ℕ) → next_kind c p ≡ 0 → rest_of c M F n u p i j ≡ rest_of c M F n t p i j
  unfolding rest_of
  end_same p i j z = rw z refl

  by_wide : (p i j : ℕ) → wide_rest c M F n u p i j ≡ wide_rest c M F n t p i j → rest_of c M F n u p i j ≡ rest_of c M F n t p i j
  unfolding rest_of
  by_wide p i j w = ap (λ (z : ℕ). pick (eqb i j) (empty_rest c F p) (pick (eqb (next_kind c p) 0) none (pick (leb 1 (dot_at M p i)) z none))) w

  -- nothing stands after an end, whatever its cell has
  pub rest-same : (p i j : ℕ) → ((next_kind c p ≡ 0 → ⊥) → cell_of n u p i j ≡ cell_of n t p i j)
      → (is_last c p ≡ true → cell_of n u (rule_at c p) i j ≡ cell_of n t (rule_at c p) i j) → rest_of c M F n u p i j ≡ rest_of c M F n t p i j
  rest-same p i j q r = elim (ℕ_discrete (next_kind c p) 0) as (λ _. rest_of c M F n u p i j ≡ rest_of c M F n t p i j) [
    | yes z ↦ end_same p i j z
    | no z ↦ by_wide p i j (wide-same p i j (q z) r)
  ]

module _ (c M F : List ℕ) (size n J : ℕ) where
  pub fell-refl : {A : ℕ → ℕ → Type 0} {t : List ℕ} → Fell c M F size n J A t t
  fell-refl = record { long = refl; sound = λ s. s; le = λ x. omega arith; sum = omega arith; same = λ y k l h h' o. refl }

  pub fell-join : {A : ℕ → ℕ → Type 0} {t u v : List ℕ} → Fell c M F size n J A t u → Fell c M F size n J A u v → Fell c M F size n J A t v
  fell-join a b = record {
    long = b.long ∙ a.long;
    sound = λ s. b.sound (a.sound s);
    le = λ x. omega (arith, a.le x, b.le x);
    sum = omega (arith, a.sum, b.sum);
    same = λ y k l h h' o. b.same y k l h h' o ∙ a.same y k l h h' o;
  }

  pub fell-widen : {A B : ℕ → ℕ → Type 0} {t u : List ℕ} → ((k l : ℕ) → A k l → B k l) → Fell c M F size n J A t u → Fell c M F size n J B t u
  fell-widen w a = record { long = a.long; sound = a.sound; le = a.le; sum = a.sum; same = λ y k l h h' o. a.same y k l h h' (λ x. o (w k l x)) }

-- a row of a dot before a last symbol, over a row of the symbol's alternative
module _ {At : ℕ → Terminal → Type 0} {c : List ℕ} {g : Grammar} {size top first : ℕ} (k : Ruled At c g size top first) (r : Text) where
  end_after : (p : ℕ) → next_kind c p ≡ 0 → Stood At c g k.dots k.heads p → after_dot k.dots p ≡ []
  end_after p z (at-end q e) = e
  end_after p z (at-terminal x q l _ _ _) = absurd (omega arith)
  end_after p z (at_symbol s q l _ _ _ _) = absurd (omega arith)

  pub last-low : (p h i j : ℕ) → p < size → p + 1 < size → next_kind c p ≡ 2 → next_kind c (p + 1) ≡ 0 → RuleLow g r h (head_of g k.heads (rule_at c p)) i j
      → Low g r (h + 1) (after_dot k.dots p) i j
  last-low p h i j inside next kind ends one = go (k.stands p inside)
    where
      go : Stood At c g k.dots k.heads p → Low g r (h + 1) (after_dot k.dots p) i j
      go (at-end q _) = absurd (omega arith)
      go (at-terminal x q _ _ _ _) = absurd (omega arith)
      go (at_symbol s q l be nt hr ea) =
          let ex : one.number < length (alts g s) = rw ea at one.exists in
          let d : Derives g r one.low.row (alternative g s one.number) i j = subst
          (λ (ts : List (List Symbol)). Derives g r one.low.row (get_or ts one.number []) i j) ea one.low.derives in
          let after = end_after (p + 1) ends (k.stands (p + 1) next) in
          let is : after_dot k.dots p ≡ s ∷ [] = be ∙ ap (λ (ss : List Symbol). s ∷ ss) after in
          record { row = node one.number j one.low.row end; derives = rw is (d-node ex d d-end); low = omega (arith, one.low.low) }

-- a height that is one, on a stretch that is not empty, by what it goes
pub data RestBy (c M F : List ℕ) (n : ℕ) (t : List ℕ) (p i j : ℕ) : Type 0 where
  by_last : next_kind c p ≡ 2 → next_kind c (p + 1) ≡ 0 → rest_of c M F n t p i j ≡ up_of (rule_of c M F n t (rule_at c p) i j) → RestBy c M F n t p i j
  by_row : (next_kind c p ≡ 0 → ⊥) → Reached M p i → is_last c p ≡ false → Wanted M (home_of c p) j → rest_of c M F n t p i j ≡ cell_of n t p i j → RestBy c M F n t p i j

module _ (c M F : List ℕ) (n : ℕ) (t : List ℕ) where
  pub rule-by : (e i j : ℕ) → (i ≡ j → ⊥) → rule_of c M F n t e i j < none → Wanted M e j × (rule_of c M F n t e i j ≡ cell_of n t e i j)
  rule-by e i j d l = elim (dec_lt 1 (end_at M e j)) as (λ _. Wanted M e j × (rule_of c M F n t e i j ≡ cell_of n t e i j)) [
    | yes w ↦ (omega arith, rule-cell c M F n t e i j d (omega arith))
    | no w ↦ absurd (omega (arith, rule-none c M F n t e i j d (λ y. omega arith)))
  ]

  pub rest-by : (p i j : ℕ) → (i ≡ j → ⊥) → rest_of c M F n t p i j < none → RestBy c M F n t p i j
  rest-by p i j d l = elim (ℕ_discrete (next_kind c p) 0) as (λ _. RestBy c M F n t p i j) [
    | yes z ↦ absurd (omega (arith, rest_end c M F n t p i j d z))
    | no z ↦ (elim (dec_lt 0 (dot_at M p i)) as (λ _. RestBy c M F n t p i j) [
      | no r ↦ absurd (omega (arith, rest-away c M F n t p i j d z (λ y. omega arith)))
      | yes r ↦ on (is_last c p) refl z (omega arith)
    ])
  ]
    where
      on : (b : Bool) → is_last c p ≡ b → (next_kind c p ≡ 0 → ⊥) → Reached M p i → RestBy c M F n t p i j
      on true e z r = let w = last-is c p e in by_last w.symbol w.stop (rest-last c M F n t p i j d z r e)
      on false e z r = elim (dec_lt 1 (end_at M (home_of c p) j)) as (λ _. RestBy c M F n t p i j) [
        | yes w ↦ by_row z r e (omega arith) (rest-row c M F n t p i j d z r e (omega arith))
        | no w ↦ absurd (omega (arith, rest-unwanted c M F n t p i j d z r e (λ y. omega arith)))
      ]

-- the row that a dot lowers, of those that have one
pub data Target (c : List ℕ) (p : ℕ) : ℕ → Type 0 where
  own : owner_at c p ≡ 0 → Target c p p
  rules : {e : ℕ} → owner_at c p ≡ e + 1 → Target c p e

-- one cell is lowered to what is offered
module _ (c M F : List ℕ) (size n : ℕ) (shape : Shape c size) (t : List ℕ) (p y i j v : ℕ) (inside : p < size) (kind : next_kind c p ≡ 0 → ⊥) (target : Target c p y)
    (wide : i < j) (stop : j ≤ n) (some : v < none) (low : v < cell_of n t y i j)
    (offer : OffersAt c M F size n t p i j v) where
  abbrev u : List ℕ
  u = set t (cell_at n y i j) v

  pub lowered-cell : cell_of n u y i j ≡ v
  lowered-cell = get_or-set_same t (cell_at n y i j) v 0 (in-range t (cell_at n y i j) v low)

  pub other_row : (z k l : ℕ) → k ≤ l → l ≤ n → (z ≡ y → ⊥) → cell_of n u z k l ≡ cell_of n t z k l
  other_row z k l a b o = get_or-set_other t (cell_at n y i j) (cell_at n z k l) v 0 (λ e. o (cell-inj n z k l y i j a b (omega arith) stop e).same-p)

  pub other-stretch : (z k l : ℕ) → k ≤ l → l ≤ n → (Only i j k l → ⊥) → cell_of n u z k l ≡ cell_of n t z k l
  other-stretch z k l a b o =
      get_or-set_other t (cell_at n y i j) (cell_at n z k l) v 0 (λ e. let w = cell-inj n z k l y i j a b (omega arith) stop e in o (w.same-i, w.same-j))

  module _ (g : Grammar) (r : Text) {top first : ℕ} (k : Ruled (Flagged M r) c g size top first) (long : length r ≡ n) where
    abbrev At : List ℕ → ℕ → ℕ → Type 0
    At w a b = Attained k r (home_of c) (Fits M) (Reached M) (Wanted M) (rule_of c M F n w) (rest_of c M F n w) a b

    module _ (below : (m l : ℕ) → i ≤ m → m ≤ l → l ≤ j → At t m l) where
      anyhow : (m l : ℕ) → i ≤ m → m ≤ l → l ≤ j → Attained k r (home_of c) (Fits M) (Reached M) Any (rule_of c M F n t) (rest_of c M F n t) m l
      anyhow m l a b d = let x = below m l a b d in record { rules = x.rules; rests = x.rests }

      new-rest : Low g r v (after_dot k.dots p) i j
      new-rest = offered k r (home_of c) (Fits M) (Reached M) Any (rule_of c M F n t) (rest_of c M F n t)
          (λ q m x h l e f a. (a m l).0 f) i j (omega arith) anyhow p v inside offer some

      new-rule : (e : ℕ) → owner_at c p ≡ e + 1 → RuleLow g r v (head_of g k.heads e) i j
      new-rule e o = offered-rule k r (home_of c) (Fits M) (Reached M) Any (rule_of c M F n t) (rest_of c M F n t)
          (λ q m x h l e f a. (a m l).0 f) i j (omega arith) anyhow p e v inside o offer some

      rule-at : (q e : ℕ) → q < size → owner_at c q ≡ e + 1 → Target c p y → rule_of c M F n u e i j < none → RuleLow g r (rule_of c M F n u e i j) (head_of g k.heads e) i j
      rule-at q e h o w l = elim (ℕ_discrete e y) as (λ _. RuleLow g r (rule_of c M F n u e i j) (head_of g k.heads e) i j) [
        | no d ↦ (let s = rule-same c M F n t u e i j (other_row e i j (omega arith) stop d) in
            subst (λ (z : ℕ). RuleLow g r z (head_of g k.heads e) i j) (sym s) ((below i j (omega arith) (omega arith) (omega arith)).rules q e h o (omega arith)))
        | yes d ↦ (let s : rule_of c M F n u e i j ≡ v = (rule-by c M F n u e i j (λ z. omega arith) l).1 ∙ ap (λ (z : ℕ). cell_of n u z i j) d ∙ lowered-cell in
            subst (λ (z : ℕ). RuleLow g r z (head_of g k.heads e) i j) (sym s) (new-rule e (owned d w)))
      ]
        where
          owned : {z : ℕ} → e ≡ z → Target c p z → owner_at c p ≡ e + 1
          owned d (own a) = absurd (kind (subst (λ (z : ℕ). next_kind c z ≡ 0) d (shape.owners q e h o).1))
          owned d (rules a) = omega arith

      rest_at : (q : ℕ) → q < size → owner_at c q ≡ 0 → rest_of c M F n u q i j < none → RestBy c M F n u q i j → Low g r (rest_of c M F n u q i j) (after_dot k.dots q) i j
      rest_at q h o l (by_last a b e) =
          let x = rule_of c M F n u (rule_at c q) i j in
          let lx = up-low x (omega arith) in
          let s : rest_of c M F n u q i j ≡ x + 1 = e ∙ up_is x lx in
          let first = shape.names q h a in
          let one = rule-at (goes_at c q) (rule_at c q) first.1 first.2 target lx in
          subst (λ (z : ℕ). Low g r z (after_dot k.dots q) i j) (sym s) (last-low k r q x i j h (shape.nexts q h (λ z. omega arith)) a b one)
      rest_at q h o l (by_row a x b w e) = elim (ℕ_discrete q y) as (λ _. Low g r (rest_of c M F n u q i j) (after_dot k.dots q) i j) [
        | no d ↦ (let s : rest_of c M F n u q i j ≡ rest_of c M F n t q i j = same d in
            subst (λ (z : ℕ). Low g r z (after_dot k.dots q) i j) (sym s) ((below i j (omega arith) (omega arith) (omega arith)).rests q h o (omega arith)))
        | yes d ↦ (let s : rest_of c M F n u q i j ≡ v = e ∙ ap (λ (z : ℕ). cell_of n u z i j) d ∙ lowered-cell in
            subst (λ (z : ℕ). Low g r z (after_dot k.dots q) i j) (sym s) (fits d target))
      ]
        where
          fits : {z : ℕ} → q ≡ z → Target c p z → Low g r v (after_dot k.dots q) i j
          fits d (own _) = subst (λ (z : ℕ). Low g r v (after_dot k.dots z) i j) (sym d) new-rest
          fits {z} d (rules f) = absurd (a (subst (λ (x : ℕ). next_kind c x ≡ 0) (sym d) (shape.owners p z inside f).1))

          same : (q ≡ y → ⊥) → rest_of c M F n u q i j ≡ rest_of c M F n t q i j
          same d = e ∙ other_row q i j (omega arith) stop d ∙ sym (rest-row c M F n t q i j (λ z. omega arith) a x b w)

      here : At u i j
      here = record {
        rules = λ q e h o l. rule-at q e h o target l;
        rests = λ q h o l. rest_at q h o l (rest-by c M F n u q i j (λ z. omega arith) l);
      }

    -- other stretches keep what they have
    elsewhere : (a b : ℕ) → a ≤ b → b ≤ n → (Only i j a b → ⊥) → At t a b → At u a b
    elsewhere a b l h o x = record {
      rules = λ q e hq w y. let s = rule-same c M F n t u e a b (other-stretch e a b l h o) in
          subst (λ (z : ℕ). RuleLow g r z (head_of g k.heads e) a b) (sym s) (x.rules q e hq w (omega arith));
      rests = λ q hq w y. let s = rest-same c M F n t u q a b (λ _. other-stretch q a b l h o) (λ _. other-stretch (rule_at c q) a b l h o) in
          subst (λ (z : ℕ). Low g r z (after_dot k.dots q) a b) (sym s) (x.rests q hq w (omega arith));
    }

    all-attained : ((a b : ℕ) → a ≤ b → b < j + 1 → b ≤ n → At t a b) → (a b : ℕ) → a ≤ b → b < j + 1 → b ≤ n → At u a b
    all-attained x a b l m h = elim (ℕ_discrete a i) as (λ _. At u a b) [
      | no d ↦ elsewhere a b l h (λ o. d o.0) (x a b l m h)
      | yes d ↦ (elim (ℕ_discrete b j) as (λ _. At u a b) [
        | no e ↦ elsewhere a b l h (λ o. e o.1) (x a b l m h)
        | yes e ↦ subst (λ (z : ℕ). At u z b) (sym d) (subst (λ (z : ℕ). At u i z) (sym e) (here (λ y z _ q w. x y z q (omega arith) (omega arith))))
      ])
    ]

  pub fell-set : Fell c M F size n (j + 1) (Only i j) t u
  fell-set = record {
    long = length-set t (cell_at n y i j) v;
    sound = λ s g r top first k long. all-attained g r k long (λ a b l m h. s g r top first k long a b l m h);
    le = λ x. set-le t (cell_at n y i j) x v low;
    sum = omega (arith, sum-set t (cell_at n y i j) v low);
    same = other-stretch;
  }
