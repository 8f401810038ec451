-- A table after k rounds, said of derivations, is one whose heights have rows and which is closed below k, said of the code; and back.
use mathlib.Core.Bool.{Bool}
use mathlib.Core.Path.{◌≡◌, refl, sym, ap, subst, ◌∙◌}
use mathlib.Core.List.{List, [], ◌∷◌}
use Prim.Native.Nat.{ℕ, suc, ◌+◌, ◌*◌, ◌<◌, ◌≤◌}
use native.Mathlib.Decide.{dec_lt, ℕ_discrete}
use native.Mathlib.Omega.{arith}
use lib.ListN.{length, get_or}
use lib.Seq.{get_or-set_other}
use Rattle.text.specs.Lists.{Text}
use Rattle.tree.specs.Tree.{Symbol, Grammar}
use Rattle.plain.specs.Plain as plain
use Rattle.layout.specs.Layout.{layout, name_at}
use Rattle.derive.specs.Derive.{Row, end, node, Derives, d-end, d-leaf, d-node, height}
use Rattle.derive.proofs.Levels.{Low}
use Rattle.chart.specs.Code.{next_kind, owner_at, after_dot, head_of, Stands, at-end, at-terminal, at_symbol, Coded}
use Rattle.chart.specs.Heights.{stretches, cell_at, none}
use Rattle.heights.specs.Table.{cell_of, value_of, Place, Shape}
use Rattle.heights.specs.Filling.{Gives, by-terminal, by-split, by-owned, Steps, stay, step}
use Rattle.heights.proofs.Cells.{cell-inj}
use Rattle.heights.proofs.Values.{value_cell}
use Rattle.heights.proofs.Exact.{shape, RuleLow, Sound, gives-sound, steps-keep}
use Rattle.sweeps.specs.Layers.{Upto, Swept}
use Rattle.sweeps.proofs.Rounds.{low, low-symbol}
use Rattle.rounds.specs.After.{rule_symbol, DotAfter, dot-low, dot-none, RuleAfter, rule-low, rule-none, After}
use Rattle.advance.specs.Numbered.{Numbered}

-- a tree of a symbol is a row of one of its alternatives
tree-row : {g : Grammar} {r : Text} {s : Symbol} {i j h : ℕ} (d : Row) → Derives g r d (s ∷ []) i j → height d ≡ suc h → RuleLow g r h s i j
tree-row _ (d-leaf f d-end) e = absurd (omega arith)
tree-row _ (d-node {c = o} {a = a} la dc d-end) e = record { number = a; exists = la; low = record { row = o; derives = dc; low = omega arith } }

pub row-tree : {g : Grammar} {r : Text} {s : Symbol} {i j h : ℕ} → RuleLow g r h s i j → Low g r (suc h) (s ∷ []) i j
row-tree {j = j} u = record { row = node u.number j u.low.row end; derives = d-node u.exists u.low.derives d-end; low = omega (arith, u.low.low) }

module _ (c f : List ℕ) (g : Grammar) (r : Text) (size top first : ℕ) (k : Coded c f g r size top first) (m : Numbered c g k.dots k.heads size) where
  abbrev n : ℕ
  n = length r

  abbrev dots : List (List Symbol)
  dots = k.dots

  sh : Shape c size n (size * stretches n)
  sh = shape c f g r size top first k (size * stretches n) (omega arith)

  -- an end has nothing after it, any other dot something
  end_empty : (p : ℕ) → next_kind c p ≡ 0 → Stands c f g r dots k.heads p → after_dot dots p ≡ []
  end_empty p z (at-end _ e) = e
  end_empty p z (at-terminal x y _ _ _ _) = absurd (omega arith)
  end_empty p z (at_symbol s y _ _ _ _ _) = absurd (omega arith)

  dot-full : (p : ℕ) → (next_kind c p ≡ 0 → ⊥) → Stands c f g r dots k.heads p → after_dot dots p ≡ [] → ⊥
  dot-full p z (at-end y _) e = z y
  dot-full p z (at-terminal x y _ w _ _) e = let q : ◌≡◌ {A = ℕ} 0 1 = cc in omega arith
  dot-full p z (at_symbol s y _ w _ _ _) e = let q : ◌≡◌ {A = ℕ} 0 1 = cc in omega arith

  -- the table said of the code: heights have rows, it is closed below h, and only ends that name a rule have a height
  pub record Layered (h : ℕ) (t : List ℕ) : Type 0 where
    pub sound : Sound c f g r size top first k t
    pub upto : Upto c f size n h t
    pub ends : (p i j : ℕ) → Place size n p i j → next_kind c p ≡ 0 → cell_of n t p i j < none → (q : ℕ) × (q < size) × (owner_at c q ≡ p + 1)

  -- steps keep the last of these
  abbrev Named : List ℕ → Type 0
  Named t = (p i j : ℕ) → Place size n p i j → next_kind c p ≡ 0 → cell_of n t p i j < none → (q : ℕ) × (q < size) × (owner_at c q ≡ p + 1)

  pub given-named : {t : List ℕ} {p i j v : ℕ} → next_kind c p ≡ 0 → Gives c f size n t p i j v → (q : ℕ) × (q < size) × (owner_at c q ≡ p + 1)
  given-named z (by-terminal y _ _ _) = absurd (omega arith)
  given-named z (by-split _ y _ _ _) = absurd (omega arith)
  given-named z (by-owned q hq w _) = (q, hq, w)

  steps-named : {A : ℕ → ℕ → Type 0} {t u : List ℕ} → Named t → Steps c f size n A t u → Named u
  steps-named w stay = w
  steps-named w (step {t = t} p i j v s ha hp hi hj d l) = λ x a b h z o.
      elim (ℕ_discrete (cell_at n x a b) (cell_at n p i j)) as (λ _. (q : ℕ) × (q < size) × (owner_at c q ≡ x + 1)) [
        | no e ↦ steps-named w s x a b h z (subst (λ (y : ℕ). y < none) (get_or-set_other t (cell_at n p i j) (cell_at n x a b) v 0 e) o)
        | yes e ↦ (let y = (cell-inj n x a b p i j h.order h.stop hi hj e).same-p in
            subst (λ (y : ℕ). (q : ℕ) × (q < size) × (owner_at c q ≡ y + 1)) (sym y) (given-named (ap (next_kind c) (sym y) ∙ z) d))
      ]

  -- a sweep
  pub layered-next : {h : ℕ} {t u : List ℕ} {b : Bool} → Layered h t → Swept c f size n h t b u → Layered (h + 1) u
  layered-next a s = record {
    sound = steps-keep c f g r size top first k a.sound a.upto.most s.steps;
    upto = s.upto;
    ends = steps-named a.ends s.steps;
  }

  -- from the code to derivations
  module _ (h : ℕ) (t : List ℕ) (a : Layered h t) (few : h ≤ none) where
    dot-is : (p i j : ℕ) → Place size n p i j → (next_kind c p ≡ 0 → ⊥) → DotAfter g r (after_dot dots p) i j h (cell_of n t p i j)
    dot-is p i j w z =
        let v = cell_of n t p i j in
        let e : value_of c t n p i j ≡ v = value_cell c t n p i j z in
        let below : (d : Row) → Derives g r d (after_dot dots p) i j → height d < h → v ≤ height d =
        λ d dd l. omega (arith, low c f g r size top first k h t a.upto dd l p w.inside refl w.stop) in
        elim (dec_lt v none) as (λ _. DotAfter g r (after_dot dots p) i j h v) [
          | yes l ↦ (let u = (a.sound p i j w l).dot z in
              let lv = a.upto.low p i j w l in
              dot-low {v = v} u.row u.derives (omega (arith, u.low, below u.row u.derives (omega (arith, u.low))))
              (λ d dd. elim (dec_lt (height d) h) as (λ _. v ≤ height d) [ yes q ↦ below d dd q | no q ↦ omega arith ]) lv)
          | no l ↦ (let q : v ≡ none = omega (arith, a.upto.most p i j w) in
              subst (DotAfter g r (after_dot dots p) i j h) (sym q)
              (dot-none (λ d dd. elim (dec_lt (height d) h) as (λ _. h ≤ height d) [ yes o ↦ absurd (omega (arith, below d dd o)) | no o ↦ omega arith ])))
        ]

    rule-is : (q i j : ℕ) → q < length (layout g) → i ≤ j → j ≤ n → RuleAfter g r (rule_symbol g q) i j h (cell_of n t (name_at g q) i j)
    rule-is q i j hq hi hj =
        let o = m.named q hq in
        let e = name_at g q in
        let w : Place size n e i j = record { inside = omega (arith, o.inside, k.count); order = hi; stop = hj } in
        let s = rule_symbol g q in
        let v = cell_of n t e i j in
        let below : (d : Row) → Derives g r d (s ∷ []) i j → height d ≤ h → v < height d =
        λ d dd l. low-symbol c f g r size top first k h t a.upto e o.first s o.chain dd hj l in
        elim (dec_lt v none) as (λ _. RuleAfter g r s i j h v) [
          | yes l ↦ (let u = row-tree (subst (λ (x : Symbol). RuleLow g r v x i j) o.head ((a.sound e i j w l).rule o.ends)) in
              let lv = a.upto.low e i j w l in
              rule-low {v = v} (record {
                tree = u.row;
                derives = u.derives;
                attained = omega (arith, u.low, below u.row u.derives (omega (arith, u.low)));
                least = λ d dd. elim (dec_lt h (height d)) as (λ _. suc v ≤ height d) [ yes x ↦ omega arith | no x ↦ omega (arith, below d dd (omega arith)) ];
              }) lv)
          | no l ↦ (let x : v ≡ none = omega (arith, a.upto.most e i j w) in
              subst (RuleAfter g r s i j h) (sym x)
              (rule-none (λ d dd. elim (dec_lt h (height d)) as (λ _. h < height d) [ yes y ↦ y | no y ↦ absurd (omega (arith, below d dd (omega arith), a.upto.most e i j w)) ])))
        ]

    ends-are : (p i j : ℕ) → Place size n p i j → after_dot dots p ≡ [] → cell_of n t p i j < none → (q : ℕ) × (q < length (layout g)) × (p ≡ name_at g q)
    ends-are p i j w e l = elim (ℕ_discrete (next_kind c p) 0) as (λ _. (q : ℕ) × (q < length (layout g)) × (p ≡ name_at g q)) [
      | no z ↦ absurd (dot-full p z (k.stands p w.inside) e)
      | yes z ↦ (let o = a.ends p i j w z l in m.owner o.0 p o.1 o.2)
    ]

    place : (p i j : ℕ) → p < plain.size g → i ≤ j → j ≤ n → Place size n p i j
    place p i j hp hi hj = record { inside = omega (arith, m.count); order = hi; stop = hj }

    pub after-of : size * stretches n ≤ length t → After g r h t
    after-of room = record {
      room = rw (sym m.count) room;
      dot = λ p i j hp hi hj z. (let w = place p i j hp hi hj in
          subst (λ (ss : List Symbol). DotAfter g r ss i j h (cell_of n t p i j)) (m.laid p w.inside)
          (dot-is p i j w (λ y. z (sym (m.laid p w.inside) ∙ end_empty p y (k.stands p w.inside)))));
      rule = rule-is;
      ends = λ p i j hp hi hj z l. (let w = place p i j hp hi hj in ends-are p i j w (m.laid p w.inside ∙ z) l);
    }

  -- from derivations to the code
  module _ (h : ℕ) (t : List ℕ) (a : After g r h t) (few : h ≤ none) (most : (x : ℕ) → get_or t x 0 ≤ none) where
    dot-says : (p i j : ℕ) → Place size n p i j → (next_kind c p ≡ 0 → ⊥) → DotAfter g r (after_dot dots p) i j h (cell_of n t p i j)
    dot-says p i j w z =
        let e = m.laid p w.inside in
        subst (λ (ss : List Symbol). DotAfter g r ss i j h (cell_of n t p i j)) (sym e)
        (a.dot p i j (omega (arith, w.inside, m.count)) w.order w.stop (λ y. dot-full p z (k.stands p w.inside) (e ∙ y)))

    -- the rule that an end names
    record Rule (p i j : ℕ) : Type 0 where
      number : ℕ
      inside : number < length (layout g)
      is : p ≡ name_at g number
      head : head_of g k.heads p ≡ rule_symbol g number
      says : RuleAfter g r (rule_symbol g number) i j h (cell_of n t p i j)

    rule-at : (p i j q : ℕ) → i ≤ j → j ≤ n → q < length (layout g) → p ≡ name_at g q → Rule p i j
    rule-at p i j q hi hj hq e = record {
      number = q;
      inside = hq;
      is = e;
      head = ap (head_of g k.heads) e ∙ (m.named q hq).head;
      says = subst (λ (x : ℕ). RuleAfter g r (rule_symbol g q) i j h (cell_of n t x i j)) (sym e) (a.rule q i j hq hi hj);
    }

    rule-says : (p i j : ℕ) → Place size n p i j → next_kind c p ≡ 0 → cell_of n t p i j < none → Rule p i j
    rule-says p i j w z l =
        let e = m.laid p w.inside in
        let o = a.ends p i j (omega (arith, w.inside, m.count)) w.order w.stop (sym e ∙ end_empty p z (k.stands p w.inside)) l in
        rule-at p i j o.0 w.order w.stop o.1 o.2

    -- a height has a row, and is below h
    dot-row : {ss : List Symbol} {i j v : ℕ} → DotAfter g r ss i j h v → v < none → Low g r v ss i j × (v < h)
    dot-row (dot-low u d e least l) b = (record { row = u; derives = d; low = omega arith }, l)
    dot-row (dot-none w) b = absurd (omega arith)

    rule-row : {s : Symbol} {i j v : ℕ} → RuleAfter g r s i j h v → v < none → RuleLow g r v s i j × (v < h)
    rule-row (rule-low w l) b = (tree-row w.tree w.derives w.attained, l)
    rule-row (rule-none w) b = absurd (omega arith)

    sound : Sound c f g r size top first k t
    sound p i j w l = record {
      dot = λ z. (dot-row (dot-says p i j w z) l).0;
      rule = λ z. (let o = rule-says p i j w z l in subst (λ (s : Symbol). RuleLow g r (cell_of n t p i j) s i j) (sym o.head) (rule-row o.says l).0);
    }

    low-at : (p i j : ℕ) → Place size n p i j → cell_of n t p i j < none → cell_of n t p i j < h
    low-at p i j w l = elim (ℕ_discrete (next_kind c p) 0) as (λ _. cell_of n t p i j < h) [
      | yes z ↦ (rule-row (rule-says p i j w z l).says l).1
      | no z ↦ (dot-row (dot-says p i j w z) l).1
    ]

    -- nothing below h is lower
    dot-least : {ss : List Symbol} {i j v x : ℕ} → DotAfter g r ss i j h x → Low g r v ss i j → v < h → x ≤ v
    dot-least (dot-low u d e least l) w b = omega (arith, least w.row w.derives, w.low)
    dot-least (dot-none u) w b = absurd (omega (arith, u w.row w.derives, w.low))

    rule-least : {s : Symbol} {i j v x : ℕ} → RuleAfter g r s i j h x → RuleLow g r v s i j → v < h → x ≤ v
    rule-least (rule-low w l) u b = omega (arith, w.least (row-tree u).row (row-tree u).derives, (row-tree u).low)
    rule-least (rule-none w) u b = absurd (omega (arith, w (row-tree u).row (row-tree u).derives, (row-tree u).low))

    closed : (p i j v : ℕ) → Place size n p i j → Gives c f size n t p i j v → v < h → cell_of n t p i j ≤ v
    closed p i j v w d l = elim (ℕ_discrete (next_kind c p) 0) as (λ _. cell_of n t p i j ≤ v) [
      | no z ↦ dot-least (dot-says p i j w z) ((gives-sound c f g r size top first k t sound p i j v w d (omega arith)).dot z) l
      | yes z ↦ (let x = given-named z d in
          let y = m.owner x.0 p x.1 x.2 in
          let o = rule-at p i j y.0 w.order w.stop y.1 y.2 in
          rule-least o.says (subst (λ (s : Symbol). RuleLow g r v s i j) o.head ((gives-sound c f g r size top first k t sound p i j v w d (omega arith)).rule z)) l)
    ]

    pub layered-of : Layered h t
    layered-of = record {
      sound = sound;
      upto = record { most = λ p i j w. most (cell_at n p i j); low = low-at; closed = closed };
      ends = λ p i j w z l. (let o = rule-says p i j w z l in let x = m.owned o.number o.inside in (x.0, x.1, x.2 ∙ ap (λ (y : ℕ). y + 1) (sym o.is)));
    }
