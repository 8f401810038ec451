-- Heights that are lowered to what is offered stay those of derivations.
use mathlib.Core.List.{List}
use mathlib.Core.Path.{◌≡◌, refl, sym, subst, ap, ◌∙◌}
use Prim.Native.Nat.{ℕ, ◌+◌, ◌-◌, ◌<◌, ◌≤◌}
use native.Mathlib.Decide.{ℕ_discrete}
use native.Mathlib.Omega.{arith}
use lib.Dec.{T}
use lib.ListN.{length, set, drop}
use borrow.Author.Tests.{ne_eqb}
use lib.Seq.{get_or-set_same, get_or-set_other}
use Rattle.text.specs.Lists.{Text}
use Rattle.tree.specs.Tree.{Terminal, Symbol, Grammar}
use Rattle.plain.specs.Plain.{fits}
use Rattle.derive.proofs.Levels.{Low}
use Rattle.chart.specs.Code.{next_kind, owner_at, after_dot, head_of, On, at-end, at-terminal, at_symbol, Ruled}
use Rattle.chart.specs.Heights.{none}
use Rattle.heights.specs.Part.{by_end}
use Rattle.heights.proofs.Part.{Attained, RuleLow, offered, offered-rule}
use Rattle.reach.specs.Flags.{home_of}
use Rattle.reach.proofs.Widths.{empty-fits}
use Rattle.sparse.specs.Cells.{empty_in, empty_rest, row_of, Shape}
use Rattle.sparse.specs.Steps.{empty_toward, Empties}
use Rattle.sparse.proofs.Rows.{row-inner, row_first, empty-end, empty-row, rule-empty, rest-empty}
use Rattle.empties.specs.Empty.{offer_of, Done, Wide, Still, Any, rule_in, rest_in, Derived, Cleared}
use Rattle.empties.proofs.Offers.{offers, offer-end, offer-terminal, offer-symbol}

-- a dot's height stands at its row
pub row-size : {c : List ℕ} {size : ℕ} → Shape c size → (p : ℕ) → p < size → row_of c p < size
row-size {c} {size} s p h = elim (ℕ_discrete (owner_at c p) 0) as (λ _. row_of c p < size) [
  | yes o ↦ omega (arith, row-inner c p o)
  | no o ↦ (let w : owner_at c p ≡ (owner_at c p - 1) + 1 = omega arith in
      omega (arith, row_first c p (owner_at c p - 1) w, (s.owners p (owner_at c p - 1) h w).0))
]

-- a terminal that goes nowhere fits
still : (c : List ℕ) (r : Text) (size p i : ℕ) (x : Terminal) → p < size → i ≤ length r → next_kind c p ≡ 1 → Still c p i → Wide c p x → T (fits x (drop i r))
still c r size p i x h hi z g w = empty-fits x (drop i r) (sym w ∙ g)

module _ {c : List ℕ} {size : ℕ} (s : Shape c size) (F : List ℕ) (long : length F ≡ 2048) (p v : ℕ) (h : p < size)
    (own : next_kind c p ≡ 0 → owner_at c p ≡ 0 → ⊥) (e : v ≡ offer_of c F p) (l : v < none) where
  abbrev after : List ℕ
  after = set F (1536 + row_of c p) v

  at_row : (y : ℕ) → y ≡ row_of c p → empty_in after y ≡ v
  at_row y w = ap (empty_in after) w ∙ get_or-set_same F (1536 + row_of c p) v 0 (omega (arith, row-size s p h, s.small))

  away : (y : ℕ) → (y ≡ row_of c p → ⊥) → empty_in after y ≡ empty_in F y
  away y w = get_or-set_other F (1536 + row_of c p) (1536 + y) v 0 (λ q. w (omega arith))

  module _ {g : Grammar} {r : Text} {top first : ℕ} (k : Ruled (Wide c) c g size top first) (i : ℕ) (hi : i ≤ length r)
      (a : Attained k r (home_of c) (Still c) Any Any (rule_in F) (rest_in c F) i i) where
    only : (m d : ℕ) → i ≤ m → m ≤ d → d ≤ i → Attained k r (home_of c) (Still c) Any Any (rule_in F) (rest_in c F) m d
    only m d x y z =
        let em : i ≡ m = omega arith in
        let ed : i ≡ d = omega arith in
        subst (λ (b : ℕ). Attained k r (home_of c) (Still c) Any Any (rule_in F) (rest_in c F) b d) em
        (subst (λ (b : ℕ). Attained k r (home_of c) (Still c) Any Any (rule_in F) (rest_in c F) i b) ed a)

    new-rest : Low g r v (after_dot k.dots p) i i
    new-rest = offered k r (home_of c) (Still c) Any Any (rule_in F) (rest_in c F) (still c r size) i i hi only p v h
        (offers c F p size i v e l) l

    new-rule : (b : ℕ) → owner_at c p ≡ b + 1 → RuleLow g r v (head_of g k.heads b) i i
    new-rule b o = offered-rule k r (home_of c) (Still c) Any Any (rule_in F) (rest_in c F) (still c r size) i i hi only p b v h o
        (offers c F p size i v e l) l

    rules : (q b : ℕ) → q < size → owner_at c q ≡ b + 1 → empty_in after b < none → RuleLow g r (empty_in after b) (head_of g k.heads b) i i
    rules q b hq o lt = elim (ℕ_discrete b (row_of c p)) as (λ _. RuleLow g r (empty_in after b) (head_of g k.heads b) i i) [
      | no w ↦ subst (λ (z : ℕ). RuleLow g r z (head_of g k.heads b) i i) (sym (away b w)) (a.rules q b hq o (omega (arith, away b w)))
      | yes w ↦ (elim (ℕ_discrete (owner_at c p) 0) as (λ _. RuleLow g r (empty_in after b) (head_of g k.heads b) i i) [
        | yes n ↦ absurd (own (ap (next_kind c) (sym (w ∙ row-inner c p n)) ∙ (s.owners q b hq o).1) n)
        | no n ↦ (let y : owner_at c p ≡ (owner_at c p - 1) + 1 = omega arith in
            subst (λ (z : ℕ). RuleLow g r z (head_of g k.heads b) i i) (sym (at_row b w))
            (new-rule b (omega (arith, row_first c p (owner_at c p - 1) y))))
      ])
    ]

    inner-rest : (q : ℕ) → q < size → owner_at c q ≡ 0 → (next_kind c q ≡ 0 → ⊥) → empty_in after q < none → Low g r (empty_in after q) (after_dot k.dots q) i i
    inner-rest q hq o z lt = elim (ℕ_discrete q (row_of c p)) as (λ _. Low g r (empty_in after q) (after_dot k.dots q) i i) [
      | no w ↦ (let y = empty-row c q F z in
          subst (λ (b : ℕ). Low g r b (after_dot k.dots q) i i) (y ∙ sym (away q w)) (a.rests q hq o (omega (arith, away q w))))
      | yes w ↦ (elim (ℕ_discrete (owner_at c p) 0) as (λ _. Low g r (empty_in after q) (after_dot k.dots q) i i) [
        | yes n ↦ (let y : p ≡ q = sym (w ∙ row-inner c p n) in
            subst (λ (b : ℕ). Low g r b (after_dot k.dots q) i i) (sym (at_row q w)) (subst (λ (b : ℕ). Low g r v (after_dot k.dots b) i i) y new-rest))
        | no n ↦ (let y : owner_at c p ≡ (owner_at c p - 1) + 1 = omega arith in
            absurd (z (ap (next_kind c) (w ∙ row_first c p (owner_at c p - 1) y) ∙ (s.owners p (owner_at c p - 1) h y).1)))
      ])
    ]

    rests : (q : ℕ) → q < size → owner_at c q ≡ 0 → empty_rest c after q < none → Low g r (empty_rest c after q) (after_dot k.dots q) i i
    rests q hq o lt = elim (ℕ_discrete (next_kind c q) 0) as (λ _. Low g r (empty_rest c after q) (after_dot k.dots q) i i) [
      | yes z ↦ (let y = empty-end c q F z in
          subst (λ (b : ℕ). Low g r b (after_dot k.dots q) i i) (y ∙ sym (empty-end c q after z)) (a.rests q hq o (omega arith)))
      | no z ↦ (let y = empty-row c q after z in
          subst (λ (b : ℕ). Low g r b (after_dot k.dots q) i i) (sym y) (inner-rest q hq o z (omega arith)))
    ]

  pub lower-derived : Derived c size F → Derived c size after
  lower-derived d g r top first k i hi = let a = d g r top first k i hi in record { rules = rules k i hi a; rests = rests k i hi a }

-- at first only ends have a height, which is 0
module _ {c : List ℕ} {size : ℕ} (s : Shape c size) {F₀ F : List ℕ} (w : Cleared size F₀ F) where
  abbrev nothing : ℕ → ℕ → ℕ → ℕ
  nothing p i j = none

  module _ {g : Grammar} {r : Text} {top first : ℕ} (k : Ruled (Wide c) c g size top first) (i : ℕ) (hi : i ≤ length r) where
    no-height : (m d : ℕ) → i ≤ m → m ≤ d → d ≤ i → Attained k r (home_of c) (Still c) Any Any nothing nothing m d
    no-height m d x y z = record { rules = λ q b hq o l. absurd (omega arith); rests = λ q hq o l. absurd (omega arith) }

    end_low : (q : ℕ) → q < size → next_kind c q ≡ 0 → Low g r 0 (after_dot k.dots q) i i
    end_low q hq z = offered k r (home_of c) (Still c) Any Any nothing nothing (still c r size) i i hi no-height q 0 hq (by_end z refl refl) (omega arith)

    first-rests : (q : ℕ) → q < size → owner_at c q ≡ 0 → empty_rest c F q < none → Low g r (empty_rest c F q) (after_dot k.dots q) i i
    first-rests q hq o l = elim (ℕ_discrete (next_kind c q) 0) as (λ _. Low g r (empty_rest c F q) (after_dot k.dots q) i i) [
      | yes z ↦ subst (λ (b : ℕ). Low g r b (after_dot k.dots q) i i) (sym (empty-end c q F z)) (end_low q hq z)
      | no z ↦ absurd (omega (arith, empty-row c q F z, w.clear q hq))
    ]

  pub clear-derived : Derived c size F
  clear-derived g r top first k i hi = record {
    rules = λ q b hq o l. absurd (omega (arith, w.clear b (s.owners q b hq o).0));
    rests = first-rests k i hi;
  }

-- of a terminal only the width counts
wide-on : {At : ℕ → Terminal → Type 0} {c : List ℕ} {g : Grammar} {dots : List (List Symbol)} {heads : List Symbol} {p : ℕ} → On At c g dots heads p → On (Wide c) c g dots heads p
wide-on (at-end z e) = at-end z e
wide-on (at-terminal x z l e w a) = at-terminal x z l e w w
wide-on (at_symbol s z l e n h a) = at_symbol s z l e n h a

wide : {At : ℕ → Terminal → Type 0} {c : List ℕ} {g : Grammar} {size top first : ℕ} → Ruled At c g size top first → Ruled (Wide c) c g size top first
wide k = record {
  dots = k.dots;
  heads = k.heads;
  count = k.count;
  stands = λ p h. wide-on (k.stands p h);
  owned = k.owned;
  inner = k.inner;
  chains = k.chains;
  root-chain = k.root-chain;
  root-head = k.root-head;
  root-inside = k.root-inside;
  every = k.every;
  only = k.only;
  within = k.within;
  few = k.few;
  laid = k.laid;
  named = k.named;
  names = k.names;
}

-- the value of a dot lowers the height at its row
toward-row : (c F : List ℕ) (p : ℕ) → (next_kind c p ≡ 0 → owner_at c p ≡ 0 → ⊥) → empty_toward c F p ≡ empty_in F (row_of c p)
toward-row c F p own = elim (ℕ_discrete (owner_at c p) 0) as (λ _. empty_toward c F p ≡ empty_in F (row_of c p)) [
  | yes o ↦ rw o (empty-row c p F (λ z. own z o))
  | no o ↦ rw (ne_eqb (owner_at c p) 0 o)
]

pub all-empties : {c F : List ℕ} {size : ℕ} → Derived c size F → ((p : ℕ) → p < size → Done c p F) → Empties c F size
unfolding wide
all-empties {c} {F} {size} d done = record {
  end = λ p e h z o. let a = done p h (λ x y. omega arith) in
      let b = ap (empty_in F) (row_first c p e o) in
      omega (arith, offer-end c F p z);
  terminal = λ p h z g l. let own : next_kind c p ≡ 0 → owner_at c p ≡ 0 → ⊥ = λ x y. omega arith in
      let a = done p h own in
      omega (arith, toward-row c F p own, offer-terminal c F p z g);
  symbol = λ p h z l. let own : next_kind c p ≡ 0 → owner_at c p ≡ 0 → ⊥ = λ x y. omega arith in
      let a = done p h own in
      omega (arith, toward-row c F p own, offer-symbol c F p z);
  sound = λ M t n g r top first k i hi. let a = d g r top first (wide k) i hi in record {
    rules = λ q e hq o l. let y = rule-empty c M F n t e i i refl in
        subst (λ (b : ℕ). RuleLow g r b (head_of g k.heads e) i i) (sym y) (a.rules q e hq o (omega arith));
    rests = λ p hp o l. let y = rest-empty c M F n t p i i refl in
        subst (λ (b : ℕ). Low g r b (after_dot k.dots p) i i) (sym y) (a.rests p hp o (omega arith));
  };
}
