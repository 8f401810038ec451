-- What a stretch that is not empty hands on, by the rows that the column lists.
use mathlib.Core.Bool.{true}
use mathlib.Core.List.{List}
use mathlib.Core.Logic.{⊎_elim}
use mathlib.Core.Path.{◌≡◌, sym, ap, subst, ◌∙◌}
use Prim.Native.Nat.{ℕ, ◌+◌, ◌-◌, ◌<◌, ◌≤◌}
use native.Mathlib.Decide.{ℕ_discrete, dec_lt}
use native.Mathlib.Omega.{arith}
use lib.ListN.{length, get_or}
use Rattle.text.specs.Lists.{pick}
use Rattle.text.proofs.Tests.{look, clash}
use Rattle.chart.specs.Code.{next_kind, rule_at}
use Rattle.chart.specs.Heights.{none}
use Rattle.heights.specs.Table.{cell_of, up_of}
use Rattle.heights.proofs.Values.{up_none}
use Rattle.reach.specs.Flags.{dot_at, end_at, Reached, Wanted}
use Rattle.reach.proofs.Closed.{home-next}
use Rattle.sparse.specs.Cells.{is_last, rule_of, rest_of}
use Rattle.sparse.specs.Steps.{On, HandedOn}
use Rattle.sparse.specs.Column.{Hands, HandsOf, Due}
use Rattle.sparse.proofs.Rows.{rule-none, rest_end, rest-away, rest-last}
use Rattle.sparse.proofs.Column.{hand-own, hand-last}
use Rattle.spread.specs.Spread.{Low, Listing, Placed, Offering, Spread}
use Rattle.spread.proofs.Handing.{none-on}

module _ {c M : List ℕ} {size n m j len : ℕ} {C : List ℕ} (l : Listing c M size n m j len C) where
  pub row-placed : {x : ℕ} → 0 < x → x < size → Placed c size n m j len C (x - 1)
  row-placed a b = record {
    shape = l.shape;
    short = l.short;
    room = l.room;
    order = omega (arith, l.wide);
    stop = l.stop;
    column = l.column;
    full = l.full;
    inside = omega arith;
  }

  apart : m ≡ j → ⊥
  apart e = omega (arith, l.wide)

  module _ (F : List ℕ) (t : List ℕ) (x y v : ℕ) (h : Hands c M size j x y) (e : v ≡ cell_of n t y m j) where
    -- a dot that does not stand at the beginning of the stretch
    pub row-away : (Reached M x m → ⊥) → (p : ℕ) → x ≡ p + 1 → HandedOn c M F size n m j t p
    row-away u p d = none-on c M F size n m j t p
        (omega (arith, ap (λ (z : ℕ). rest_of c M F n t z m j) d, rest-away c M F n t x m j apart h.kind u))

    row-rest : Reached M x m → pick (is_last c x) (up_of v) v ≡ rest_of c M F n t x m j
    row-rest u = ⊎_elim (λ b. rw b (ap up_of e ∙ sym (hand-last h F n t m l.wide u b))) (λ b. rw b (e ∙ sym (hand-own h F n t m l.wide u b))) (look (is_last c x))

    module _ (b : ℕ) (is : b ≡ pick (is_last c x) (up_of v) v) (u : Reached M x m) where
      pub row-none : b ≡ none → (p : ℕ) → x ≡ p + 1 → HandedOn c M F size n m j t p
      row-none z p d = none-on c M F size n m j t p (omega (arith, ap (λ (z : ℕ). rest_of c M F n t z m j) d, is ∙ row-rest u))

      pub row-offering : b < none → Low size n m j t C → Offering c M F size n m j len t C (x - 1) b
      row-offering some noted =
          let z : x - 1 + 1 ≡ x = omega (arith, h.later) in
          record { placed = row-placed h.later h.inside; is = is ∙ row-rest u ∙ ap (λ (y : ℕ). rest_of c M F n t y m j) (sym z); some = some; low = noted }

    -- the row has no height
    pub row-idle : v ≡ none → (p : ℕ) → x ≡ p + 1 → HandedOn c M F size n m j t p
    row-idle z p d = elim (dec_lt 0 (dot_at M x m)) as (λ _. HandedOn c M F size n m j t p) [
      | no u ↦ row-away (λ w. omega arith) p d
      | yes u ↦ none-on c M F size n m j t p (⊎_elim
          (λ b. omega (arith, ap (λ (z : ℕ). rest_of c M F n t z m j) d, hand-last h F n t m l.wide (omega arith) b, up_none (cell_of n t y m j) (omega arith)))
          (λ b. omega (arith, ap (λ (z : ℕ). rest_of c M F n t z m j) d, hand-own h F n t m l.wide (omega arith) b)) (look (is_last c x)))
    ]

  -- a last symbol whose rule is not wanted has no height
  last_none : (F t : List ℕ) (x : ℕ) → is_last c x ≡ true → (next_kind c x ≡ 0 → ⊥) → (Wanted M (rule_at c x) j → ⊥) → none ≤ rest_of c M F n t x m j
  last_none F t x b k w = elim (dec_lt 0 (dot_at M x m)) as (λ _. none ≤ rest_of c M F n t x m j) [
    | no u ↦ omega (arith, rest-away c M F n t x m j apart k (λ d. omega arith))
    | yes u ↦ omega (
      arith,
      rest-last c M F n t x m j apart k (omega arith) b,
      up_none (rule_of c M F n t (rule_at c x) m j) (omega (arith, rule-none c M F n t (rule_at c x) m j apart w)),
    )
  ]

  -- every dot is handed on, if the listed ones are
  module _ (F t : List ℕ) (r : HandsOf c M size j (Due c M size j) C)
      (h : (k : ℕ) → k < get_or C 2050 0 → (p : ℕ) → get_or C (1025 + k) 0 ≡ p + 1 → HandedOn c M F size n m j t p) where
    on : (p i : ℕ) → p < size → On c M size p i j → (next_kind c p ≡ 0 → ⊥) → HandedOn c M F size n m j t p
    on p i lp o z =
        let next = l.shape.nexts p lp z in
        let inner = l.shape.inner p next z in
        let live = subst (λ (y : ℕ). Wanted M y j) (sym (home-next c p inner)) o.live in
        elim (ℕ_discrete (next_kind c (p + 1)) 0) as (λ _. HandedOn c M F size n m j t p) [
          | yes e ↦ none-on c M F size n m j t p (omega (arith, rest_end c M F n t (p + 1) m j apart e))
          | no e ↦ (elim (dec_lt 1 (end_at M (rule_at c (p + 1)) j)) as (λ _. HandedOn c M F size n m j t p) [
            | yes w ↦ (let x = r.all p next e inner (λ _. omega arith) live in h x.0 x.1 p x.2)
            | no w ↦ ⊎_elim (λ b. none-on c M F size n m j t p (last_none F t (p + 1) b e (λ d. omega arith)))
                (λ b. let x = r.all p next e inner (λ b'. absurd (clash b b')) live in h x.0 x.1 p x.2) (look (is_last c (p + 1)))
          ])
        ]

    pub rows_on : (p : ℕ) → p < size → HandedOn c M F size n m j t p
    rows_on p lp = record {
      terminal = λ i o a k. (on p i lp o (λ z. omega arith)).terminal i o a k;
      split = λ i o a w k. (on p i lp o (λ z. omega arith)).split i o a w k;
    }

pub listing-kept : {c M F : List ℕ} {size n m j : ℕ} {t u C D : List ℕ} → Listing c M size n m j (length t) C → Spread c M F size n m j t C u D → Listing c M size n m j (length u) D
listing-kept {size = size} {n = n} l a = record {
  shape = l.shape;
  short = l.short;
  marks-long = l.marks-long;
  room = omega (arith, l.room, a.fell.long);
  wide = l.wide;
  stop = l.stop;
  column = a.long ∙ l.column;
  full = a.full l.full;
}
