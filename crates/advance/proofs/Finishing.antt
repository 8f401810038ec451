-- The table in the beginning, when a round adds nothing, and at the end.
use mathlib.Core.Bool.{true, false}
use mathlib.Core.Path.{◌≡◌, refl, sym, ap, subst, ◌∙◌}
use mathlib.Core.List.{List, [], ◌∷◌, Memᴰ as In}
use Prim.Native.Nat.{ℕ, suc, ◌+◌, ◌*◌, ◌<◌, ◌≤◌}
use native.Mathlib.Decide.{dec_lt, ℕ_discrete}
use native.Mathlib.Omega.{arith}
use lib.ListN.{length}
use Rattle.text.specs.Lists.{Text}
use Rattle.tree.specs.Tree.{Symbol, Grammar}
use Rattle.plain.specs.Plain.{ruled}
use Rattle.layout.specs.Layout.{layout, name_at}
use Rattle.derive.specs.Derive.{Row, Derives}
use Rattle.derive.proofs.Levels.{Low}
use Rattle.derive.proofs.Symbols.{in-inside}
use Rattle.chart.specs.Code.{next_kind, after_dot, head_of, Coded}
use Rattle.chart.specs.Heights.{stretches, cell_at, none, Clear}
use Rattle.heights.specs.Table.{cell_of, Shape, Place}
use Rattle.heights.specs.Filling.{Gives, by-terminal, by-split, by-owned, Closed}
use Rattle.heights.proofs.Cells.{in-room}
use Rattle.heights.proofs.Values.{value_cell}
use Rattle.heights.proofs.Exact.{shape, RuleLow, gives-sound}
use Rattle.sweeps.specs.Layers.{Offer, Adds, added, same, Swept}
use Rattle.sweeps.proofs.Rounds.{low, low-symbol, offered, offered-rule}
use Rattle.sweeps.proofs.Ending.{clear-upto, closed_at}
use Rattle.fixpoint.specs.Fixed.{Fixpoint}
use Rattle.rounds.specs.Rounds.{most_rounds, AllStand}
use Rattle.rounds.specs.After.{rule_symbol, Within, Entered, TableSays, After, Idle}
use Rattle.rounds.proofs.Bound.{enough, enough-rule}
use Rattle.rounds.proofs.Says.{after-says}
use Rattle.advance.specs.Numbered.{Numbered}
use Rattle.advance.proofs.Layered.{row-tree, Layered, given-named, layered-next}

module _ (c f : List ℕ) (g : Grammar) (r : Text) (size top first : ℕ) (k : Coded c f g r size top first) (m : Numbered c g k.dots k.heads size) where
  abbrev n : ℕ
  n = length r

  sh : Shape c size n (size * stretches n)
  sh = shape c f g r size top first k (size * stretches n) (omega arith)

  abbrev Layer : ℕ → List ℕ → Type 0
  Layer h t = Layered c f g r size top first k m h t

  -- a clear table
  pub layered-start : {t : List ℕ} → Clear (size * stretches n) t → Layer 0 t
  layered-start z = record {
    sound = λ p i j w l. absurd (omega (arith, z (cell_at n p i j) (in-room (record { few = k.small; short = k.short; room = omega arith }) w)));
    upto = clear-upto c f size n (size * stretches n) sh z;
    ends = λ p i j w _ l. absurd (omega (arith, z (cell_at n p i j) (in-room (record { few = k.small; short = k.short; room = omega arith }) w)));
  }

  -- a round that adds no rule: nothing is given any more, so the table is that after any number of rounds
  gives-closed : {u : List ℕ} (p i j v : ℕ) → Closed c f size n u i j → Place size n p i j → Gives c f size n u p i j v → v < none → cell_of n u p i j ≤ v
  gives-closed p i j v o w (by-terminal z a b e) l = omega (arith, o.terminal p w.inside z a b (omega arith))
  gives-closed p i j v o w (by-split x z a b e) l = omega (arith, o.split p x w.inside z a b (omega arith))
  gives-closed p i j v o w (by-owned q hq z e) l = omega (arith, o.owner q p hq z)

  pub layered-idle : {h : ℕ} {t u : List ℕ} → Layer h t → Swept c f size n h t false u → (b : ℕ) → h + 1 ≤ b → b ≤ none → Layer b u
  layered-idle {h} {t} {u} a s b l few = by s.adds
    where
      next : Layer (h + 1) u
      next = layered-next c f g r size top first k m a s

      by : Adds c size n t u false → Layer b u
      by (same kept) = record {
        sound = next.sound;
        upto = record {
          most = next.upto.most;
          low = λ p i j w x. omega (arith, next.upto.low p i j w x);
          closed = λ p i j v w d x. gives-closed p i j v (closed_at c f size n (size * stretches n) sh h a.upto s.upto kept i j w.order w.stop) w d (omega arith);
        };
        ends = next.ends;
      }

  -- whether a round adds a rule
  within-up : {h q i j : ℕ} {t u : List ℕ} → h + 1 ≤ none → After g r h t → After g r (h + 1) u → q < length (layout g) → i ≤ j → j ≤ n
      → (cell_of n u (name_at g q) i j < none → cell_of n t (name_at g q) i j < none) → Within g r (suc h) (rule_symbol g q) i j → Within g r h (rule_symbol g q) i j
  within-up {h} {q} {i} {j} few a b hq hi hj kept w =
      let x : Within g r (h + 1) (rule_symbol g q) i j = record { tree = w.tree; derives = w.derives; low = omega (arith, w.low) } in
      (after-says (omega arith) a q i j hq hi hj).0 (kept ((after-says few b q i j hq hi hj).1 x))

  pub idle-when : {h : ℕ} {t u : List ℕ} → h + 1 ≤ none → After g r h t → After g r (h + 1) u → Adds c size n t u false → Idle g r h
  idle-when few a b (same kept) q i j hq hi hj w =
      let o = m.named q hq in
      let e = kept (name_at g q) i j (record { inside = omega (arith, o.inside, k.count); order = hi; stop = hj }) o.ends in
      within-up few a b hq hi hj (λ l. omega arith) w

  pub busy-when : {h : ℕ} {t u : List ℕ} → h + 1 ≤ none → After g r h t → After g r (h + 1) u → Layer (h + 1) u → Adds c size n t u true → Idle g r h → ⊥
  busy-when {h} {t} {u} few a b lay (added e i j w z old new) idle =
      let o = lay.ends e i j w z new in
      let y = m.owner o.0 e o.1 o.2 in
      let x : cell_of n u (name_at g y.0) i j < none = subst (λ (x : ℕ). cell_of n u x i j < none) y.2 new in
      let x' = (after-says few b y.0 i j y.1 w.order w.stop).0 x in
      let v = idle y.0 i j y.1 w.order w.stop (record { tree = x'.tree; derives = x'.derives; low = omega (arith, x'.low) }) in
      let l = (after-says (omega arith) a y.0 i j y.1 w.order w.stop).1 v in
      let l' : cell_of n t e i j < none = subst (λ (x : ℕ). cell_of n t x i j < none) (sym y.2) l in
      omega arith

  -- at the bound every height is there
  module _ (all : AllStand g (ruled g)) (listed : (q : ℕ) → q < length (layout g) → In (rule_symbol g q) (ruled g)) where
    abbrev bound : ℕ
    bound = suc (most_rounds g r)

    module _ {t : List ℕ} (few : bound < none) (a : Layer bound t) where
      -- what has a row has a low one
      dot-there : (p i j v : ℕ) → Place size n p i j → (next_kind c p ≡ 0 → ⊥) → Low g r v (after_dot k.dots p) i j → cell_of n t p i j < none
      dot-there p i j v w z d =
          let u = enough g r all (in-inside g (after_dot k.dots p) (m.within p w.inside)) w.stop d.derives in
          omega (arith, value_cell c t n p i j z, low c f g r size top first k bound t a.upto u.derives (omega (arith, u.low)) p w.inside refl w.stop, u.low)

      rule-there : (q i j : ℕ) {d : Row} → q < length (layout g) → j ≤ n → Derives g r d (rule_symbol g q ∷ []) i j → cell_of n t (name_at g q) i j < most_rounds g r
      rule-there q i j hq hj d =
          let o = m.named q hq in
          let u = enough-rule g r all (rule_symbol g q) (listed q hq) hj d in
          omega (arith, low-symbol c f g r size top first k bound t a.upto (name_at g q) o.first (rule_symbol g q) o.chain u.derives hj (omega (arith, u.low)), u.low)

      given-there : (p i j v : ℕ) → Place size n p i j → Gives c f size n t p i j v → v < none → cell_of n t p i j < none
      given-there p i j v w d l =
          let s = gives-sound c f g r size top first k t a.sound p i j v w d l in
          elim (ℕ_discrete (next_kind c p) 0) as (λ _. cell_of n t p i j < none) [
            | no z ↦ dot-there p i j v w z (s.dot z)
            | yes z ↦ (let x = given-named c f g r size top first k m z d in
                let y = m.owner x.0 p x.1 x.2 in
                let o = m.named y.0 y.1 in
                let u = row-tree (subst (λ (s : Symbol). RuleLow g r v s i j) (ap (head_of g k.heads) y.2 ∙ o.head) (s.rule z)) in
                let b = rule-there y.0 i j y.1 w.stop u.derives in
                subst (λ (x : ℕ). cell_of n t x i j < none) (sym y.2) (omega arith))
          ]

      fixed-least : (p i j v : ℕ) → Place size n p i j → Gives c f size n t p i j v → v < none → cell_of n t p i j ≤ v
      fixed-least p i j v w d l = elim (dec_lt v bound) as (λ _. cell_of n t p i j ≤ v) [
        | yes b ↦ a.upto.closed p i j v w d b
        | no b ↦ omega (arith, a.upto.low p i j w (given-there p i j v w d l))
      ]

      -- a height is given
      fixed-given : (p i j : ℕ) → Place size n p i j → cell_of n t p i j < none → Gives c f size n t p i j (cell_of n t p i j)
      fixed-given p i j w l = elim (ℕ_discrete (next_kind c p) 0) as (λ _. Gives c f size n t p i j (cell_of n t p i j)) [
        | no z ↦ (let u = (a.sound p i j w l).dot z in exact (offered c f g r size top first k bound t a.upto u.derives (omega (arith, u.low, small)) p w.inside z refl w.stop) u.low)
        | yes z ↦ (let u = (a.sound p i j w l).rule z in
            let x = a.ends p i j w z l in
            let own = k.owned x.0 p x.1 x.2 in
            exact (offered-rule c f g r size top first k bound t a.upto p own.first (head_of g k.heads p) own.chain u.low.row u.number i j u.exists u.low.derives w.stop
            (omega (arith, u.low.low, small))) u.low.low)
      ]
        where
          small : cell_of n t p i j < bound
          small = a.upto.low p i j w l

          exact : {b : ℕ} → Offer c f size n b t p i j → b ≤ cell_of n t p i j → Gives c f size n t p i j (cell_of n t p i j)
          exact o b = subst (Gives c f size n t p i j) (omega (arith, o.low, fixed-least p i j o.value w o.gives (omega (arith, o.low)))) o.gives

      pub full-fixed : Fixpoint c f size n t
      full-fixed p i j w = record {
        most = a.upto.most p i j w;
        small = λ l. omega (arith, a.upto.low p i j w l);
        given = fixed-given p i j w;
        least = λ v d l. fixed-least p i j v w d l;
      }

      -- and says of every nonterminal whether it is derived at all
      pub full-says : TableSays g r (most_rounds g r) t
      full-says q i j hq hi hj = (λ l. has l, λ w. omega (arith, rule-there q i j hq hj w.derives))
        where
          has : Entered g r t q i j → Within g r (most_rounds g r) (rule_symbol g q) i j
          has l =
              let o = m.named q hq in
              let w : Place size n (name_at g q) i j = record { inside = omega (arith, o.inside, k.count); order = hi; stop = hj } in
              let u = row-tree (subst (λ (s : Symbol). RuleLow g r (cell_of n t (name_at g q) i j) s i j) o.head ((a.sound (name_at g q) i j w l).rule o.ends)) in
              let v = enough-rule g r all (rule_symbol g q) (listed q hq) hj u.derives in
              record { tree = v.row; derives = v.derives; low = v.low }
