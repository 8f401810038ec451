-- At a symbol: the end place that is found is the chosen one, and the rest of the row is put off.
use mathlib.Core.Path.{◌≡◌, subst}
use mathlib.Core.Logic.{◌⊎◌, inl, inr, ◌↔◌}
use mathlib.Core.Bool.{Bool}
use mathlib.Core.List.{List, ◌∷◌, ◌++◌, append_assoc}
use Prim.Native.Nat.{ℕ, suc, ◌+◌, ◌*◌, ◌<◌, ◌≤◌}
use native.Mathlib.Decide.{dec_lt}
use native.Mathlib.Omega.{arith}
use lib.Dec.{T}
use lib.ListN.{length, take}
use Rattle.text.specs.Lists.{Text}
use Rattle.tree.specs.Tree.{Symbol, Grammar}
use Rattle.derive.specs.Derive.{Row, node, alternative, left_parse}
use Rattle.derive.proofs.Rows.{forward}
use Rattle.derive.proofs.Heights.{way-row, row-way}
use Rattle.derive.proofs.Chosen.{chosen-derives}
use Rattle.derive.proofs.Picks.{PickedRow}
use Rattle.derive.proofs.Twice.{Twice, tw-place, tw-number, tw-inside, tw-later, OtherNumber, OtherPlace}
use Rattle.derive.proofs.Parts.{node_row, NodeRow}
use Rattle.chart.specs.Code.{next_kind, goes_at, rule_at, after_dot}
use Rattle.chart.specs.Heights.{none}
use Rattle.chart.proofs.Says.{says-low, low-says, says_some, some-says, rule-least, least-rule}
use Rattle.sparse.specs.Cells.{rule_of, rest_of}
use Rattle.reading.specs.declared.Cursor.{Cursor}
use Rattle.splits.specs.Splits.{split_at}
use Rattle.candidates.specs.Candidates.{Tells, LowEnd, SomeEnd, FirstEnd, OtherEnd}
use Rattle.reading.specs.Walk.{pushed, descended, CanDescend}
use Rattle.reading.specs.Answer.{Finished}
use Rattle.reading.proofs.Tables.{Known, Placed, SymbolAt, symbol-at, Halves, halves_of, halves-at}
use Rattle.splits.proofs.Values.{joined-some, both, split-most, rest-most}
use Rattle.reading.proofs.PendingRows.{marked, unmarked, tells-by, Pending, parses, AnyTwice, push-pending, pushed-length}
use Rattle.reading.proofs.Walks.{Ambiguous, Going, Before, some-low}

-- a node has another place, another alternative, or another way inside or later
module _ (g : Grammar) (r : Text) where
  abbrev Parts : ℕ → ℕ → Row → Row → Symbol → List Symbol → ℕ → ℕ → Type 0
  Parts a m c u s ss i j = OtherPlace g r s ss i j m ⊎ (OtherNumber g r s i m a ⊎ (Twice g r c (alternative g s a) i m ⊎ Twice g r u ss m j))

  pub twice-parts : {a m i j : ℕ} {c u : Row} {s : Symbol} {ss : List Symbol} → Twice g r (node a m c u) (s ∷ ss) i j → Parts a m c u s ss i j
  twice-parts (tw-place w) = inl w
  twice-parts (tw-number w) = inr (inl w)
  twice-parts (tw-inside w) = inr (inr (inl w))
  twice-parts (tw-later w) = inr (inr (inr w))

  pub parts_twice : {a m i j : ℕ} {c u : Row} {s : Symbol} {ss : List Symbol} → Parts a m c u s ss i j → Twice g r (node a m c u) (s ∷ ss) i j
  parts_twice (inl w) = tw-place w
  parts_twice (inr (inl w)) = tw-number w
  parts_twice (inr (inr (inl w))) = tw-inside w
  parts_twice (inr (inr (inr w))) = tw-later w

module _ {A B C D : Type 0} where
  regroup : {E : Type 0} → (A ⊎ (B ⊎ (C ⊎ D))) ⊎ E → A ⊎ (B ⊎ (C ⊎ (D ⊎ E)))
  regroup (inl (inl x)) = inl x
  regroup (inl (inr (inl x))) = inr (inl x)
  regroup (inl (inr (inr (inl x)))) = inr (inr (inl x))
  regroup (inl (inr (inr (inr x)))) = inr (inr (inr (inl x)))
  regroup (inr x) = inr (inr (inr (inr x)))

  ungroup : {E : Type 0} → A ⊎ (B ⊎ (C ⊎ (D ⊎ E))) → (A ⊎ (B ⊎ (C ⊎ D))) ⊎ E
  ungroup (inl x) = inl (inl x)
  ungroup (inr (inl x)) = inl (inr (inl x))
  ungroup (inr (inr (inl x))) = inl (inr (inr (inl x)))
  ungroup (inr (inr (inr (inl x)))) = inl (inr (inr (inr x)))
  ungroup (inr (inr (inr (inr x)))) = inr x

  first_of : {X E : Type 0} → (X → A ⊎ (B ⊎ (C ⊎ D))) → X ⊎ E → (A ⊎ (B ⊎ (C ⊎ D))) ⊎ E
  first_of f (inl x) = inl (f x)
  first_of f (inr x) = inr x

  first-from : {X E : Type 0} → (A ⊎ (B ⊎ (C ⊎ D)) → X) → (A ⊎ (B ⊎ (C ⊎ D))) ⊎ E → X ⊎ E
  first-from f (inl x) = inl (f x)
  first-from f (inr x) = inr x

-- beside what is there already
later : {A B C : Type 0} → (B → C) → A ⊎ B → A ⊎ C
later f (inl x) = inl x
later f (inr x) = inr (f x)

below-most : {x : ℕ} → x ≤ none → (x ≡ none → ⊥) → x < none
below-most {x} l f = elim (dec_lt x none) as (λ _. x < none) [ yes k ↦ k | no k ↦ absurd (f (omega arith)) ]

module _ {c M F H : List ℕ} {size n top first : ℕ} (K : Known c M F H size n top first) where
  abbrev t : Finished c M F H size n top first
  t = K.of

  module _ {p i j : ℕ} (S : SymbolAt K p) (B : Placed K p i j) where
    abbrev later-symbols : List Symbol
    later-symbols = after_dot t.code.dots (p + 1)

    -- the symbol with its row
    module _ {k : ℕ} {row : Row} (small : k < none) (N : NodeRow t.g t.r k S.s later-symbols i j row) where
      node-before : i ≤ N.place
      node-before = forward t.g t.r (chosen-derives t.g t.r N.inside)

      pub node-after : N.place ≤ j
      node-after = forward t.g t.r (chosen-derives t.g t.r N.picked.chosen)

      pub node-halves : Halves K p i j N.place S.s
      node-halves = halves_of K B S node-before node-after N.choice.lowest.derives (chosen-derives t.g t.r N.picked.chosen)

      own-end : LowEnd c M F size n H p i j k N.place
      own-end =
          let y = way-row t.g t.r N.picked.way in
          let P = node-halves in
          omega (
            arith,
            least-rule t.g t.r P.one N.choice.lowest,
            low-says t.g t.r P.others y.derives,
            joined-some (rule_of c M F n H (rule_at c p) i N.place) (rest_of c M F n H (p + 1) N.place j) (omega (arith, P.cut)),
            N.low,
            y.high,
            N.picked.low,
          )

      end-late : (m : ℕ) → i ≤ m → m ≤ j → LowEnd c M F size n H p i j k m → N.place ≤ m
      end-late m a b w =
          let P = halves-at K B S a b (omega arith) in
          let x = both (rule_of c M F n H (rule_at c p) i m) (rest_of c M F n H (p + 1) m j) (omega arith) in
          let u = rule-least t.g t.r P.one (λ e. omega (arith, x.one)) in
          let v = says-low t.g t.r k P.others (omega (arith, x.is)) small in
          let y = row-way t.g t.r v.derives in
          N.smallest m (suc (rule_of c M F n H (rule_at c p) i m)) y.k (Rattle.derive.specs.Chosen.ends v.row) u (omega (arith, x.is)) y.way (omega (arith, y.below, v.low))

      pub end_same : (m : ℕ) → FirstEnd c M F size n H p i j k m → m ≡ N.place
      end_same m w = elim (dec_lt N.place m) as (λ _. m ≡ N.place) [
        | yes q ↦ absurd (w.first N.place node-before q own-end)
        | no q ↦ omega (arith, end-late m w.after w.before w.low)
      ]

      pub some_end : SomeEnd c M F size n H p i j k
      some_end = record { place = N.place; after = node-before; before = node-after; low = own-end; height = small }

    -- other end places, in the tables and in derivations
    other_place : {m : ℕ} → OtherEnd c M F size n H p i j m → OtherPlace t.g t.r S.s later-symbols i j m
    other_place o =
        let z : split_at c M F n H p i j o.place ≡ none → ⊥ = o.too.derives in
        let l : split_at c M F n H p i j o.place < none = below-most (split-most c M F n H K.small p i j o.place) z in
        let P = halves-at K B S o.after o.before l in
        let x = both (rule_of c M F n H (rule_at c p) i o.place) (rest_of c M F n H (p + 1) o.place j) l in
        let u = rule-least t.g t.r P.one (λ e. omega (arith, x.one)) in
        let v = says_some t.g t.r P.others (λ e. omega (arith, x.others)) in
        record { place = o.place; other = o.too.other; tree = u.tree; row = v.row; one = u.derives; others = v.derives }

    other-end : {m : ℕ} → OtherPlace t.g t.r S.s later-symbols i j m → OtherEnd c M F size n H p i j m
    other-end o =
        let a = forward t.g t.r o.one in
        let b = forward t.g t.r o.others in
        let P = halves_of K B S a b o.one o.others in
        let l = below-most (rest-most c M F n H K.small (p + 1) o.place j) (some-says t.g t.r P.others o.others) in
        let e = joined-some (rule_of c M F n H (rule_at c p) i o.place) (rest_of c M F n H (p + 1) o.place j) (omega (arith, P.cut)) in
        record { place = o.place; after = a; before = b; too = record { other = o.other; derives = λ z. omega (arith, P.cut) } }

  -- the symbol at the walk's place, and its node
  pub symbol-of : {out st : List ℕ} {h : Cursor} {w : Row} → Going K out st h w → next_kind c h.p ≡ 2 → SymbolAt K h.p
  symbol-of {h = h} G x = symbol-at K h.p G.placed.inside x

  pub node_of : {out st : List ℕ} {h : Cursor} {w : Row} (G : Going K out st h w) (S : SymbolAt K h.p)
      → NodeRow t.g t.r h.k S.s (after_dot t.code.dots (h.p + 1)) h.i.0 h.j.0 G.row
  node_of {h = h} G S = node_row t.g t.r S.rule.other (subst (λ (ss : List Symbol). PickedRow t.g t.r h.k ss h.i.0 h.j.0 G.row) S.is G.picked)

  pub can-descend : {out st : List ℕ} {h : Cursor} {w : Row} → Going K out st h w → next_kind c h.p ≡ 2 → CanDescend c M F size n H h
  can-descend {h = h} G x =
      let S = symbol-of G x in
      record {
        ends = some_end S G.placed G.small (node_of G S);
        lows = λ m a b l.
            let P = halves-at K G.placed S a b (omega (arith, G.small)) in
            some-low K S.rule P.started a (λ e. omega (arith, P.cut));
      }

  row_list : (xs ys : List ℕ) (a m : ℕ) (c' u row w : Row) → row ≡ node a m c' u → xs ++ (left_parse row ++ ys) ≡ left_parse w → xs
      ++ (a ∷ (left_parse c' ++ (left_parse u ++ ys))) ≡ left_parse w
  row_list xs ys a m c' u row w e f = rw (← append_assoc (left_parse c') (left_parse u) ys) (subst (λ (z : Row). xs ++ (left_parse z ++ ys) ≡ left_parse w) e f)

  pub descend-before : {out st : List ℕ} {h : Cursor} {w : Row} → Going K out st h w → next_kind c h.p ≡ 2
      → (m : ℕ) (b : Bool) → FirstEnd c M F size n H h.p h.i.0 h.j.0 h.k m
      → Tells b (OtherEnd c M F size n H h.p h.i.0 h.j.0 m)
      → Before K (rule_at c h.p) (goes_at c h.p) out (pushed st h.depth (h.p + 1) h.j.0 h.k) (descended h m b) w
  descend-before {out} {st} {h} {w} G x m b f o =
      let S = symbol-of G x in
      let N = node_of G S in
      let e = end_same S G.placed G.small N m f in
      let ss = after_dot t.code.dots (h.p + 1) in
      let P = node-halves S G.placed G.small N in
      let o' = subst (λ (z : ℕ). Tells b (OtherEnd c M F size n H h.p h.i.0 h.j.0 z)) e o in
      let told = tells-by o' (other_place S G.placed) (other-end S G.placed) in
      let row_is = N.is in
      let before = subst (λ (ss : List Symbol). Ambiguous K w ↔ (T h.mark ⊎ (Twice t.g t.r G.row ss h.i.0 h.j.0 ⊎ AnyTwice K G.pending))) S.is G.marks in
      let before' = subst (λ (z : Row). Ambiguous K w ↔ (T h.mark ⊎ (Twice t.g t.r z (S.s ∷ ss) h.i.0 h.j.0 ⊎ AnyTwice K G.pending))) row_is before in
      let waiting : Pending K = record { place = h.p + 1; from = N.place; to = h.j.0; bound = h.k; row = N.others; placed = P.placed; small = G.small; picked = N.picked } in
      let room : 3 * h.depth + 2 < length st = omega (arith, G.written, G.most, G.stack) in
      rw e (record {
        s = S.s;
        sized = G.sized;
        ended = G.ended;
        rule = S.rule;
        started = P.started;
        number = N.number;
        children = N.children;
        choice = N.choice;
        inside = N.inside;
        pending = waiting ∷ G.pending;
        stacked = push-pending K waiting room G.stacked;
        list = row_list (take h.at out) (parses K G.pending) N.number N.place N.children N.others G.row w row_is G.list;
        marks = (
          marked h.mark b told (λ a. later (λ z. regroup (first_of (twice-parts t.g t.r) z)) (before'.0 a)),
          unmarked h.mark b told (λ a. before'.1 (later (λ z. first-from (parts_twice t.g t.r) (ungroup z)) a)),
        );
        written = omega (arith, G.written);
        most = G.most;
        room = G.room;
        stack = omega (arith, pushed-length st h.depth (h.p + 1) h.j.0 h.k room, G.stack);
      })
