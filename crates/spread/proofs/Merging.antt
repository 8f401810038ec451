-- The turn of a symbol: the cells of its rule are merged into its row, the starts are flagged, and how low the row is now is noted.
use mathlib.Core.List.{List}
use mathlib.Core.Path.{◌≡◌, refl, sym, ap, subst, ◌∙◌}
use Prim.Native.Nat.{ℕ, ◌+◌, ◌<◌, ◌≤◌, max, min}
use native.Mathlib.Decide.{ℕ_discrete, dec_lt}
use native.Mathlib.Omega.{arith}
use lib.ListN.{length, get_or, set, length-set}
use lib.Seq.{get_or-set_same, get_or-set_other, set-get_or}
use Rattle.chart.specs.Code.{next_kind, rule_at}
use Rattle.chart.specs.Heights.{cell_at, none}
use Rattle.heights.specs.Table.{cell_of, up_of}
use Rattle.heights.specs.Part.{by-split}
use Rattle.heights.proofs.Values.{up_is, up_none}
use Rattle.sparse.specs.Cells.{row_of, rule_of, rest_of}
use Rattle.sparse.specs.Steps.{OffersAt, HandedOn}
use Rattle.sparse.proofs.Rows.{last-stop, rule-cell, rest_end}
use Rattle.sparse.proofs.Falls.{fell-refl, fell-join, fell-widen, fell-set, lowered-cell, other-stretch}
use Rattle.sparse.proofs.Toward.{target-of, toward-row, fell-rest}
use Rattle.spread.specs.Spread.{level_at, low_from, Low, High, LowRun, Better, Touched, Merging, Merged, Spread, DotSpread}
use Rattle.spread.proofs.Handing.{low-kept}

-- a node has a height of at least 1
up-some : (a : ℕ) → 1 ≤ up_of a
up-some a = elim (dec_lt a none) as (λ _. 1 ≤ up_of a) [ yes k ↦ omega (arith, up_is a k) | no k ↦ omega (arith, up_none a (omega arith)) ]

module _ (c M F : List ℕ) (size n m j : ℕ) where
  -- nothing stands after an end, on a stretch that is not empty
  rest-no-end : (t : List ℕ) (p : ℕ) → m < j → rest_of c M F n t (p + 1) m j < none → next_kind c (p + 1) ≡ 0 → ⊥
  rest-no-end t p w s z = omega (arith, rest_end c M F n t (p + 1) m j (λ e. omega arith) z)

  -- the symbol of p
  module _ {t₀ : List ℕ} {p x y k h : ℕ} (a : Merging c M F size n m j t₀ p x y k h) where
    pub merged-none : Merged c M F size n m j t₀ p 0 t₀
    merged-none = record { fell = fell-refl c M F size n (j + 1); low = λ k l. absurd (omega arith); still = λ k l o y. refl; ahead = λ k l o y. refl }

    module _ {t : List ℕ} (i r : ℕ) (l : i < m) (b : Merged c M F size n m j t₀ p i t) where
      abbrev rule : ℕ
      rule = rule_at c p

      abbrev row : ℕ
      row = row_of c p

      rest-is : rest_of c M F n t (p + 1) m j ≡ rest_of c M F n t₀ (p + 1) m j
      rest-is = fell-rest b.fell (p + 1) m j (omega (arith, a.wide)) a.stop (λ w. omega (arith, w.0))

      source_is : cell_of n t rule i m ≡ cell_of n t₀ rule i m
      source_is = b.fell.same rule i m (omega arith) (omega (arith, a.wide, a.stop)) (λ w. omega (arith, w.1, a.wide))

      module _ (e : Better (cell_of n t rule i m) h (cell_of n t row i j) r) where
        value : r ≡ min (cell_of n t row i j) (max (up_of (cell_of n t rule i m)) (rest_of c M F n t (p + 1) m j))
        value = e.is (rest_of c M F n t (p + 1) m j) (omega (arith, a.less, rest-is)) (omega (arith, a.some, rest-is))

        rule-is : rule_of c M F n t rule i m ≡ cell_of n t rule i m
        rule-is = rule-cell c M F n t rule i m (λ z. omega arith) a.live

        offer : r < cell_of n t row i j → OffersAt c M F size n t p i j r
        offer d = by-split m a.kind (omega arith) (omega (arith, a.wide)) tt
            (let v : r ≡ max (up_of (cell_of n t rule i m)) (rest_of c M F n t (p + 1) m j) = omega (arith, value) in
            v ∙ ap (λ (z : ℕ). max (up_of z) (rest_of c M F n t (p + 1) m j)) (sym rule-is))

        kind : next_kind c p ≡ 0 → ⊥
        kind z = omega (arith, a.kind)

        low-at : (u : List ℕ) → cell_of n u row i j ≤ r → cell_of n u row i j ≤ max (up_of (cell_of n t₀ rule i m)) (rest_of c M F n t₀ (p + 1) m j)
        low-at u s =
            let v : max (up_of (cell_of n t rule i m)) (rest_of c M F n t (p + 1) m j) ≡ max (up_of (cell_of n t₀ rule i m)) (rest_of c M F n t₀ (p + 1) m j) =
            (λ ι. max (up_of (source_is ι)) (rest-is ι)) in
            omega (arith, value)

        module _ (d : r < cell_of n t row i j) where
          abbrev u : List ℕ
          u = set t (cell_at n row i j) r

          other : (z q : ℕ) → q ≤ j → (q ≡ i → ⊥) → cell_of n u z q j ≡ cell_of n t z q j
          other z q w o = other-stretch c M F size n a.shape t p row i j r a.inside kind (target-of c p) (omega (arith, a.wide)) a.stop (e.some d) d (offer d)
              z q j w a.stop (λ g. o g.0)

          turn : Merged c M F size n m j t₀ p (i + 1) u
          turn = record {
            fell = fell-join c M F size n (j + 1) b.fell (fell-widen c M F size n (j + 1) (λ k g w. (omega (arith, w.0), w.1))
                (fell-set c M F size n a.shape t p row i j r a.inside kind (target-of c p) (omega (arith, a.wide)) a.stop (e.some d) d (offer d)));
            low = λ q w. elim (ℕ_discrete q i) as (λ _. cell_of n u row q j ≤ max (up_of (cell_of n t₀ rule q m)) (rest_of c M F n t₀ (p + 1) m j)) [
              | yes z ↦ subst (λ (g : ℕ). cell_of n u row g j ≤ max (up_of (cell_of n t₀ rule g m)) (rest_of c M F n t₀ (p + 1) m j)) (sym z)
                  (low-at u (omega (arith, lowered-cell c M F size n a.shape t p row i j r a.inside kind (target-of c p) (omega (arith, a.wide)) a.stop (e.some d) d (offer d))))
              | no z ↦ omega (arith, other row q (omega (arith, a.wide)) z, b.low q (omega arith))
            ];
            still = λ q w s z. elim (ℕ_discrete q i) as (λ _. cell_of n u z q j ≡ cell_of n t₀ z q j) [
              | yes g ↦ absurd (omega (arith, e.idle (omega (arith, source_is, subst (λ (g : ℕ). none ≤ cell_of n t₀ rule g m) g s))))
              | no g ↦ other z q (omega (arith, a.wide)) g ∙ b.still q w s z
            ];
            ahead = λ q w w' z. other z q (omega (arith, a.wide)) (λ g. omega arith) ∙ b.ahead q (omega arith) w' z;
          }

        stays : r ≡ cell_of n t row i j → Merged c M F size n m j t₀ p (i + 1) t
        stays d = record {
          fell = b.fell;
          low = λ q w. elim (ℕ_discrete q i) as (λ _. cell_of n t row q j ≤ max (up_of (cell_of n t₀ rule q m)) (rest_of c M F n t₀ (p + 1) m j)) [
            | yes z ↦ subst (λ (g : ℕ). cell_of n t row g j ≤ max (up_of (cell_of n t₀ rule g m)) (rest_of c M F n t₀ (p + 1) m j)) (sym z) (low-at t (omega arith))
            | no z ↦ b.low q (omega arith)
          ];
          still = b.still;
          ahead = λ q w. b.ahead q (omega arith);
        }

        pub merged-set : Merged c M F size n m j t₀ p (i + 1) (set t (cell_at n row i j) r)
        merged-set = elim (dec_lt r (cell_of n t row i j)) as (λ _. Merged c M F size n m j t₀ p (i + 1) (set t (cell_at n row i j) r)) [
          | yes d ↦ turn d
          | no d ↦ (let z : r ≡ cell_of n t row i j = omega (arith, value) in rw (z, set-get_or t (cell_at n row i j) 0) (stays z))
        ]

    pub merged-next : {t : List ℕ} (i r : ℕ) → i < k → Merged c M F size n m j t₀ p i t → Better (get_or t (x + i) 0) h (get_or t (y + i) 0) r
        → Merged c M F size n m j t₀ p (i + 1) (set t (y + i) r)
    merged-next {t} i r l b e =
        let zx : x + i ≡ cell_at n (rule_at c p) i m = omega (arith, a.source) in
        let zy : y + i ≡ cell_at n (row_of c p) i j = omega (arith, a.row) in
        rw zy (merged-set i r (omega (arith, a.count)) b (subst (λ (z : ℕ). Better (cell_of n t (rule_at c p) i m) h (get_or t z 0) r) zy
        (subst (λ (z : ℕ). Better (get_or t z 0) h (get_or t (y + i) 0) r) zx e)))

    -- its starts are flagged, of those that may gain
    module _ {t C D : List ℕ} (small : m ≤ 200) (few : size ≤ 512) (g : High C (row_of c p) m h k) (noted : Low size n m j t₀ C) (inside : row_of c p < size)
        (b : Merged c M F size n m j t₀ p k t) (f : Touched t₀ x k C D) where
      above : (i : ℕ) → k ≤ i → i < m → cell_of n t₀ (row_of c p) i j ≤ h + 1
      above i l l' = let w = g.low i l l' in omega (arith, noted (row_of c p) i inside w.0 l', w.1)

      low-row : (i : ℕ) → i < m → cell_of n t (row_of c p) i j ≤ max (up_of (cell_of n t₀ (rule_at c p) i m)) (rest_of c M F n t₀ (p + 1) m j)
      low-row i l = elim (dec_lt i k) as (λ _. cell_of n t (row_of c p) i j ≤ max (up_of (cell_of n t₀ (rule_at c p) i m)) (rest_of c M F n t₀ (p + 1) m j)) [
        | yes o ↦ b.low i o
        | no o ↦ omega (arith, b.ahead i (omega arith) l (row_of c p), above i (omega arith) l, a.less, a.some, up-some (cell_of n t₀ (rule_at c p) i m))
      ]

      spread-kept : Spread c M F size n m j t₀ C t D
      spread-kept = record {
        fell = b.fell;
        long = f.long;
        before = f.before;
        still = λ i l z. elim (dec_lt i k) as (λ _. (get_or C (2563 + i) 0 ≡ 0) × ((y : ℕ) → cell_of n t y i j ≡ cell_of n t₀ y i j)) [
          | yes o ↦ (let w = f.at i o z in
              let zx : x + i ≡ cell_at n (rule_at c p) i m = omega (arith, a.source) in
              (w.0, b.still i l (subst (λ (z : ℕ). none ≤ get_or t₀ z 0) zx w.1)))
          | no o ↦ (sym (f.after (2563 + i) (omega arith) (omega arith)) ∙ z, b.ahead i (omega arith) l)
        ];
        low = low-kept c M F size n m j t₀ t C D b.fell.le (λ y l.
            (f.after (3276 + y) (omega (arith, a.count)) (omega arith), f.after (2764 + y) (omega (arith, a.count)) (omega arith)));
        full = λ _. f.full;
      }

      handed-on : HandedOn c M F size n m j t p
      handed-on = record {
        terminal = λ i o l k'. absurd (omega (arith, a.kind));
        split = λ i o l w k' d s.
            let rest = fell-rest b.fell (p + 1) m j (omega (arith, a.wide)) a.stop (λ w. omega (arith, w.0)) in
            let cell = b.fell.same (rule_at c p) i m (omega arith) (omega (arith, a.wide, a.stop)) (λ w. omega (arith, w.1, a.wide)) in
            let src = rule-cell c M F n t (rule_at c p) i m (λ z. omega arith) a.live ∙ cell in
            let v : max (up_of (rule_of c M F n t (rule_at c p) i m)) (rest_of c M F n t (p + 1) m j) ≡ max (up_of (cell_of n t₀ (rule_at c p) i m)) (rest_of c M F n t₀ (p + 1) m j) =
            (λ ι. max (up_of (src ι)) (rest ι)) in
            let no_last = last-stop c p k' (rest-no-end t₀ p a.wide a.some) in
            omega (arith, toward-row c M F size n t p i j o (omega arith) (λ z. omega arith) no_last, low-row i l, v);
      }

      -- and how low the row is now is noted
      module _ {from : ℕ} (long : length D ≡ 3789) (e : LowRun t y k h from) where
        abbrev E : List ℕ
        E = set (set D (3276 + row_of c p) from) (2764 + row_of c p) h

        aside : (z : ℕ) → (z ≡ 2764 + row_of c p → ⊥) → (z ≡ 3276 + row_of c p → ⊥) → get_or E z 0 ≡ get_or D z 0
        aside z o o' = get_or-set_other (set D (3276 + row_of c p) from) (2764 + row_of c p) z h 0 o ∙ get_or-set_other D (3276 + row_of c p) z from 0 o'

        level-is : level_at E (row_of c p) ≡ h
        level-is = get_or-set_same (set D (3276 + row_of c p) from) (2764 + row_of c p) h 0 (omega (arith, length-set D (3276 + row_of c p) from))

        from_is : low_from E (row_of c p) ≡ from
        from_is = get_or-set_other (set D (3276 + row_of c p) from) (2764 + row_of c p) (3276 + row_of c p) h 0 (λ z. omega arith)
            ∙ get_or-set_same D (3276 + row_of c p) from 0 (omega arith)

        own : (i : ℕ) → from ≤ i → i < m → cell_of n t (row_of c p) i j ≤ h + 1
        own i l l' = elim (dec_lt i k) as (λ _. cell_of n t (row_of c p) i j ≤ h + 1) [
          | yes o ↦ (let zy : y + i ≡ cell_at n (row_of c p) i j = omega (arith, a.row) in
              subst (λ (z : ℕ). get_or t z 0 ≤ h + 1) zy (e.low i l o))
          | no o ↦ omega (arith, b.ahead i (omega arith) l' (row_of c p), above i (omega arith) l')
        ]

        pub symbol_end : DotSpread c M F size n m j t₀ C t E p
        symbol_end = record {
          spread = record {
            fell = b.fell;
            long = length-set (set D (3276 + row_of c p) from) (2764 + row_of c p) h ∙ length-set D (3276 + row_of c p) from ∙ f.long;
            before = λ z l. aside z (λ o. omega arith) (λ o. omega arith) ∙ f.before z l;
            full = λ _ i w h z. f.full i w (omega (arith, aside 3788 (λ o. omega arith) (λ o. omega arith))) (sym (aside (2563 + i) (λ o. omega arith) (λ o. omega arith)) ∙ z);
            still = λ i l z. spread-kept.still i l (sym (aside (2563 + i) (λ o. omega arith) (λ o. omega arith)) ∙ z);
            low = λ w q i l l' l''. elim (ℕ_discrete q (row_of c p)) as (λ _. cell_of n t q i j ≤ level_at E q + 1) [
              | yes o ↦ subst (λ (z : ℕ). cell_of n t z i j ≤ level_at E z + 1) (sym o)
                  (omega (arith, level-is, own i (omega (arith, from_is, ap (low_from E) o)) l''))
              | no o ↦ (let u = aside (2764 + q) (λ z. o (omega arith)) (λ z. omega arith) in
                  let v = aside (3276 + q) (λ z. omega arith) (λ z. o (omega arith)) in
                  omega (arith, u, spread-kept.low w q i l (omega (arith, v)) l''))
            ];
          };
          on = handed-on;
        }
