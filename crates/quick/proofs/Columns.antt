-- Columns: what is kept while stretches that are no part of one change, and stretches that have no heights.
use mathlib.Core.Bool.{true, false}
use mathlib.Core.List.{List}
use mathlib.Core.Path.{◌≡◌, refl, sym, ap, subst, ◌∙◌}
use Prim.Native.Nat.{ℕ, ◌+◌, ◌*◌, ◌-◌, ◌<◌, ◌≤◌, max}
use native.Mathlib.Decide.{ℕ_discrete, dec_lt}
use native.Mathlib.Omega.{arith}
use lib.Dec.{eqb}
use lib.ListN.{length, get_or, set, length-set}
use lib.Seq.{get_or-set_same, get_or-set_other}
use borrow.Author.Tests.{eq-eqb}
use Rattle.text.specs.Limits.{most_size, record_chars}
use Rattle.text.specs.Lists.{Text}
use Rattle.text.proofs.Tests.{clash}
use Rattle.tree.specs.Tree.{Grammar}
use Rattle.derive.proofs.Levels.{Low}
use Rattle.chart.specs.Code.{next_kind, goes_at, rule_at, owner_at, after_dot, head_of, Ruled}
use Rattle.chart.proofs.Fills.{Fills}
use Rattle.chart.specs.Heights.{stretches, cell_at, none}
use Rattle.heights.specs.Table.{cell_of, up_of}
use Rattle.heights.specs.Filling.{Only}
use Rattle.heights.specs.Part.{Offers, by_end, by-terminal, by-split}
use Rattle.heights.proofs.Cells.{cell-inj}
use Rattle.heights.proofs.Part.{Attained, RuleLow, toward-rest, toward-rule}
use Rattle.heights.proofs.Values.{up_none}
use Rattle.reach.specs.Flags.{Reached, Fits, Wanted, home_of}
use Rattle.sparse.specs.Cells.{is_last, rule_of, rest_of, Shape, Tables}
use Rattle.sparse.specs.Steps.{Flagged, toward_of, Sound, LeastOn, Empties, Fell, HandedOn, Given, Listed}
use Rattle.sparse.proofs.Rows.{in_table}
use Rattle.sparse.proofs.Falls.{rule-same, rest-same, RestBy, by_last, by_row, rule-by, rest-by, fell-widen}
use Rattle.spread.specs.Spread.{AllSpread}
use Rattle.sparse.specs.Column.{Rows}
use Rattle.sparse.proofs.Column.{rows-kept}
use Rattle.spread.proofs.Handing.{on-kept, low-kept}
use Rattle.quick.specs.Quick.{Row, of-rule, of-dot, Emptied, Untouched, Unnoted, AfterDots, ListedTo, ClearedTo, DotCleared, Bare, Before, From, Filled}

-- a stretch keeps what it has where the cells of its parts stay
module _ (c M F : List ℕ) (size n : ℕ) (t u : List ℕ) where
  abbrev pub Parts : ℕ → ℕ → Type 0
  Parts i j = (y k l : ℕ) → i ≤ k → k ≤ l → l ≤ j → cell_of n u y k l ≡ cell_of n t y k l

  module _ (i j : ℕ) (order : i ≤ j) (s : Parts i j) where
    rule-is : (e k l : ℕ) → i ≤ k → k ≤ l → l ≤ j → rule_of c M F n u e k l ≡ rule_of c M F n t e k l
    rule-is e k l a b d = rule-same c M F n t u e k l (s e k l a b d)

    rest-is : (p k l : ℕ) → i ≤ k → k ≤ l → l ≤ j → rest_of c M F n u p k l ≡ rest_of c M F n t p k l
    rest-is p k l a b d = rest-same c M F n t u p k l (λ _. s p k l a b d) (λ _. s (rule_at c p) k l a b d)

    toward-is : (p : ℕ) → toward_of c M F n u p i j ≡ toward_of c M F n t p i j
    toward-is p = elim (ℕ_discrete (owner_at c p) 0) as (λ _. toward_of c M F n u p i j ≡ toward_of c M F n t p i j) [
      | yes z ↦ toward-rest c (rule_of c M F n u) (rest_of c M F n u) p i j z ∙ rest-is p i j (omega arith) order (omega arith)
          ∙ sym (toward-rest c (rule_of c M F n t) (rest_of c M F n t) p i j z)
      | no z ↦ (let o : owner_at c p ≡ (owner_at c p - 1) + 1 = omega arith in
          toward-rule c (rule_of c M F n u) (rest_of c M F n u) p (owner_at c p - 1) i j o ∙ rule-is (owner_at c p - 1) i j (omega arith) order (omega arith)
          ∙ sym (toward-rule c (rule_of c M F n t) (rest_of c M F n t) p (owner_at c p - 1) i j o))
    ]

    abbrev OffersIn : List ℕ → ℕ → ℕ → Type 0
    OffersIn w p v = Offers c size (home_of c) (Fits M) (Reached M) (Wanted M) (rule_of c M F n w) (rest_of c M F n w) p i j v

    offers-is : (p v : ℕ) → OffersIn u p v → OffersIn t p v
    offers-is p v (by_end z e o) = by_end z e o
    offers-is p v (by-terminal z f l o) = by-terminal z f l (o ∙ rest-is (p + 1) (i + goes_at c p) j (omega arith) l (omega arith))
    offers-is p v (by-split m z a b w o) = by-split m z a b w (o ∙ (λ ι. max (up_of (rule-is (rule_at c p) i m (omega arith) a b ι)) (rest-is (p + 1) m j a b (omega arith) ι)))

    pub least_kept : LeastOn c M F size n t i j → LeastOn c M F size n u i j
    least_kept h p v lp a w o l = omega (arith, toward-is p, h p v lp a w (offers-is p v o) l)

  -- what is attained on a stretch goes by its own cells
  module _ (g : Grammar) (r : Text) {top first : ℕ} (k : Ruled (Flagged M r) c g size top first) (i j : ℕ) (s : (y : ℕ) → cell_of n u y i j ≡ cell_of n t y i j) where
    pub attained-kept : Attained k r (home_of c) (Fits M) (Reached M) (Wanted M) (rule_of c M F n t) (rest_of c M F n t) i j
        → Attained k r (home_of c) (Fits M) (Reached M) (Wanted M) (rule_of c M F n u) (rest_of c M F n u) i j
    attained-kept x = record {
      rules = λ q e h w y. let z = rule-same c M F n t u e i j (s e) in
          subst (λ (v : ℕ). RuleLow g r v (head_of g k.heads e) i j) (sym z) (x.rules q e h w (omega arith));
      rests = λ q h w y. let z = rest-same c M F n t u q i j (λ _. s q) (λ _. s (rule_at c q)) in
          subst (λ (v : ℕ). Low g r v (after_dot k.dots q) i j) (sym z) (x.rests q h w (omega arith));
    }

-- a stretch that has no heights
module _ (c M F : List ℕ) (size n : ℕ) (shape : Shape c size) {t : List ℕ} {i j : ℕ} (b : Bare c M n j size i t) where
  apart : i ≡ j → ⊥
  apart e = omega (arith, b.wide)

  pub bare-rule : (q e : ℕ) → q < size → owner_at c q ≡ e + 1 → none ≤ rule_of c M F n t e i j
  bare-rule q e h o = elim (dec_lt (rule_of c M F n t e i j) none) as (λ _. none ≤ rule_of c M F n t e i j) [
    | no l ↦ omega arith
    | yes l ↦ (let w = rule-by c M F n t e i j apart l in
        let x = shape.owners q e h o in
        omega (arith, w.1, b.rows e x.0 (subst (λ (z : ℕ). Wanted M z j) (sym x.3) w.0) (of-rule x.1 x.2)))
  ]

  pub bare-symbol : (p : ℕ) → p < size → next_kind c p ≡ 2 → none ≤ rule_of c M F n t (rule_at c p) i j
  bare-symbol p h z = let w = shape.names p h z in bare-rule (goes_at c p) (rule_at c p) w.1 w.2

  rest-not : (p : ℕ) → p < size → owner_at c p ≡ 0 → rest_of c M F n t p i j < none → RestBy c M F n t p i j → ⊥
  rest-not p h o l (by_last z _ e) = omega (arith, up_none (rule_of c M F n t (rule_at c p) i j) (bare-symbol p h z))
  rest-not p h o l (by_row z _ f w e) = omega (arith, b.rows p h w (of-dot z o f))

  pub bare-rest : (p : ℕ) → p < size → owner_at c p ≡ 0 → none ≤ rest_of c M F n t p i j
  bare-rest p h o = elim (dec_lt (rest_of c M F n t p i j) none) as (λ _. none ≤ rest_of c M F n t p i j) [
    | no l ↦ omega arith
    | yes l ↦ absurd (rest-not p h o l (rest-by c M F n t p i j apart l))
  ]

  next-rest : (p : ℕ) → p < size → (next_kind c p ≡ 0 → ⊥) → none ≤ rest_of c M F n t (p + 1) i j
  next-rest p h z = let w = shape.nexts p h z in bare-rest (p + 1) w (shape.inner p w z)

  pub bare-on : (p : ℕ) → p < size → HandedOn c M F size n i j t p
  bare-on p h = record {
    terminal = λ k o l z f g s. absurd (omega (arith, next-rest p h (λ y. omega arith)));
    split = λ k o l w z d s. absurd (omega (arith, next-rest p h (λ y. omega arith)));
  }

  pub bare-least : Given c M F size n i j t → LeastOn c M F size n t i j
  bare-least g p v h a w (by_end z e o) l = absurd (apart e)
  bare-least g p v h a w (by-terminal z f y o) l = elim (ℕ_discrete (goes_at c p) 0) as (λ _. toward_of c M F n t p i j ≤ v) [
    | yes e ↦ (let d : i + goes_at c p ≡ i = omega arith in absurd (omega (arith, ap (λ (x : ℕ). rest_of c M F n t (p + 1) x j) d, next-rest p h (λ y. omega arith))))
    | no e ↦ omega (arith, (g p (i + goes_at c p) h (omega arith) y).terminal i (record { inside = h; used = a; live = w }) (omega arith) z f refl (omega arith))
  ]
  bare-least g p v h a w (by-split m z x y q o) l = elim (ℕ_discrete m i) as (λ _. toward_of c M F n t p i j ≤ v) [
    | yes e ↦ absurd (omega (arith, ap (λ (x : ℕ). rest_of c M F n t (p + 1) x j) e, next-rest p h (λ y. omega arith)))
    | no e ↦ (elim (ℕ_discrete m j) as (λ _. toward_of c M F n t p i j ≤ v) [
      | yes d ↦ absurd (omega (arith, ap (λ (x : ℕ). up_of (rule_of c M F n t (rule_at c p) i x)) d, up_none (rule_of c M F n t (rule_at c p) i j) (bare-symbol p h z)))
      | no d ↦ omega (arith, (g p m h (omega arith) y).split i (record { inside = h; used = a; live = w }) (omega arith) (omega arith) z q (omega arith))
    ])
  ]

  pub bare-attained : (g : Grammar) (r : Text) {top first : ℕ} (k : Ruled (Flagged M r) c g size top first)
      → Attained k r (home_of c) (Fits M) (Reached M) (Wanted M) (rule_of c M F n t) (rest_of c M F n t) i j
  bare-attained g r k = record {
    rules = λ q e h o l. absurd (omega (arith, bare-rule q e h o));
    rests = λ q h o l. absurd (omega (arith, bare-rest q h o));
  }

-- dots that have no row
module _ {c : List ℕ} {x : ℕ} where
  pub no-rule : next_kind c x ≡ 0 → eqb (goes_at c x) 0 ≡ false → Row c x → ⊥
  no-rule z e (of-rule _ g) = clash e (eq-eqb (goes_at c x) 0 g)
  no-rule z e (of-dot o _ _) = o z

  pub no-first : (next_kind c x ≡ 0 → ⊥) → (owner_at c x ≡ 0 → ⊥) → Row c x → ⊥
  no-first z o (of-rule e _) = z e
  no-first z o (of-dot _ e _) = o e

  pub no_last : (next_kind c x ≡ 0 → ⊥) → is_last c x ≡ true → Row c x → ⊥
  no_last z e (of-rule o _) = z o
  no_last z e (of-dot _ _ o) = clash o e

-- the cells of a row
pub in_row : {size n x j i len y : ℕ} → size ≤ most_size → n ≤ record_chars → size * stretches n ≤ len → x < size → j ≤ n → i < j → y ≡ cell_at n x 0 j → y + i < len
in_row {size} {n} {x} {j} {i} {len} {y} a b d h l k e = in_table size n i j x len (y + i) a b d h (omega arith) l (omega arith)

pub row_end : {size n x j len y : ℕ} → size ≤ most_size → n ≤ record_chars → size * stretches n ≤ len → x < size → j ≤ n → y ≡ cell_at n x 0 j → y + j ≤ len
row_end {size} {n} {x} {j} {len} {y} a b d h l e = omega (arith, in_table size n j j x len (y + j) a b d h (omega arith) l (omega arith))

-- a row is cleared
pub emptied : {n x j y : ℕ} {t t' : List ℕ} → j ≤ n → y ≡ cell_at n x 0 j → Fills y (y + j) none t t' → Emptied n x j j t t'
emptied {n} {x} {j} {y} {t} {t'} stop e f = record {
  long = f.long;
  bare = λ k h. f.inside (cell_at n x k j) (omega arith) (omega arith);
  other = λ z k m h h' o. elim (dec_lt (cell_at n z k m) y) as (λ _. cell_of n t' z k m ≡ cell_of n t z k m) [
    | yes b ↦ f.below (cell_at n z k m) b
    | no b ↦ elim (dec_lt (cell_at n z k m) (y + j)) as (λ _. cell_of n t' z k m ≡ cell_of n t z k m) [
      | yes d ↦ (let s = cell-inj n z k m x (cell_at n z k m - y) j h h' (omega arith) stop (omega arith) in absurd (o (s.same-p, s.same-j)))
      | no d ↦ f.above (cell_at n z k m) (omega arith)
    ]
  ];
}

module _ (c M : List ℕ) (n j : ℕ) where
  -- one dot more is listed
  pub listed-none : (C : List ℕ) → length C ≡ 3789 → ListedTo c M n j 0 (set C 512 0)
  listed-none C e =
      let z = get_or-set_same C 512 0 0 (omega arith) in
      record {
        listed = record { long = length-set C 512 0 ∙ e; count = omega arith; each = λ k h. absurd (omega arith); all = λ p h. absurd (omega arith) };
        count = omega arith;
      }

  pub listed-skip : {x : ℕ} {C : List ℕ} → (Wanted M (home_of c x) j → ⊥) → ListedTo c M n j x C → ListedTo c M n j (x + 1) C
  listed-skip {x} {C} o a = record {
    listed = record {
      long = a.listed.long;
      count = a.listed.count;
      each = λ k h. let w = a.listed.each k h in (omega (arith, w.0), w.1);
      all = λ p h w. elim (ℕ_discrete p x) as (λ _. (k : ℕ) × (k < get_or C 512 0) × (get_or C k 0 ≡ p)) [
        | yes e ↦ absurd (o (subst (λ (z : ℕ). Wanted M (home_of c z) j) e w))
        | no e ↦ a.listed.all p (omega arith) w
      ];
    };
    count = omega (arith, a.count);
  }

  module _ {x : ℕ} {C : List ℕ} (small : x < 512) (live : Wanted M (home_of c x) j) (a : ListedTo c M n j x C) where
    abbrev q : ℕ
    q = get_or C 512 0

    abbrev D : List ℕ
    D = set (set C q x) 512 (q + 1)

    count-is : get_or D 512 0 ≡ q + 1
    count-is = get_or-set_same (set C q x) 512 (q + 1) 0 (omega (arith, length-set C q x, a.listed.long))

    last-is : get_or D q 0 ≡ x
    last-is = get_or-set_other (set C q x) 512 q (q + 1) 0 (λ e. omega (arith, a.count)) ∙ get_or-set_same C q x 0 (omega (arith, a.count, a.listed.long))

    old-is : (k : ℕ) → k < q → get_or D k 0 ≡ get_or C k 0
    old-is k h = get_or-set_other (set C q x) 512 k (q + 1) 0 (λ e. omega (arith, a.count)) ∙ get_or-set_other C q k x 0 (λ e. omega arith)

    pub listed-add : ListedTo c M n j (x + 1) D
    listed-add = record {
      listed = record {
        long = length-set (set C q x) 512 (q + 1) ∙ length-set C q x ∙ a.listed.long;
        count = omega (arith, count-is, a.count);
        each = λ k h. elim (ℕ_discrete k q) as (λ _. (get_or D k 0 < x + 1) × Wanted M (home_of c (get_or D k 0)) j) [
          | yes e ↦ (let z = ap (λ (w : ℕ). get_or D w 0) e ∙ last-is in (omega arith, subst (λ (w : ℕ). Wanted M (home_of c w) j) (sym z) live))
          | no e ↦ (let l : k < q = omega (arith, count-is) in
              let w = a.listed.each k l in (omega (arith, old-is k l, w.0), subst (λ (z : ℕ). Wanted M (home_of c z) j) (sym (old-is k l)) w.1))
        ];
        all = λ p h w. elim (ℕ_discrete p x) as (λ _. (k : ℕ) × (k < get_or D 512 0) × (get_or D k 0 ≡ p)) [
          | yes e ↦ (q, omega (arith, count-is), last-is ∙ sym e)
          | no e ↦ (let z = a.listed.all p (omega arith) w in (z.0, omega (arith, count-is, z.1), old-is z.0 z.1 ∙ z.2))
        ];
      };
      count = omega (arith, count-is, a.count);
    }

    pub after-added : AfterDots C D
    after-added z h = get_or-set_other (set C q x) 512 z (q + 1) 0 (λ e. omega arith) ∙ get_or-set_other C q z x 0 (λ e. omega (arith, a.count))

  -- one row more is cleared
  pub cleared-none : (t : List ℕ) → ClearedTo c M n j 0 t t
  cleared-none t = record { long = refl; same = λ y k l h h' o. refl; rows = λ y i h. absurd (omega arith) }

  pub cleared-next : {x : ℕ} {t u v : List ℕ} → j ≤ n → ClearedTo c M n j x t u → DotCleared c M n j x u v → ClearedTo c M n j (x + 1) t v
  cleared-next {x} {v = v} stop a b = record {
    long = b.long ∙ a.long;
    same = λ y k l h h' o. b.other y k l h h' (λ w. o w.1) ∙ a.same y k l h h' o;
    rows = λ y i h w r l. elim (ℕ_discrete y x) as (λ _. cell_of n v y i j ≡ none) [
      | yes e ↦ ap (λ (z : ℕ). cell_of n v z i j) e ∙ b.row (subst (λ (z : ℕ). Wanted M (home_of c z) j) e w) (subst (Row c) e r) i l
      | no e ↦ b.other y i j (omega arith) stop (λ z. e z.0) ∙ a.rows y i (omega arith) w r l
    ];
  }

  pub dot-same : {x : ℕ} {t : List ℕ} → (Wanted M (home_of c x) j → Row c x → ⊥) → DotCleared c M n j x t t
  dot-same o = record { long = refl; other = λ y k l h h' e. refl; row = λ w r. absurd (o w r) }

  pub dot-cleared : {x : ℕ} {t u : List ℕ} → Emptied n x j j t u → DotCleared c M n j x t u
  dot-cleared a = record { long = a.long; other = a.other; row = λ w r. a.bare }

-- one stretch after the other
module _ (c M F : List ℕ) (size n j : ℕ) where
  -- the rows are cleared
  module _ {t u : List ℕ} (stop : j ≤ n) (a : Before c M F size n j t) (b : ClearedTo c M n j size t u) where
    bare-all : (k : ℕ) → k < j → Bare c M n j size k u
    bare-all k h = record { wide = h; rows = λ y i w r. b.rows y k i w r h }

    cleared-sound : Sound c M F size n (j + 1) u
    cleared-sound g r top first k long x y h h' h'' = elim (ℕ_discrete y j) as
        (λ _. Attained k r (home_of c) (Fits M) (Reached M) (Wanted M) (rule_of c M F n u) (rest_of c M F n u) x y) [
          | no e ↦ attained-kept c M F size n t u g r k x y (λ z. b.same z x y h h'' e) (a.sound g r top first k long x y h (omega arith) h'')
          | yes e ↦ (elim (ℕ_discrete x y) as (λ _. Attained k r (home_of c) (Fits M) (Reached M) (Wanted M) (rule_of c M F n u) (rest_of c M F n u) x y) [
            | yes d ↦ subst (λ (z : ℕ). Attained k r (home_of c) (Fits M) (Reached M) (Wanted M) (rule_of c M F n u) (rest_of c M F n u) x z) d
                (a.empties.sound M u n g r top first k x (omega arith))
            | no d ↦ subst (λ (z : ℕ). Attained k r (home_of c) (Fits M) (Reached M) (Wanted M) (rule_of c M F n u) (rest_of c M F n u) x z) (sym e)
                (bare-attained c M F size n a.tables.shape (bare-all x (omega arith)) g r k)
          ])
        ]

    cleared-least : (k l : ℕ) → k < l → l < j → LeastOn c M F size n u k l
    cleared-least k l h h' = least_kept c M F size n t u k l (omega arith) (λ y x z d e g. b.same y x z e (omega arith) (λ w. omega arith)) (a.least k l h h')

    -- no rule is wanted at the end
    pub before-unwanted : {C : List ℕ} → Listed c M size j C → get_or C 512 0 ≡ 0 → Before c M F size n (j + 1) u
    before-unwanted l e = record {
      tables = subst (Tables c M F size n) (sym b.long) a.tables;
      empties = a.empties;
      sound = cleared-sound;
      least = λ k m h h'. elim (ℕ_discrete m j) as (λ _. LeastOn c M F size n u k m) [
        | yes d ↦ (λ p v lp r w o s. absurd (omega (arith, e, (l.all p lp (subst (Wanted M (home_of c p)) d w)).1)))
        | no d ↦ cleared-least k m h (omega arith)
      ];
    }

  -- the flags are taken back, too, and the empty stretch has handed on
  module _ {t u v B C D E : List ℕ} (stop : j ≤ n) (a : Before c M F size n j t) (b : ClearedTo c M n j size t u) (l : Rows c M size j F C) (f : Untouched j C B) (d : Unnoted j size B D)
      {m : ℕ} (empty : m ≡ j) (handed : AllSpread c M F size n m j u D v E) where
    s : AllSpread c M F size n j j u D v E
    s = subst (λ (x : ℕ). AllSpread c M F size n x j u D v E) empty handed

    pub from_start : From c M F size n j j v E
    from_start = record {
      tables = subst (Tables c M F size n) (sym (s.spread.fell.long ∙ b.long)) a.tables;
      stop = stop;
      rows = rows-kept a.tables.shape (s.spread.long ∙ d.long ∙ f.long) (λ z h. s.spread.before z h ∙ d.before z (omega arith) ∙ f.before z h) l;
      full = s.spread.full (λ i w h z. omega (arith, d.full, f.none-full));
      low = s.spread.low (λ y i h h' h''. absurd (omega (arith, d.from y h)));
      sound = s.spread.fell.sound (cleared-sound stop a b);
      before = λ k m h h'. least_kept c M F size n t v k m (omega arith)
          (λ y x z d e g. s.spread.fell.same y x z e (omega arith) (λ w. omega (arith, w.1)) ∙ b.same y x z e (omega arith) (λ w. omega arith)) (a.least k m h h');
      least = λ k h h'. absurd (omega arith);
      on = λ p m h h' h''. let e : j ≡ m = omega arith in subst (λ (z : ℕ). HandedOn c M F size n z j v p) e (s.on p h);
      bare = λ k h h' z. let w = s.spread.still k h z in
          record { wide = h; rows = λ y i g r. w.1 y ∙ (bare-all stop a b k h).rows y i g r };
    }

  -- one stretch more
  module _ {t C : List ℕ} (h : ℕ) (wide : h < j) (a : From c M F size n j (h + 1) t C) where
    given : Given c M F size n h j t
    given p m lp l l' = a.on p m lp (omega arith) l'

    pub from-bare : get_or C (2563 + h) 0 ≡ 0 → From c M F size n j h t C
    from-bare z =
        let b = a.bare h (omega arith) wide z in
        record {
          tables = a.tables;
          stop = a.stop;
          rows = a.rows;
          full = a.full;
          sound = a.sound;
          before = a.before;
          least = λ k l l'. elim (ℕ_discrete h k) as (λ _. LeastOn c M F size n t k j) [
            | yes e ↦ subst (λ (x : ℕ). LeastOn c M F size n t x j) e (bare-least c M F size n a.tables.shape b given)
            | no e ↦ a.least k (omega arith) l'
          ];
          on = λ p m lp l l'. elim (ℕ_discrete h m) as (λ _. HandedOn c M F size n m j t p) [
            | yes e ↦ subst (λ (x : ℕ). HandedOn c M F size n x j t p) e (bare-on c M F size n a.tables.shape b p lp)
            | no e ↦ a.on p m lp (omega arith) l'
          ];
          bare = λ k l. a.bare k (omega arith);
          low = λ y i l l' l''. a.low y i l l' (omega arith);
        }

    module _ {u v D : List ℕ} (f : Fell c M F size n (j + 1) (Only h j) t u) (g : Given c M F size n h j t → LeastOn c M F size n u h j)
        (s : AllSpread c M F size n h j u C v D) where
      -- cells of other stretches
      away : (y k l : ℕ) → k ≤ l → l ≤ n → (k ≤ h → l ≡ j → ⊥) → cell_of n v y k l ≡ cell_of n t y k l
      away y k l d e o = s.spread.fell.same y k l d e (λ w. o (omega (arith, w.0)) w.1) ∙ f.same y k l d e (λ w. o (omega (arith, w.0)) w.1)

      pub from_next : From c M F size n j h v D
      from_next = record {
        tables = subst (Tables c M F size n) (sym (s.spread.fell.long ∙ f.long)) a.tables;
        stop = a.stop;
        rows = rows-kept a.tables.shape s.spread.long s.spread.before a.rows;
        full = s.spread.full a.full;
        low = s.spread.low (low-kept c M F size n h j t u C C f.le (λ y l. (refl, refl)) (λ y i l l' l''. a.low y i l l' (omega arith)));
        sound = s.spread.fell.sound (f.sound a.sound);
        before = λ k m l l'. least_kept c M F size n t v k m (omega arith) (λ y x z d e i. away y x z e (omega (arith, a.stop)) (λ _ w. omega arith)) (a.before k m l l');
        least = λ k l l'. elim (ℕ_discrete h k) as (λ _. LeastOn c M F size n v k j) [
          | yes e ↦ subst (λ (x : ℕ). LeastOn c M F size n v x j) e
              (least_kept c M F size n u v h j (omega arith) (λ y x z d e' i. s.spread.fell.same y x z e' (omega (arith, a.stop)) (λ w. omega (arith, w.0))) (g given))
          | no e ↦ least_kept c M F size n t v k j (omega arith) (λ y x z d e' i. away y x z e' (omega (arith, a.stop)) (λ w _. omega arith)) (a.least k (omega arith) l')
        ];
        on = λ p m lp l l'. elim (ℕ_discrete h m) as (λ _. HandedOn c M F size n m j v p) [
          | yes e ↦ subst (λ (x : ℕ). HandedOn c M F size n x j v p) e (s.on p lp)
          | no e ↦ on-kept c M F size n m j l' a.stop (fell-widen c M F size n (j + 1) (λ x y w. (omega (arith, w.0), w.1)) s.spread.fell) p
              (on-kept c M F size n m j l' a.stop (fell-widen c M F size n (j + 1) (λ x y w. (omega (arith, w.0), w.1)) f) p (a.on p m lp (omega arith) l'))
        ];
        bare = λ k l l' z. let w = s.spread.still k l z in
            let b = a.bare k (omega arith) l' w.0 in
            record { wide = l'; rows = λ y i q r. w.1 y ∙ f.same y k j (omega arith) a.stop (λ e. omega (arith, e.0)) ∙ b.rows y i q r };
      }

  -- one end more
  pub before-next : {t C : List ℕ} → Empties c F size → From c M F size n j 0 t C → Before c M F size n (j + 1) t
  before-next {t} e a = record {
    tables = a.tables;
    empties = e;
    sound = a.sound;
    least = λ k l h h'. elim (ℕ_discrete l j) as (λ _. LeastOn c M F size n t k l) [
      | yes d ↦ subst (λ (z : ℕ). LeastOn c M F size n t k z) (sym d) (a.least k (omega arith) (omega arith))
      | no d ↦ a.before k l h (omega arith)
    ];
  }

module _ (c M F : List ℕ) (size n : ℕ) where
  pub before-none : (t : List ℕ) → Tables c M F size n (length t) → Empties c F size → Before c M F size n 0 t
  before-none t g e = record {
    tables = g;
    empties = e;
    sound = λ g r top first k long x y h h'. absurd (omega arith);
    least = λ k l h h'. absurd (omega arith);
  }

  pub filled : {t : List ℕ} → Before c M F size n (n + 1) t → Filled c M F size n t
  filled a = record { sound = a.sound; least = λ i j h h'. a.least i j h (omega arith) }
