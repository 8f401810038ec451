-- No height is above the number of cells that have one, so none is cut.
use mathlib.Core.Path.{◌≡◌, sym, subst}
use mathlib.Core.List.{List}
use Prim.Native.Nat.{ℕ, zero, suc, ◌+◌, ◌*◌, ◌<◌, ◌≤◌}
use native.Mathlib.Decide.{dec_lt, ℕ_discrete}
use native.Mathlib.Omega.{arith}
use lib.ListN.{get_or, set}
use lib.Seq.{get_or-set_same, get_or-set_other}
use lib.Dec.{ltb}
use borrow.Author.Tests.{lt-ltb, le-ltb}
use Rattle.chart.specs.Code.{rule_at, flag}
use Rattle.chart.specs.Heights.{cell_at, stretches, none}
use Rattle.heights.specs.Table.{cell_of, value_of, Shape, Place}
use Rattle.heights.specs.Filling.{Gives, by-terminal, by-split, by-owned, Steps, stay, step}
use Rattle.heights.proofs.Cells.{in-room, next_place, rule-place}
use Rattle.heights.proofs.Lowering.{in-range, set-le, steps-le}
use Rattle.heights.proofs.Values.{Value, v-end, v-none, v-cell, value-is, up_is, up-low}

-- how many of the first k cells have a height
abbrev pub heighted : ℕ → ℕ
heighted h = flag (ltb h none)

abbrev pub count : List ℕ → ℕ → ℕ
count t zero = 0
count t (suc k) = count t k + heighted (get_or t k 0)

one : (h : ℕ) → h < none → heighted h ≡ 1
one h l = simp (lt-ltb h none l)

nil : (h : ℕ) → none ≤ h → heighted h ≡ 0
nil h l = simp (le-ltb h none l)

grows : (a b : ℕ) → b ≤ a → heighted a ≤ heighted b
grows a b l = elim (dec_lt a none) as (λ _. heighted a ≤ heighted b) [
  | yes h ↦ omega (arith, one a h, one b (omega arith))
  | no h ↦ omega (arith, nil a (omega arith))
]

pub count-le : (t : List ℕ) (k : ℕ) → count t k ≤ k
count-le t zero = omega arith
count-le t (suc k) = elim (dec_lt (get_or t k 0) none) as (λ _. count t (suc k) ≤ suc k) [
  | yes h ↦ omega (arith, count-le t k, one (get_or t k 0) h)
  | no h ↦ omega (arith, count-le t k, nil (get_or t k 0) (omega arith))
]

module _ (t u : List ℕ) (low : (x : ℕ) → get_or u x 0 ≤ get_or t x 0) where
  count-grows : (k : ℕ) → count t k ≤ count u k
  count-grows zero = omega arith
  count-grows (suc k) = omega (arith, count-grows k, grows (get_or t k 0) (get_or u k 0) (low k))

  pub count-more : (x k : ℕ) → x < k → none ≤ get_or t x 0 → get_or u x 0 < none → suc (count t k) ≤ count u k
  count-more x zero h a b = absurd (omega arith)
  count-more x (suc k) h a b = elim (ℕ_discrete x k) as (λ _. suc (count t (suc k)) ≤ count u (suc k)) [
    | yes e ↦ (let a' : none ≤ get_or t k 0 = rw e at a in let b' : get_or u k 0 < none = rw e at b in omega (arith, count-grows k, nil (get_or t k 0) a', one (get_or u k 0) b'))
    | no e ↦ omega (arith, count-more x k (omega arith) a b, grows (get_or t k 0) (get_or u k 0) (low k))
  ]

-- heights among the first k cells are at most their number
abbrev Small : ℕ → List ℕ → Type 0
Small k t = (x : ℕ) → x < k → get_or t x 0 < none → get_or t x 0 ≤ count t k

-- a cell is lowered to v
small-set : (k : ℕ) (t : List ℕ) (x v : ℕ) → x < k → v < get_or t x 0 → v < none → v ≤ suc (count t k) → Small k t → Small k (set t x v)
small-set k t x v h l b w s y hy ly =
    let low : (z : ℕ) → get_or (set t x v) z 0 ≤ get_or t z 0 = λ z. set-le t x z v l in
    let same = get_or-set_same t x v 0 (in-range t x v l) in
    let g = count-grows t (set t x v) low k in
    elim (ℕ_discrete y x) as (λ _. get_or (set t x v) y 0 ≤ count (set t x v) k) [
      | no e ↦ (let o = get_or-set_other t x y v 0 e in omega (arith, o, g, s y hy (omega (arith, o))))
      | yes e ↦ (elim (dec_lt (get_or t x 0) none) as (λ _. get_or (set t x v) y 0 ≤ count (set t x v) k) [
        | yes d ↦ rw e (omega (arith, same, g, s x h d))
        | no d ↦ rw e (omega (arith, same, count-more t (set t x v) low x k h (omega arith) (omega arith)))
      ])
    ]

module _ (c f : List ℕ) (size n len : ℕ) (sh : Shape c size n len) where
  abbrev cells : ℕ
  cells = size * stretches n

  in_cells : {p i j : ℕ} → Place size n p i j → cell_at n p i j < cells
  in_cells = in-room (record { few = sh.cells.few; short = sh.cells.short; room = omega arith })

  value-by : (t : List ℕ) → Small cells t → (q i j v : ℕ) → Place size n q i j → Value c t n q i j v → v < none → v ≤ count t cells
  value-by t s q i j v h (v-end k e z) l = omega arith
  value-by t s q i j v h (v-none z) l = absurd (omega arith)
  value-by t s q i j v h (v-cell k z) l = omega (arith, s (cell_at n q i j) (in_cells h) (omega arith))

  gives-small : (t : List ℕ) → Small cells t → (p i j v : ℕ) → Place size n p i j → Gives c f size n t p i j v → v < none → v ≤ suc (count t cells)
  gives-small t s p i j v h (by-terminal k w l e) b =
      omega (arith, value-by t s (p + 1) _ j v (next_place sh h _ (λ z. omega arith) (omega arith) l) (subst (Value c t n (p + 1) _ j) (sym e) (value-is c t n (p + 1) _ j)) b)
  gives-small t s p i j v h (by-split m k hm lm e) b =
      let rest = value_of c t n (p + 1) m j in
      let h' = cell_of n t (rule_at c p) i m in
      let lu = up-low h' (omega arith) in
      omega (
        arith,
        up_is h' lu,
        s (cell_at n (rule_at c p) i m) (in_cells (rule-place sh h m k hm lm)) lu,
        value-by t s (p + 1) m j rest (next_place sh h m (λ z. omega arith) hm lm) (value-is c t n (p + 1) m j) (omega arith),
      )
  gives-small t s p i j v h (by-owned q hq o e) b =
      omega (arith, value-by t s q i j v (record { inside = hq; order = h.order; stop = h.stop }) (subst (Value c t n q i j) (sym e) (value-is c t n q i j)) b)

  steps-small : {A : ℕ → ℕ → Type 0} {t₀ t : List ℕ} → Steps c f size n A t₀ t → ((x : ℕ) → x < cells → get_or t₀ x 0 ≡ none) → Small cells t
  steps-small stay z = λ x h l. absurd (omega (arith, z x h))
  steps-small {t₀ = t₀} (step {t = t} p i j v s ha hp hi hj d l) z =
      let pl : Place size n p i j = record { inside = hp; order = hi; stop = hj } in
      let b : v < none = omega (arith, steps-le c f size n s (cell_at n p i j), z (cell_at n p i j) (in_cells pl)) in
      small-set cells t (cell_at n p i j) v (in_cells pl) l b (gives-small t (steps-small s z) p i j v pl d b) (steps-small s z)

  -- a height is at most the number of cells
  pub height-small : {A : ℕ → ℕ → Type 0} {t₀ t : List ℕ} → Steps c f size n A t₀ t → ((x : ℕ) → x < cells → get_or t₀ x 0 ≡ none)
      → {p i j : ℕ} → Place size n p i j → cell_of n t p i j < none → cell_of n t p i j ≤ cells
  height-small {t = t} s z {p} {i} {j} h l = omega (arith, steps-small s z (cell_at n p i j) (in_cells h) l, count-le t cells)
