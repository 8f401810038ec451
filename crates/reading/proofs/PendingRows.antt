-- The rows that are still to be walked, and where the stack keeps them.
use mathlib.Core.Path.{◌≡◌, refl, ◌∙◌}
use mathlib.Core.Logic.{◌⊎◌, inl, inr}
use mathlib.Core.Bool.{Bool, true, false, ◌||◌}
use mathlib.Core.List.{List, [], ◌∷◌, ◌++◌}
use Prim.Native.Nat.{ℕ, ◌+◌, ◌*◌, ◌<◌, ◌≤◌}
use native.Mathlib.Omega.{arith}
use lib.Dec.{T}
use lib.ListN.{length, get_or, set, length-set}
use lib.Seq.{get_or-set_same, get_or-set_other}
use Rattle.derive.specs.Derive.{Row, left_parse}
use Rattle.chart.specs.Code.{after_dot}
use Rattle.chart.specs.Heights.{none}
use Rattle.derive.proofs.Tools.{or_case, or_left, or_right, is_t}
use Rattle.derive.proofs.Picks.{PickedRow}
use Rattle.derive.proofs.Twice.{Twice}
use Rattle.candidates.specs.Candidates.{Tells}
use Rattle.reading.specs.Walk.{pushed}
use Rattle.reading.specs.Answer.{Finished}
use Rattle.reading.proofs.Tables.{Known, Placed}

true_of : (b : Bool) → T b → b ≡ true
true_of true h = refl
true_of false h = absurd h

-- what a mark takes in
pub marked : {A B C : Type 0} (m b : Bool) → Tells b B → (A → T m ⊎ (B ⊎ C)) → A → T (m || b) ⊎ C
marked {A} {B} {C} m b u f a = elim (f a) as (λ _. T (m || b) ⊎ C) [
  | inl h ↦ inl (or_left m b h)
  | inr v ↦ (elim v as (λ _. T (m || b) ⊎ C) [ inl h ↦ inl (or_right m b (is_t (u.told h))) | inr h ↦ inr h ])
]

pub unmarked : {A B C : Type 0} (m b : Bool) → Tells b B → (T m ⊎ (B ⊎ C) → A) → T (m || b) ⊎ C → A
unmarked {A} m b u f (inl h) = elim (or_case m b h) as (λ _. A) [ inl v ↦ f (inl v) | inr v ↦ f (inr (inl (u.holds (true_of b v)))) ]
unmarked m b u f (inr h) = f (inr (inr h))

pub tells-by : {b : Bool} {P Q : Type 0} → Tells b P → (P → Q) → (Q → P) → Tells b Q
tells-by u f h = record { holds = λ e. f (u.holds e); told = λ q. u.told (h q) }

-- stores of a push
module _ (st : List ℕ) (d p j k : ℕ) (room : 3 * d + 2 < length st) where
  pub pushed-length : length (pushed st d p j k) ≡ length st
  pushed-length = simp length-set

  pub pushed-below : (x : ℕ) → x < 3 * d → get_or (pushed st d p j k) x 0 ≡ get_or st x 0
  pushed-below x h =
      get_or-set_other (set (set st (3 * d) p) (3 * d + 1) j) (3 * d + 2) x k 0 (λ e. omega arith)
      ∙ get_or-set_other (set st (3 * d) p) (3 * d + 1) x j 0 (λ e. omega arith)
      ∙ get_or-set_other st (3 * d) x p 0 (λ e. omega arith)

  pub pushed-p : get_or (pushed st d p j k) (3 * d) 0 ≡ p
  pushed-p =
      get_or-set_other (set (set st (3 * d) p) (3 * d + 1) j) (3 * d + 2) (3 * d) k 0 (λ e. omega arith)
      ∙ get_or-set_other (set st (3 * d) p) (3 * d + 1) (3 * d) j 0 (λ e. omega arith)
      ∙ get_or-set_same st (3 * d) p 0 (omega arith)

  pub pushed-j : get_or (pushed st d p j k) (3 * d + 1) 0 ≡ j
  pushed-j =
      get_or-set_other (set (set st (3 * d) p) (3 * d + 1) j) (3 * d + 2) (3 * d + 1) k 0 (λ e. omega arith)
      ∙ get_or-set_same (set st (3 * d) p) (3 * d + 1) j 0 (simp length-set (omega arith))

  pub pushed-k : get_or (pushed st d p j k) (3 * d + 2) 0 ≡ k
  pushed-k = get_or-set_same (set (set st (3 * d) p) (3 * d + 1) j) (3 * d + 2) k 0 (simp length-set (omega arith))

module _ {c M F H : List ℕ} {size n top first : ℕ} (K : Known c M F H size n top first) where
  abbrev t : Finished c M F H size n top first
  t = K.of

  -- a chosen row, to be walked from a position on
  pub record Pending : Type 0 where
    pub place : ℕ
    pub from : ℕ
    pub to : ℕ
    pub bound : ℕ
    pub row : Row
    pub placed : Placed K place from to
    pub small : bound < none
    pub picked : PickedRow t.g t.r bound (after_dot t.code.dots place) from to row

  abbrev pub parses : List Pending → List ℕ
  parses [] = []
  parses (d ∷ ds) = left_parse d.row ++ parses ds

  abbrev pub DueTwice : Pending → Type 0
  DueTwice d = Twice t.g t.r d.row (after_dot t.code.dots d.place) d.from d.to

  abbrev pub AnyTwice : List Pending → Type 0
  AnyTwice [] = ⊥
  AnyTwice (d ∷ ds) = DueTwice d ⊎ AnyTwice ds

  -- depth rows are on the stack, the topmost from i on
  pub data Stacked (st : List ℕ) : ℕ → ℕ → List Pending → Type 0 where
    st-none : {d i : ℕ} → d ≡ 0 → Stacked st d i []
    st-more : {d e i : ℕ} {ds : List Pending} (u : Pending) → d ≡ e + 1 → u.from ≡ i → get_or st (3 * e) 0 ≡ u.place
        → get_or st (3 * e + 1) 0 ≡ u.to → get_or st (3 * e + 2) 0 ≡ u.bound
        → Stacked st e u.to ds → Stacked st d i (u ∷ ds)

  pub keep : {st : List ℕ} {d i : ℕ} {ds : List Pending} (e p j k : ℕ) → 3 * e + 2 < length st → d ≤ e → Stacked st d i ds → Stacked (pushed st e p j k) d i ds
  keep e p j k room h (st-none z) = st-none z
  keep {st} e p j k room h (st-more {e = d} u z a x y w s) =
      let b = pushed-below st e p j k room in
      st-more u z a (b (3 * d) (omega arith) ∙ x) (b (3 * d + 1) (omega arith) ∙ y) (b (3 * d + 2) (omega arith) ∙ w) (keep e p j k room (omega arith) s)

  pub push-pending : {st : List ℕ} {e : ℕ} {ds : List Pending} (u : Pending) → 3 * e + 2 < length st → Stacked st e u.to ds
      → Stacked (pushed st e u.place u.to u.bound) (e + 1) u.from (u ∷ ds)
  push-pending {st} {e} u room s =
      st-more u refl refl (pushed-p st e u.place u.to u.bound room) (pushed-j st e u.place u.to u.bound room) (pushed-k st e u.place u.to u.bound room)
      (keep e u.place u.to u.bound room (omega arith) s)
