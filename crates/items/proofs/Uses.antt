-- What an item tells: its kind decides, the symbols that are left from an item on are determined, alternatives are counted.
use mathlib.Core.List.{List, [], ◌∷◌}
use mathlib.Core.Logic.{⊎_elim}
use mathlib.Core.Path.{◌≡◌, refl, ap}
use Prim.Native.Nat.{ℕ, zero, suc, ◌+◌, ◌-◌, ◌<◌, ◌≤◌}
use native.Mathlib.Omega.{arith}
use lib.ListN.{length, get_or}
use Rattle.tree.specs.Tree.{Mark, unmarked, included, attribute, deleted, Symbol, Grammar, rules}
use Rattle.text.proofs.Tests.{split}
use Rattle.plain.specs.Plain.{weight, rule_mark, over}
use Rattle.items.specs.Items.{kind_at, mark_kind, Starts, Stands, st-terminal, st-name, st-made, Spells, sp_end, sp-item, Alternatives, al-last, al-more, Spelt}

kind-of-mark : (m : Mark) → (2 ≤ mark_kind m) × (mark_kind m ≤ 4)
kind-of-mark unmarked = (omega arith, omega arith)
kind-of-mark included = (omega arith, omega arith)
kind-of-mark attribute = (omega arith, omega arith)
kind-of-mark deleted = (omega arith, omega arith)

pub record Next (T : List ℕ) (g : Grammar) (S : Starts) (p : ℕ) (ss : List Symbol) : Type 0 where
  pub symbol : Symbol
  pub others : List Symbol
  pub all : ss ≡ symbol ∷ others
  pub stands : Stands T g S p symbol
  pub spells : Spells T g S (p + 1) others

-- the first item of the a-th alternative, where the first begins at x
unfoldable pub first_item : ℕ → List (List Symbol) → ℕ → ℕ
first_item x [] a = x
first_item x (ss ∷ ts) zero = x
first_item x (ss ∷ ts) (suc a) = first_item (x + (length ss + 1)) ts a

module _ {T : List ℕ} {g : Grammar} {S : Starts} where
  -- the kind of an item that stands for a symbol is 1 to 4
  pub stands-kind : {p : ℕ} {s : Symbol} → Stands T g S p s → (1 ≤ kind_at T p) × (kind_at T p ≤ 4)
  stands-kind (st-terminal k r i) = (omega arith, omega arith)
  stands-kind (st-name {m = m} {n = n} k r a) = let w = kind-of-mark (over m (rule_mark (rules g) n)) in (omega arith, omega arith)
  stands-kind (st-made d k r a) = (omega arith, omega arith)

  -- an item of kind 5 or more ends an alternative; one of kind 4 or less stands for a symbol
  pub spells-end : {p : ℕ} {ss : List Symbol} → Spells T g S p ss → 5 ≤ kind_at T p → ss ≡ []
  spells-end (sp_end k) h = refl
  spells-end (sp-item r w) h = absurd (let k = stands-kind r in omega arith)

  pub spells-next : {p : ℕ} {ss : List Symbol} → Spells T g S p ss → kind_at T p ≤ 4 → Next T g S p ss
  spells-next (sp_end k) h = absurd (⊎_elim (λ e. omega arith) (λ e. omega arith) k)
  spells-next (sp-item {s = s} {ss = ss} r w) h = record { symbol = s; others = ss; all = refl; stands = r; spells = w }

  -- the end of an alternative is after its symbols
  pub spells-last : {p : ℕ} {ss : List Symbol} → Spells T g S p ss → 5 ≤ kind_at T (p + length ss)
  spells-last {p} (sp_end k) = let e : kind_at T (p + 0) ≡ kind_at T p = ap (kind_at T) (let z : p + 0 ≡ p = omega arith in z) in ⊎_elim (λ q. omega arith) (λ q. omega arith) k
  spells-last {p} (sp-item {ss = ss} r w) = let e : kind_at T (p + suc (length ss)) ≡ kind_at T (p + 1 + length ss) = ap (kind_at T)
      (let z : p + suc (length ss) ≡ p + 1 + length ss = omega arith in z) in omega (arith, spells-last w)

  -- the a-th alternative begins there
  pub alternative-at : {x : ℕ} {ts : List (List Symbol)} (a : ℕ) → Alternatives T g S x ts → a < length ts → Spells T g S (first_item x ts a) (get_or ts a [])
  unfolding first_item
  alternative-at zero (al-last w k) h = w
  alternative-at zero (al-more w k v) h = w
  alternative-at (suc a) (al-last w k) h = absurd (omega arith)
  alternative-at {x = x} (suc a) (al-more {ss = ss} {ts = ts} w k v) h = alternative-at {x = x + (length {A = Symbol} ss + 1)} a v (omega arith)

  here : {p x : ℕ} {ss : List Symbol} → p ≡ x → Spells T g S x ss → Spelt T g S p
  here {p} {x} {ss} e w = record { after = ss; spells = rw e w }

  -- each item of a rule is in some alternative
  pub run-spelt : {x : ℕ} {ss : List Symbol} → Spells T g S x ss → (p d : ℕ) → p ≡ x + d → d ≤ length ss → Spelt T g S p
  run-spelt w p zero e l = here (omega arith) w
  run-spelt (sp_end k) p (suc d) e l = absurd (omega arith)
  run-spelt {x = x} (sp-item {s = s} {ss = ss} r w) p (suc d) e l = run-spelt {x = x + 1} w p d (omega arith) (omega arith)

  pub rule-spelt : {x : ℕ} {ts : List (List Symbol)} → Alternatives T g S x ts → (p : ℕ) → x ≤ p → p < x + weight ts → Spelt T g S p
  rule-spelt {x} (al-last {ss = ss} w k) p h l = run-spelt w p (p - x) (omega arith) (omega arith)
  rule-spelt {x} (al-more {ss = ss} {ts = ts} w k v) p h l = ⊎_elim (λ b. run-spelt w p (p - x) (omega arith) (omega arith))
      (λ b. rule-spelt v p (omega arith) (omega arith)) (split p (x + (length ss + 1)))
