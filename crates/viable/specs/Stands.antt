-- Where dots stand on a record, from the left, and how far a dot reaches.
use Rattle.std.specs.Prelude.{true, false, List, [], ◌∷◌, ◌≡◌, ℕ, suc, ◌+◌, ◌<◌, ◌≤◌, T, eqb, length, drop}
use Rattle.text.specs.Lists.{Text, all}
use Rattle.tree.specs.Tree.{Terminal, literal, inclusion, exclusion, insertion, codes, Symbol, terminal, Grammar}
use Rattle.plain.specs.Written.{atom, named, made, kind}
use Rattle.plain.specs.Plain.{alts, fits, width}
use Rattle.derive.specs.Derive.{Row, Derives, alternative, root}
use Rattle.derive.specs.Yield.{productive}

-- how many first characters two texts have in common
abbrev pub alike : Text → Text → ℕ
alike [] ds = 0
alike (c ∷ cs) [] = 0
alike (c ∷ cs) (d ∷ ds) = elim (eqb c d) [ true ↦ suc (alike cs ds) | false ↦ 0 ]

-- how many characters of a terminal the text begins with, where it need not spell all of them
abbrev pub begun_by : Terminal → Text → ℕ
begun_by x t = elim x [ literal m k ↦ alike (codes k) t | inclusion m ms ↦ 0 | exclusion m ms ↦ 0 | insertion k ↦ 0 ]

abbrev pub begun : List Symbol → Text → ℕ
begun [] t = 0
begun (s ∷ ss) t = elim (kind s) [ atom x ↦ begun_by x t | named m n ↦ 0 | made ↦ 0 ]

-- the rest of an alternative that can be finished stands at the place i of the record: all before it derives the record's beginning
pub data Stands (g : Grammar) (r : Text) : List Symbol → ℕ → Type 0 where
  at-root : {a : ℕ} → a < length (alts g (root g)) → T (all (productive g) (alternative g (root g) a)) → Stands g r (alternative g (root g) a) 0
  past-terminal : {x : Terminal} {ss : List Symbol} {i : ℕ} → Stands g r (terminal x ∷ ss) i → T (fits x (drop i r)) → i + width x ≤ length r → Stands g r ss (i + width x)
  into : {s : Symbol} {ss : List Symbol} {a i : ℕ} → Stands g r (s ∷ ss) i → a < length (alts g s) → T (all (productive g) (alternative g s a)) → Stands g r (alternative g s a) i
  past-symbol : {s : Symbol} {ss : List Symbol} {c : Row} {a i m : ℕ} → Stands g r (s ∷ ss) i → a < length (alts g s) → Derives g r c (alternative g s a) i m → m ≤ length r
      → Stands g r ss m

-- k is the farthest place that something which stands reaches
pub record Farthest (g : Grammar) (r : Text) (k : ℕ) : Type 0 where
  pub symbols : List Symbol
  pub place : ℕ
  pub stands : Stands g r symbols place
  pub is : k ≡ place + begun symbols (drop place r)
  pub most : {ss : List Symbol} {i : ℕ} → Stands g r ss i → i + begun ss (drop i r) ≤ k
