-- What one pass over the tokens leaves: the items, where each rule begins, and that a table that takes them over has the plain rules.
use Rattle.std.specs.Prelude.{false, ◌⊎◌, ◌≡◌, ℕ, ◌+◌, ◌<◌, ◌≤◌, length, drop}
use mathlib.Core.List.{List, [], ◌∷◌, ◌++◌, Memᴰ as In}
use Rattle.text.specs.Lists.{concat_map}
use Rattle.tree.specs.Tree.{unmarked, Symbol, nonterminal, Rule, Grammar, rules}
use Rattle.tree.specs.Tokens.{Token, rule-head, encode}
use Rattle.plain.specs.Written.{written}
use Rattle.plain.specs.Static.{undefined, duplicate}
use Rattle.plain.specs.Plain.{alts, alternatives, makes, weight, size}
use Rattle.layout.specs.Layout.{starts_of}
use Rattle.tokens.specs.Lengths.{Holds}
use Rattle.items.specs.declared.State.{State}
use Rattle.items.specs.Items.{kind_at, Starts, Among, Alternatives, Spelt}
use Rattle.items.specs.Machine.{Abs, Rep}
use Rattle.items.specs.Final.{Final}
use Rattle.items.specs.Built.{Cover}

-- tokens at a place of the token region
pub record At (K : List ℕ) (at : ℕ) (us : List Token) : Type 0 where
  pub more : List ℕ
  pub stands : drop at K ≡ encode us ++ more

-- the rules' places and first items, two numbers for each rule
pub data Listed (K : List ℕ) : List ℕ → List Rule → List ℕ → Type 0 where
  l-none : Listed K [] [] []
  l-rule : {at x : ℕ} {ys : List ℕ} {r : Rule} {rs : List Rule} {xs : List ℕ} → At K at (rule-head r.mark r.name ∷ [])
      → Listed K ys rs xs → Listed K (at ∷ x ∷ ys) (r ∷ rs) (x ∷ xs)

-- the item is one of a rule of the grammar
abbrev pub RuleCover : List Rule → List ℕ → ℕ → Type 0
RuleCover [] xs p = ⊥
RuleCover (r ∷ rs) [] p = ⊥
RuleCover (r ∷ rs) (x ∷ xs) p = ((x ≤ p) × (p < x + weight (alternatives r.body))) ⊎ RuleCover rs xs p

-- the rule of a name begins at the item x
abbrev pub RuleBegins : ℕ → Symbol → List Rule → List ℕ → Type 0
RuleBegins x s [] ys = ⊥
RuleBegins x s (r ∷ rs) [] = ⊥
RuleBegins x s (r ∷ rs) (y ∷ ys) = ((y ≡ x) × (nonterminal unmarked r.name ≡ s)) ⊎ RuleBegins x s rs ys

-- the rule of a made symbol or of a name does
abbrev pub Begins : ℕ → Symbol → Starts → List Rule → List ℕ → Type 0
Begins x s S rs ys = Among x s S ⊎ RuleBegins x s rs ys

-- an item from `from` on that is first: one that is before it ends a rule
abbrev pub Clean : List ℕ → ℕ → ℕ → Type 0
Clean F from x = (from ≤ x) × ((y : ℕ) → x ≡ y + 1 → from ≤ y → kind_at F y ≡ 6)

abbrev pub Cleans : List ℕ → ℕ → List ℕ → Type 0
Cleans F from [] = Unit {0}
Cleans F from (x ∷ xs) = Clean F from x × Cleans F from xs

-- each rule has its alternatives from its first item on, below n
abbrev pub Bodies : List ℕ → Grammar → Starts → ℕ → List Rule → List ℕ → Type 0
Bodies F g T n [] xs = Unit {0}
Bodies F g T n (r ∷ rs) [] = ⊥
Bodies F g T n (r ∷ rs) (x ∷ xs) = (Alternatives F g T x (alternatives r.body) × (x + weight (alternatives r.body) ≤ n)) × Bodies F g T n rs xs

pub record Whole (F : List ℕ) (g : Grammar) (T : Starts) (starts : Starts) (firsts : List ℕ) (n : ℕ) : Type 0 where
  pub rule : (x : ℕ) (s : Symbol) → Among x s starts → Alternatives F g T x (alts g s) × (x + weight (alts g s) ≤ n)
  pub bodies : Bodies F g T n (rules g) firsts
  pub spelt : (p : ℕ) → p < n → Spelt F g T p
  pub covered : (p : ℕ) → p < n → Cover g starts p ⊎ RuleCover (rules g) firsts p
  pub apart : (x : ℕ) (s : Symbol) → Among x s starts → Clean F 0 x
  pub clean : Cleans F 0 firsts
  pub single : (x : ℕ) (s t : Symbol) → Begins x s starts (rules g) firsts → Begins x t starts (rules g) firsts → s ≡ t

-- `starts` has every symbol that is made of a written one, and no other; `firsts` are the first items of the written rules
pub record Scanned (g : Grammar) (K T : List ℕ) (s : State) : Type 0 where
  pub state : Abs
  pub tokens : state.tokens ≡ K
  pub rep : Rep T s state
  pub count : state.items ≡ size g
  pub starts : Starts
  pub every : (s : Symbol) → In s (concat_map makes (written g)) → (x : ℕ) × Among x s starts
  pub only : (x : ℕ) (s : Symbol) → Among x s starts → In s (concat_map makes (written g))
  pub firsts : List ℕ
  pub listed : Listed state.tokens state.rows (rules g) firsts
  pub laid : duplicate g ≡ false → (x : ℕ) (s : Symbol) → Among x s (starts_of g) → Begins x s starts (rules g) firsts
  pub whole : (F : List ℕ) (T' : Starts) → Final g state.tokens state.list starts F T' → Whole F g T' starts firsts state.items

-- a table with the tokens of a grammar that is not too large and uses no name without a rule
pub record Readable (T : List ℕ) (end : ℕ) (g : Grammar) : Type 0 where
  pub holds : Holds T end g
  pub small : size g ≤ 512
  pub known : undefined g ≡ false

pub record Prepared (T : List ℕ) (end : ℕ) : Type 0 where
  pub tree : Grammar
  pub readable : Readable T end tree
  pub size : length T ≡ 16384
  pub inside : end ≤ 12288
