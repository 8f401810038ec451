-- How a finished table takes an item of the machine over: it keeps the item, and gives a name its kind and its target.
use Rattle.std.specs.Prelude.{true, List, [], ◌∷◌, ◌≡◌, ℕ, ◌+◌, take}
use Rattle.text.specs.Lists.{Text, any, same}
use Rattle.tree.specs.Tree.{Mark, Symbol, nonterminal, Grammar}
use Rattle.tree.specs.Tokens.{name}
use Rattle.plain.specs.Written.{heads}
use Rattle.items.specs.Items.{kind_at, target_at, token_at, Reads, Starts, Among, Stands}

-- the name has a rule
abbrev pub Known : Grammar → Text → Type 0
Known g n = any (same n) (heads g) ≡ true

pub record Placed (F : List ℕ) (g : Grammar) (S : Starts) (p k t q : ℕ) : Type 0 where
  pub kept : (k ≡ 2 → ⊥) → (kind_at F p ≡ k) × (target_at F p ≡ t) × (token_at F p ≡ q)
  pub named : k ≡ 2 → (m : Mark) (n : Text) → Reads F q (name m n ∷ []) → Known g n → Stands F g S p (nonterminal m n)

-- items from p on, three numbers each
abbrev pub PlacedAll : List ℕ → Grammar → Starts → ℕ → List ℕ → Type 0
PlacedAll F g S p [] = Unit {0}
PlacedAll F g S p (k ∷ []) = Unit {0}
PlacedAll F g S p (k ∷ t ∷ []) = Unit {0}
PlacedAll F g S p (k ∷ t ∷ q ∷ xs) = Placed F g S p k t q × PlacedAll F g S (p + 1) xs

-- F takes over the tokens K, the items I and the rules that begin at S₁
pub record Final (g : Grammar) (K I : List ℕ) (S₁ : Starts) (F : List ℕ) (S : Starts) : Type 0 where
  pub tokens : take 12288 F ≡ K
  pub placed : PlacedAll F g S 0 I
  pub sub : (x : ℕ) (s : Symbol) → Among x s S₁ → Among x s S
