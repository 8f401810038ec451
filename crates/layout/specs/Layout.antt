-- The order of the plain rules, and the numbers that it gives to dots and rules.
use Rattle.std.specs.Prelude.{List, [], ◌∷◌, ◌++◌, ℕ, suc, ◌+◌, ◌-◌, take}
use Rattle.text.specs.Lists.{concat_map}
use Rattle.tree.specs.Tree.{unmarked, Symbol, terminal, nonterminal, group, option, repeat0, repeat1, repeat0sep, repeat1sep, rest}
use Rattle.tree.specs.Tree.{Alternative, nil, cons, Body, one, also, Rule, Grammar, rules}
use Rattle.plain.specs.Plain.{alts, sum_of, weight}

-- "Each written repetition makes its own rules": those that stand inside a symbol come before its own
abbrev mutual
  pub laid : Symbol → List Symbol
  laid (terminal x) = []
  laid (nonterminal m n) = []
  laid (group b) = laid_body b ++ group b ∷ []
  laid (option f) = laid f ++ option f ∷ []
  laid (repeat0 f) = laid f ++ repeat0 f ∷ []
  laid (repeat1 f) = laid f ++ repeat0 f ∷ repeat1 f ∷ []
  laid (repeat0sep f sep) = laid f ++ laid sep ++ rest f sep ∷ repeat1sep f sep ∷ repeat0sep f sep ∷ []
  laid (repeat1sep f sep) = laid f ++ laid sep ++ rest f sep ∷ repeat1sep f sep ∷ []
  laid (rest f sep) = laid f ++ laid sep

  pub laid_alternative : Alternative → List Symbol
  laid_alternative nil = []
  laid_alternative (cons f a) = laid f ++ laid_alternative a

  pub laid_body : Body → List Symbol
  laid_body (one a) = laid_alternative a
  laid_body (also a b) = laid_alternative a ++ laid_body b

-- what a rule's body makes, and then the rule
abbrev pub laid_rule : Rule → List Symbol
laid_rule r = laid_body r.body ++ nonterminal unmarked r.name ∷ []

-- the plain rules in order, each by its symbol
unfoldable pub layout : Grammar → List Symbol
layout g = concat_map laid_rule (rules g)

-- how many dots the rules of some symbols have
abbrev pub dot_count : Grammar → List Symbol → ℕ
dot_count g ss = sum_of (λ s. weight (alts g s)) ss

-- where rules begin that stand one after the other from dot n on
abbrev pub starts_from : Grammar → ℕ → List Symbol → List (ℕ × Symbol)
starts_from g n [] = []
starts_from g n (s ∷ ss) = (n, s) ∷ starts_from g (n + weight (alts g s)) ss

unfoldable pub starts_of : Grammar → List (ℕ × Symbol)
starts_of g = starts_from g 0 (layout g)

-- the symbols after each dot of an alternative; of alternatives one after the other; of all rules
abbrev pub tails : List Symbol → List (List Symbol)
tails [] = [] ∷ []
tails (s ∷ ss) = (s ∷ ss) ∷ tails ss

abbrev pub dots_in : List (List Symbol) → List (List Symbol)
dots_in ts = concat_map tails ts

unfoldable pub dots_of : Grammar → List (List Symbol)
dots_of g = concat_map (λ s. dots_in (alts g s)) (layout g)

-- the last dot of rule q, which names it
unfoldable pub name_at : Grammar → ℕ → ℕ
name_at g q = dot_count g (take (suc q) (layout g)) - 1
