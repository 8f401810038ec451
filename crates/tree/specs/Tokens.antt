-- The syntax tree in a table: tokens in the order of the text, operators after what they apply to, each token some numbers.
use Rattle.std.specs.Prelude.{List, [], ◌∷◌, ◌++◌, ℕ, ◌+◌, min, length}
use Rattle.text.specs.Lists.{Text, concat_map}
use Rattle.tree.specs.Tree.{Mark, unmarked, included, attribute, deleted, Chars, string, hex, Member, Terminal, literal, inclusion, exclusion, insertion}
use Rattle.tree.specs.Tree.{Symbol, terminal, nonterminal, group, option, repeat0, repeat1, repeat0sep, repeat1sep, rest}
use Rattle.tree.specs.Tree.{Alternative, nil, cons, Body, one, also, Rule, Prolog, no-prolog, version, Grammar, rules}
use Rattle.tree.specs.Tree as tree

pub data Token : Type 0 where
  name : Mark → Text → Token
  quoted : Mark → Text → Token
  coded : Mark → ℕ → Token
  include exclude : Mark → Token
  member-quoted : Text → Token
  member-coded : ℕ → Token
  member-range : Chars → Chars → Token
  member-class : Text → Token
  set-end : Token
  insert-quoted : Text → Token
  insert-coded : ℕ → Token
  open-group close-group next-alternative : Token
  to-option to-repeat0 to-repeat1 to-repeat0sep to-repeat1sep : Token
  rule-head : Mark → Text → Token
  rule_end : Token
  version-is : Text → Token

-- The tokens of each part.
abbrev pub member_token : Member → Token
member_token m =
    elim m [
      | tree.chars k ↦ elim k as (λ _. Token) [ string cs ↦ member-quoted cs | hex n ↦ member-coded n ]
      | tree.range a b ↦ member-range a b
      | tree.class k ↦ member-class k
    ]

abbrev pub member_tokens : List Member → List Token
member_tokens [] = set-end ∷ []
member_tokens (m ∷ ms) = member_token m ∷ member_tokens ms

abbrev pub terminal_tokens : Terminal → List Token
terminal_tokens (literal m (string cs)) = quoted m cs ∷ []
terminal_tokens (literal m (hex n)) = coded m n ∷ []
terminal_tokens (inclusion m ms) = include m ∷ member_tokens ms
terminal_tokens (exclusion m ms) = exclude m ∷ member_tokens ms
terminal_tokens (insertion (string cs)) = insert-quoted cs ∷ []
terminal_tokens (insertion (hex n)) = insert-coded n ∷ []

abbrev mutual
  pub symbol_tokens : Symbol → List Token
  symbol_tokens (terminal x) = terminal_tokens x
  symbol_tokens (nonterminal m n) = name m n ∷ []
  symbol_tokens (group b) = open-group ∷ (body_tokens b ++ close-group ∷ [])
  symbol_tokens (option f) = symbol_tokens f ++ to-option ∷ []
  symbol_tokens (repeat0 f) = symbol_tokens f ++ to-repeat0 ∷ []
  symbol_tokens (repeat1 f) = symbol_tokens f ++ to-repeat1 ∷ []
  symbol_tokens (repeat0sep f sep) = symbol_tokens f ++ (symbol_tokens sep ++ to-repeat0sep ∷ [])
  symbol_tokens (repeat1sep f sep) = symbol_tokens f ++ (symbol_tokens sep ++ to-repeat1sep ∷ [])
  symbol_tokens (rest f sep) = []

  pub alternative_tokens : Alternative → List Token
  alternative_tokens nil = []
  alternative_tokens (cons f a) = symbol_tokens f ++ alternative_tokens a

  pub body_tokens : Body → List Token
  body_tokens (one a) = alternative_tokens a
  body_tokens (also a b) = alternative_tokens a ++ next-alternative ∷ body_tokens b

abbrev pub rule_tokens : Rule → List Token
rule_tokens r = rule-head r.mark r.name ∷ (body_tokens r.body ++ rule_end ∷ [])

abbrev pub prolog_tokens : Prolog → List Token
prolog_tokens no-prolog = []
prolog_tokens (version k) = version-is k ∷ []

abbrev pub grammar_tokens : Grammar → List Token
grammar_tokens g = prolog_tokens g.prolog ++ concat_map rule_tokens (rules g)

-- The numbers of a token: what it is, with its mark, and then what it holds. Characters stand after their count; a hex number
-- stands as its value, every value above 10FFFF as 110000.
abbrev pub mark_number : Mark → ℕ
mark_number m = elim m [ unmarked ↦ 0 | included ↦ 1 | attribute ↦ 2 | deleted ↦ 3 ]

abbrev pub capped : ℕ → ℕ
capped n = min n 0x110000

abbrev pub counted : Text → List ℕ
counted cs = length cs ∷ cs

-- an end of a range: 0 and its character, or 1 and the value
abbrev pub end_numbers : Chars → List ℕ
end_numbers (string cs) = 0 ∷ cs
end_numbers (hex n) = 1 ∷ capped n ∷ []

-- a class: its letters, 0 for a second that is not there
abbrev pub class_numbers : Text → List ℕ
class_numbers [] = 0 ∷ 0 ∷ []
class_numbers (c ∷ []) = c ∷ 0 ∷ []
class_numbers (c ∷ d ∷ cs) = c ∷ d ∷ []

abbrev pub numbers : Token → List ℕ
numbers (name m n) = mark_number m ∷ counted n
numbers (quoted m cs) = (4 + mark_number m) ∷ counted cs
numbers (coded m n) = (8 + mark_number m) ∷ capped n ∷ []
numbers (include m) = (12 + mark_number m) ∷ []
numbers (exclude m) = (16 + mark_number m) ∷ []
numbers (rule-head m n) = (20 + mark_number m) ∷ counted n
numbers (member-quoted cs) = 24 ∷ counted cs
numbers (member-coded n) = 25 ∷ capped n ∷ []
numbers (member-range a b) = 26 ∷ (end_numbers a ++ end_numbers b)
numbers (member-class k) = 27 ∷ class_numbers k
numbers set-end = 28 ∷ []
numbers (insert-quoted cs) = 29 ∷ counted cs
numbers (insert-coded n) = 30 ∷ capped n ∷ []
numbers open-group = 31 ∷ []
numbers close-group = 32 ∷ []
numbers next-alternative = 33 ∷ []
numbers to-option = 34 ∷ []
numbers to-repeat0 = 35 ∷ []
numbers to-repeat1 = 36 ∷ []
numbers to-repeat0sep = 37 ∷ []
numbers to-repeat1sep = 38 ∷ []
numbers rule_end = 39 ∷ []
numbers (version-is cs) = 40 ∷ counted cs

abbrev pub encode : List Token → List ℕ
encode ts = concat_map numbers ts
