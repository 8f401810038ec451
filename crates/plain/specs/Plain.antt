-- Plain rules: the alternatives of each symbol, and the grammar's size.
use Rattle.std.specs.Prelude.{Bool, true, false, not, ◌&&◌, ◌||◌, List, [], ◌∷◌, ◌++◌, ℕ, ◌+◌, leb, eqb, length}
use Rattle.text.specs.Lists.{Text, pick, any, concat_map, same, begins, among}
use Rattle.category.specs.Category.{in_class}
use Rattle.tree.specs.Tree.{Mark, unmarked, included, attribute, deleted, Chars, Member, chars, range, class, Terminal, literal, inclusion, exclusion, insertion, codes}
use Rattle.tree.specs.Tree.{Symbol, terminal, nonterminal, group, option, repeat0, repeat1, repeat0sep, repeat1sep, rest, Alternative, nil, cons, Body, one, also, Rule, Grammar, rules}
use Rattle.plain.specs.Written.{written}
use Rattle.plain.specs.Static.{code_of}

abbrev pub symbols : Alternative → List Symbol
symbols nil = []
symbols (cons f a) = f ∷ symbols a

abbrev pub alternatives : Body → List (List Symbol)
alternatives (one a) = symbols a ∷ []
alternatives (also a b) = symbols a ∷ alternatives b

-- the alternatives of a name's rule
abbrev pub rule_for : List Rule → Text → List (List Symbol)
rule_for [] n = []
rule_for (r ∷ rs) n = pick (same n r.name) (alternatives r.body) (rule_for rs n)

-- "The mark at the use wins over the mark at the rule"
abbrev pub rule_mark : List Rule → Text → Mark
rule_mark [] n = unmarked
rule_mark (r ∷ rs) n = pick (same n r.name) r.mark (rule_mark rs n)

abbrev pub over : Mark → Mark → Mark
over m rule = elim m [ unmarked ↦ rule | included ↦ included | attribute ↦ attribute | deleted ↦ deleted ]

-- "Repetitions and brackets become extra rules, …, alternatives numbered from 0": a rule for each symbol that is no terminal
abbrev pub alts : Grammar → Symbol → List (List Symbol)
alts g (terminal x) = []
alts g (nonterminal m n) = rule_for (rules g) n
-- "bracket: its alternatives in order"
alts g (group b) = alternatives b
-- "f?: 0 is f, 1 is empty"
alts g (option f) = (f ∷ []) ∷ [] ∷ []
-- "f*: 0 is f then the same rule again, 1 is empty"
alts g (repeat0 f) = (f ∷ repeat0 f ∷ []) ∷ [] ∷ []
-- "f+: f, then the rule of f*"
alts g (repeat1 f) = (f ∷ repeat0 f ∷ []) ∷ []
-- "f++sep: f, then a rest rule: 0 is sep, f, rest; 1 is empty"
alts g (repeat1sep f sep) = (f ∷ rest f sep ∷ []) ∷ []
alts g (rest f sep) = (sep ∷ f ∷ rest f sep ∷ []) ∷ [] ∷ []
-- "f**sep: 0 is the rule of f++sep, 1 is empty"
alts g (repeat0sep f sep) = (repeat1sep f sep ∷ []) ∷ [] ∷ []

-- "Each written repetition makes its own rules": the extra rules that a written symbol makes
abbrev pub makes : Symbol → List Symbol
makes (terminal x) = []
makes (nonterminal m n) = []
makes (group b) = group b ∷ []
makes (option f) = option f ∷ []
makes (repeat0 f) = repeat0 f ∷ []
makes (repeat1 f) = repeat1 f ∷ repeat0 f ∷ []
makes (repeat1sep f sep) = repeat1sep f sep ∷ rest f sep ∷ []
makes (repeat0sep f sep) = repeat0sep f sep ∷ repeat1sep f sep ∷ rest f sep ∷ []
makes (rest f sep) = []

-- the symbols that have a rule: the names of the rules that are written, and the made ones
abbrev pub ruled : Grammar → List Symbol
ruled g = concat_map (λ r. nonterminal unmarked r.name ∷ []) (rules g) ++ concat_map makes (written g)

abbrev pub sum_of {ℓ} : {A : Type ℓ} → (A → ℕ) → List A → ℕ
sum_of f [] = 0
sum_of f (x ∷ xs) = f x + sum_of f xs

-- "the sum, over all alternatives, of symbols plus 1"
abbrev pub weight : List (List Symbol) → ℕ
weight ts = sum_of (λ ss. length ss + 1) ts

unfoldable pub size : Grammar → ℕ
size g = sum_of (λ r. weight (alternatives r.body)) (rules g) + sum_of (λ s. sum_of (λ x. weight (alts g x)) (makes s)) (written g)

-- a set's member matches a character; so does a set
abbrev pub is_member : ℕ → Member → Bool
is_member c m = elim m [ chars k ↦ among c (codes k) | range a b ↦ leb (code_of a) c && leb c (code_of b) | class k ↦ in_class k c ]

-- "A literal derives a stretch that spells it, a set any one character that it matches, an insertion an empty stretch":
-- whether a terminal derives the beginning of a text, and of how many characters
abbrev pub fits : Terminal → Text → Bool
fits (literal m k) t = begins (codes k) t
fits (inclusion m ms) t = elim t [ [] ↦ false | c ∷ u ↦ any (is_member c) ms ]
fits (exclusion m ms) t = elim t [ [] ↦ false | c ∷ u ↦ not (any (is_member c) ms) ]
fits (insertion k) t = true

abbrev pub width : Terminal → ℕ
width x = elim x [ literal m k ↦ length (codes k) | inclusion m ms ↦ 1 | exclusion m ms ↦ 1 | insertion k ↦ 0 ]
