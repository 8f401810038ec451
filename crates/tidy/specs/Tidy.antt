-- The tidy text of a grammar: its syntax tree in the one layout.
use Rattle.std.specs.Prelude.{true, false, List, [], ◌∷◌, ◌++◌, ℕ, zero, suc, ◌+◌, ◌/◌, ◌%◌, ltb, eqb}
use Rattle.text.specs.Lists.{Text, chars, pick, concat_map}
use Rattle.tree.specs.Tree.{Mark, unmarked, included, attribute, deleted, Chars, string, hex, Member, range, class, Terminal, literal, inclusion, exclusion, insertion}
use Rattle.tree.specs.Tree.{Symbol, terminal, nonterminal, group, option, repeat0, repeat1, repeat0sep, repeat1sep, rest}
use Rattle.tree.specs.Tree.{Alternative, nil, cons, Body, one, also, Rule, Prolog, no-prolog, version, Grammar, rules}
use Rattle.tree.specs.Tree as tree

-- "double quotes": one that the string has is doubled
abbrev pub quoted_char : ℕ → Text
quoted_char c = pick (eqb c 0x22) (0x22 ∷ 0x22 ∷ []) (c ∷ [])

abbrev pub quoted_text : Text → Text
quoted_text cs = chars "\"" ++ concat_map quoted_char cs ++ chars "\""

-- "lower-case hex without leading zeros": the last digit of n, after the digits of n / 16 if that is not 0
abbrev pub lower_digit : ℕ → ℕ
lower_digit d = pick (ltb d 10) (0x30 + d) (0x57 + d)

-- at most so many digits; a number has fewer digits than it is large, but for 0
abbrev pub hex_digits : ℕ → ℕ → Text
hex_digits zero n = []
hex_digits (suc k) n = elim (ltb n 16) [ true ↦ lower_digit n ∷ [] | false ↦ hex_digits k (n / 16) ++ lower_digit (n % 16) ∷ [] ]

abbrev pub hex_text : ℕ → Text
hex_text n = hex_digits (suc n) n

abbrev pub chars_text : Chars → Text
chars_text (string cs) = quoted_text cs
chars_text (hex n) = chars "#" ++ hex_text n

-- "no bracket or mark dropped or added"
abbrev pub mark_text : Mark → Text
mark_text m = elim m [ unmarked ↦ [] | included ↦ chars "^" | attribute ↦ chars "@" | deleted ↦ chars "-" ]

-- "Set members are parted by `; ` too, and nothing else gets a space"
abbrev pub member_text : Member → Text
member_text (tree.chars k) = chars_text k
member_text (range a b) = chars_text a ++ chars "-" ++ chars_text b
member_text (class k) = k

abbrev pub members_text : List Member → Text
members_text [] = []
members_text (m ∷ []) = member_text m
members_text (m ∷ n ∷ ms) = member_text m ++ chars "; " ++ members_text (n ∷ ms)

abbrev pub set_text : List Member → Text
set_text ms = chars "[" ++ members_text ms ++ chars "]"

abbrev pub terminal_text : Terminal → Text
terminal_text (literal m k) = mark_text m ++ chars_text k
terminal_text (inclusion m ms) = mark_text m ++ set_text ms
terminal_text (exclusion m ms) = mark_text m ++ chars "~" ++ set_text ms
terminal_text (insertion k) = chars "+" ++ chars_text k

-- "`: ` and `; ` and `, `"; "An empty alternative is nothing"
abbrev mutual
  pub symbol_text : Symbol → Text
  symbol_text (terminal x) = terminal_text x
  symbol_text (nonterminal m n) = mark_text m ++ n
  symbol_text (group b) = chars "(" ++ body_text b ++ chars ")"
  symbol_text (option f) = symbol_text f ++ chars "?"
  symbol_text (repeat0 f) = symbol_text f ++ chars "*"
  symbol_text (repeat1 f) = symbol_text f ++ chars "+"
  symbol_text (repeat0sep f sep) = symbol_text f ++ chars "**" ++ symbol_text sep
  symbol_text (repeat1sep f sep) = symbol_text f ++ chars "++" ++ symbol_text sep
  symbol_text (rest f sep) = []

  pub alternative_text : Alternative → Text
  alternative_text nil = []
  alternative_text (cons f nil) = symbol_text f
  alternative_text (cons f (cons h a)) = symbol_text f ++ chars ", " ++ alternative_text (cons h a)

  pub body_text : Body → Text
  body_text (one a) = alternative_text a
  body_text (also a b) = alternative_text a ++ chars "; " ++ body_text b

-- "a line for each rule"; a line ends with LF
abbrev pub rule_text : Rule → Text
rule_text r = mark_text r.mark ++ r.name ++ chars ": " ++ body_text r.body ++ chars ".\n"

-- "a prolog kept as first line like `ixml version "1.0".`"
abbrev pub prolog_text : Prolog → Text
prolog_text no-prolog = []
prolog_text (version k) = chars "ixml version " ++ quoted_text k ++ chars ".\n"

-- "an accepted grammar in one layout"
unfoldable pub tidy_text : Grammar → Text
tidy_text g = prolog_text g.prolog ++ concat_map rule_text (rules g)
