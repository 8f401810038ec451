-- All that is written in a grammar, in lists.
use Rattle.std.specs.Prelude.{List, [], ◌∷◌, ◌++◌, ℕ}
use Rattle.text.specs.Lists.{Text, concat_map}
use Rattle.tree.specs.Tree.{Mark, Chars, string, hex, Member, chars, range, class, Terminal, literal, inclusion, exclusion, insertion}
use Rattle.tree.specs.Tree.{Symbol, terminal, nonterminal, group, option, repeat0, repeat1, repeat0sep, repeat1sep, rest, Alternative, nil, cons, Body, one, also, Rule, Grammar, rules}

-- a symbol and all symbols inside it
abbrev mutual
  pub within : Symbol → List Symbol
  within (terminal x) = terminal x ∷ []
  within (nonterminal m n) = nonterminal m n ∷ []
  within (group b) = group b ∷ within_body b
  within (option f) = option f ∷ within f
  within (repeat0 f) = repeat0 f ∷ within f
  within (repeat1 f) = repeat1 f ∷ within f
  within (repeat0sep f sep) = repeat0sep f sep ∷ (within f ++ within sep)
  within (repeat1sep f sep) = repeat1sep f sep ∷ (within f ++ within sep)
  within (rest f sep) = rest f sep ∷ (within f ++ within sep)

  pub within_alternative : Alternative → List Symbol
  within_alternative nil = []
  within_alternative (cons f a) = within f ++ within_alternative a

  pub within_body : Body → List Symbol
  within_body (one a) = within_alternative a
  within_body (also a b) = within_alternative a ++ within_body b

abbrev pub written : Grammar → List Symbol
written g = concat_map (λ r. within_body r.body) (rules g)

-- what a symbol is, in short
pub data Kind : Type 0 where
  atom : Terminal → Kind
  named : Mark → Text → Kind
  made : Kind

abbrev pub kind : Symbol → Kind
kind (terminal x) = atom x
kind (nonterminal m n) = named m n
kind (group b) = made
kind (option f) = made
kind (repeat0 f) = made
kind (repeat1 f) = made
kind (repeat0sep f sep) = made
kind (repeat1sep f sep) = made
kind (rest f sep) = made

abbrev pub names_in : Symbol → List Text
names_in s = elim (kind s) [ atom x ↦ [] | named m n ↦ n ∷ [] | made ↦ [] ]

abbrev pub terminals_in : Symbol → List Terminal
terminals_in s = elim (kind s) [ atom x ↦ x ∷ [] | named m n ↦ [] | made ↦ [] ]

abbrev pub members_in : Terminal → List Member
members_in x = elim x [ literal m k ↦ [] | inclusion m ms ↦ ms | exclusion m ms ↦ ms | insertion k ↦ [] ]

-- literals and insertions, members, both ends of a range
abbrev pub chars_in_member : Member → List Chars
chars_in_member x = elim x [ chars k ↦ k ∷ [] | range a b ↦ a ∷ b ∷ [] | class k ↦ [] ]

abbrev pub chars_in : Terminal → List Chars
chars_in x = elim x [ literal m k ↦ k ∷ [] | inclusion m ms ↦ concat_map chars_in_member ms | exclusion m ms ↦ concat_map chars_in_member ms | insertion k ↦ k ∷ [] ]

abbrev pub hex_in : Chars → List ℕ
hex_in k = elim k [ string cs ↦ [] | hex n ↦ n ∷ [] ]

-- the names used
abbrev pub names : Grammar → List Text
names g = concat_map names_in (written g)

abbrev pub terminals : Grammar → List Terminal
terminals g = concat_map terminals_in (written g)

abbrev pub members : Grammar → List Member
members g = concat_map members_in (terminals g)

abbrev pub hexes : Grammar → List ℕ
hexes g = concat_map hex_in (concat_map chars_in (terminals g))

abbrev pub heads : Grammar → List Text
heads g = concat_map (λ r. r.name ∷ []) (rules g)
