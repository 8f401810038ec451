-- A syntax tree held in a table, and the first static rule that it breaks.
use Rattle.std.specs.Prelude.{Bool, true, false, not, ◌&&◌, ◌≡◌, List, [], ◌∷◌, ℕ, ◌≤◌, T, eqb, length, take, Result, Ok, Err, Option, Some, None}
use Rattle.text.specs.Limits.{grammar_table}
use Rattle.text.specs.Lists.{Text, pick, all}
use Rattle.tree.specs.Tree.{Chars, string, hex, Member, Symbol, terminal, nonterminal, group, option, repeat0, repeat1, repeat0sep, repeat1sep, rest, Grammar}
use Rattle.tree.specs.Tree as tree
use Rattle.tree.specs.Tokens.{encode, grammar_tokens}
use Rattle.plain.specs.Written.{members_in, written}
use Rattle.plain.specs.Static.{undefined, duplicate, beyond, banned, backwards, unclassed}
use Rattle.static_errors.specs.declared.StaticError.{StaticError}
use Rattle.static_errors.specs.declared.StaticError.TheVariants.{UndefinedName, RepeatedRule, HexTooLarge, HexNoCharacter, BackwardRange, UnknownClass}

-- What every tree of a text is like: an end of a range is one character or a hex number, a class has one letter or two,
-- and `rest` is not written.
abbrev pub single : Chars → Bool
single (string []) = false
single (string (c ∷ [])) = true
single (string (c ∷ d ∷ cs)) = false
single (hex n) = true

abbrev pub lettered : Text → Bool
lettered [] = false
lettered (c ∷ []) = true
lettered (c ∷ d ∷ []) = not (eqb d 0)
lettered (c ∷ d ∷ e ∷ cs) = false

abbrev pub proper_member : Member → Bool
proper_member m = elim m [ tree.chars k ↦ true | tree.range a b ↦ single a && single b | tree.class k ↦ lettered k ]

abbrev pub proper_symbol : Symbol → Bool
proper_symbol (terminal x) = all proper_member (members_in x)
proper_symbol (nonterminal m n) = true
proper_symbol (group b) = true
proper_symbol (option f) = true
proper_symbol (repeat0 f) = true
proper_symbol (repeat1 f) = true
proper_symbol (repeat0sep f sep) = true
proper_symbol (repeat1sep f sep) = true
proper_symbol (rest f sep) = false

abbrev pub proper : Grammar → Bool
proper g = all proper_symbol (written g)

-- the first numbers of a table are the tokens of a tree
pub record Holds (table : List ℕ) (end : ℕ) (g : Grammar) : Type 0 where
  pub within : end ≤ length table
  pub held : take end table ≡ encode (grammar_tokens g)
  pub proper : T (proper g)

pub record Held (table : List ℕ) (end : ℕ) : Type 0 where
  pub grammar : Grammar
  pub holds : Holds table end grammar
  pub short : end ≤ grammar_table

-- the topmost of 5 to 10 that applies; 0 where none does
unfoldable pub static_of : Grammar → ℕ
static_of g =
    pick (undefined g) 5
    (pick (duplicate g) 6
    (pick (beyond g) 7
    (pick (banned g) 8
    (pick (backwards g) 9
    (pick (unclassed g) 10 0)))))

-- document 01's number for each case
abbrev pub rule_number : StaticError → ℕ
rule_number UndefinedName = 5
rule_number RepeatedRule = 6
rule_number HexTooLarge = 7
rule_number HexNoCharacter = 8
rule_number BackwardRange = 9
rule_number UnknownClass = 10

-- the same of what is said of a tree: 0 where it keeps the rules
abbrev pub ruling_number : Result (Unit {0}) StaticError → ℕ
ruling_number (Ok u) = 0
ruling_number (Err e) = rule_number e

-- the same of what is asked for: 0 stands for any of them
abbrev pub asked_number : Option StaticError → ℕ
asked_number None = 0
asked_number (Some e) = rule_number e
