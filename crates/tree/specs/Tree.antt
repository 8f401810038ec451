-- The syntax tree of a grammar text: what the text says, without spacing and comments.
use Rattle.std.specs.Prelude.{Bool, List, [], ◌∷◌, ℕ}
use Rattle.text.specs.Lists.{Text}

-- none, `^`, `@`, `-`
pub data Mark : Type 0 where
  unmarked included attribute deleted : Mark

-- characters as they are written: a string, or a hex number of any count of digits by its value
pub data Chars : Type 0 where
  string : Text → Chars
  hex : ℕ → Chars

-- a member of a set
pub data Member : Type 0 where
  chars : Chars → Member
  range : Chars → Chars → Member
  class : Text → Member

pub data Terminal : Type 0 where
  literal : Mark → Chars → Terminal
  inclusion exclusion : Mark → List Member → Terminal
  insertion : Chars → Terminal

mutual
  -- a factor or a term; `rest f sep` is never written: it names the made rule that follows the first f of `f++sep`
  pub data Symbol : Type 0 where
    terminal : Terminal → Symbol
    nonterminal : Mark → Text → Symbol
    group : Body → Symbol
    option repeat0 repeat1 : Symbol → Symbol
    repeat0sep repeat1sep rest : Symbol → Symbol → Symbol

  -- an alternative
  pub data Alternative : Type 0 where
    nil : Alternative
    cons : Symbol → Alternative → Alternative

  -- one alternative or more
  pub data Body : Type 0 where
    one : Alternative → Body
    also : Alternative → Body → Body

pub record Rule : Type 0 where
  pub mark : Mark
  pub name : Text
  pub body : Body

-- the version that a prolog names
pub data Prolog : Type 0 where
  no-prolog : Prolog
  version : Text → Prolog

-- the first rule's name is the root
pub record Grammar : Type 0 where
  pub prolog : Prolog
  pub root : Rule
  pub others : List Rule

abbrev pub rules : Grammar → List Rule
rules g = g.root ∷ g.others

-- the code points that characters stand for
abbrev pub codes : Chars → Text
codes (string cs) = cs
codes (hex n) = n ∷ []
