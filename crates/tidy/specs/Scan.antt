-- The tidy text by one scan over the grammar's tokens, which stand with their operators behind them: what each token adds.
use Rattle.std.specs.Prelude.{Bool, true, false, List, [], ◌∷◌, ◌++◌, ℕ, zero, suc}
use Rattle.text.specs.Lists.{Text, chars, pick}
use Rattle.tree.specs.Tree.{string, hex, range, class, literal, insertion, terminal, version}
use Rattle.tree.specs.Tree as tree
use Rattle.tree.specs.Tokens.{Token, name, quoted, coded, include, exclude, member-quoted, member-coded, member-range, member-class, set-end, insert-quoted, insert-coded}
use Rattle.tree.specs.Tokens.{open-group, close-group, next-alternative, to-option, to-repeat0, to-repeat1, to-repeat0sep, to-repeat1sep, rule-head, rule_end, version-is}
use Rattle.tidy.specs.Tidy.{quoted_text, chars_text, mark_text, member_text, prolog_text}

-- kinds of tokens: the first of a factor that opens a set or bracket, another first one, a member, the end of a set or bracket, what
-- stands before a first part and is no factor, any other
pub data Kind : Type 0 where
  opening single member closing heading other : Kind

abbrev pub kind_of : Token → Kind
kind_of (name m n) = single
kind_of (quoted m cs) = single
kind_of (coded m n) = single
kind_of (include m) = opening
kind_of (exclude m) = opening
kind_of (member-quoted cs) = member
kind_of (member-coded n) = member
kind_of (member-range a b) = member
kind_of (member-class k) = member
kind_of set-end = closing
kind_of (insert-quoted cs) = single
kind_of (insert-coded n) = single
kind_of open-group = opening
kind_of close-group = closing
kind_of next-alternative = heading
kind_of to-option = other
kind_of to-repeat0 = other
kind_of to-repeat1 = other
kind_of to-repeat0sep = other
kind_of to-repeat1sep = other
kind_of (rule-head m n) = heading
kind_of rule_end = other
kind_of (version-is k) = other

-- how many sets and brackets are open after a token
abbrev pub depth : ℕ → Kind → ℕ
depth d opening = suc d
depth zero closing = zero
depth (suc d) closing = d
depth d single = d
depth d member = d
depth d heading = d
depth d other = d

-- what follows the factor that begins here, d sets and brackets being open
abbrev pub past : ℕ → List Token → List Token
past d [] = []
past d (t ∷ ts) = elim (depth d (kind_of t)) [ zero ↦ ts | suc e ↦ past (suc e) ts ]

-- what stands between two factors, by the token behind the second
abbrev pub joint : List Token → Text
joint [] = chars ", "
joint (t ∷ ts) = elim t [
  | to-repeat0sep ↦ chars "**"
  | to-repeat1sep ↦ chars "++"
  | name m n ↦ chars ", "
  | quoted m cs ↦ chars ", "
  | coded m n ↦ chars ", "
  | include m ↦ chars ", "
  | exclude m ↦ chars ", "
  | member-quoted cs ↦ chars ", "
  | member-coded n ↦ chars ", "
  | member-range a b ↦ chars ", "
  | member-class k ↦ chars ", "
  | set-end ↦ chars ", "
  | insert-quoted cs ↦ chars ", "
  | insert-coded n ↦ chars ", "
  | open-group ↦ chars ", "
  | close-group ↦ chars ", "
  | next-alternative ↦ chars ", "
  | to-option ↦ chars ", "
  | to-repeat0 ↦ chars ", "
  | to-repeat1 ↦ chars ", "
  | rule-head m n ↦ chars ", "
  | rule_end ↦ chars ", "
  | version-is k ↦ chars ", "
]

-- what stands before a token that is not the first of its list, and is followed by ts
abbrev pub before : Kind → List Token → Text
before opening ts = joint (past 1 ts)
before single ts = joint ts
before member ts = chars "; "
before closing ts = []
before heading ts = []
before other ts = []

-- a list begins after this token
abbrev pub begins : Kind → Bool
begins opening = true
begins heading = true
begins single = false
begins member = false
begins closing = false
begins other = false

-- the token itself
abbrev pub token_text : Token → Text
token_text (name m n) = mark_text m ++ n
token_text (quoted m cs) = mark_text m ++ chars_text (string cs)
token_text (coded m n) = mark_text m ++ chars_text (hex n)
token_text (include m) = mark_text m ++ chars "["
token_text (exclude m) = mark_text m ++ chars "~["
token_text (member-quoted cs) = chars_text (string cs)
token_text (member-coded n) = chars_text (hex n)
token_text (member-range a b) = member_text (range a b)
token_text (member-class k) = k
token_text set-end = chars "]"
token_text (insert-quoted cs) = chars "+" ++ chars_text (string cs)
token_text (insert-coded n) = chars "+" ++ chars_text (hex n)
token_text open-group = chars "("
token_text close-group = chars ")"
token_text next-alternative = chars "; "
token_text to-option = chars "?"
token_text to-repeat0 = chars "*"
token_text to-repeat1 = chars "+"
token_text to-repeat0sep = []
token_text to-repeat1sep = []
token_text (rule-head m n) = mark_text m ++ n ++ chars ": "
token_text rule_end = chars ".\n"
token_text (version-is k) = prolog_text (version k)

-- all that the tokens add; whether the first of them begins a list
abbrev pub scan : Bool → List Token → Text
scan first [] = []
scan first (t ∷ ts) = pick first [] (before (kind_of t) ts) ++ (token_text t ++ scan (begins (kind_of t)) ts)
