-- Tokens by their numbers: the form of a token, and how many numbers it takes.
use Rattle.std.specs.Prelude.{List, [], ◌∷◌, ◌++◌, ◌≡◌, ℕ, ◌+◌, ltb, eqb, get_or, take, drop}
use Rattle.text.specs.Lists.{pick}
use Rattle.tree.specs.Tree.{Grammar, rules}
use Rattle.tree.specs.Tokens.{Token, name, quoted, coded, include, exclude, member-quoted, member-coded, member-range, member-class, set-end, insert-quoted, insert-coded}
use Rattle.tree.specs.Tokens.{open-group, close-group, next-alternative, to-option, to-repeat0, to-repeat1, to-repeat0sep, to-repeat1sep}
use Rattle.tree.specs.Tokens.{rule-head, rule_end, version-is, numbers, encode, grammar_tokens}
use Rattle.tokens.specs.Proper.{ProperEnd, ProperRules}
use Rattle.tokens.specs.declared.Form.{Form}
use Rattle.tokens.specs.declared.Form.TheVariants as form

-- The form of a token by its first number: 0 a name, 1 a rule's head, 2 another with characters, 3 a hex number, 4 a range,
-- 5 a class, 6 a token of one number.
unfoldable pub late_form : ℕ → ℕ
late_form n = pick (eqb n 24) 2 (pick (eqb n 25) 3 (pick (eqb n 26) 4 (pick (eqb n 27) 5 (pick (eqb n 29) 2 (pick (eqb n 30) 3 (pick (eqb n 40) 2 6))))))

unfoldable pub form_of : ℕ → ℕ
form_of n = pick (ltb n 4) 0 (pick (ltb n 8) 2 (pick (ltb n 12) 3 (pick (ltb n 20) 6 (pick (ltb n 24) 1 (late_form n)))))

abbrev pub form_number : Form → ℕ
form_number form.Name = 0
form_number form.Head = 1
form_number form.Text = 2
form_number form.Code = 3
form_number form.Range = 4
form_number form.Class = 5
form_number form.Bare = 6

-- how many numbers a token of a form takes; the count of its characters
unfoldable pub length_of : ℕ → ℕ → ℕ
length_of f count = pick (ltb f 3) (count + 2) (pick (eqb f 3) 2 (pick (eqb f 4) 5 (pick (eqb f 5) 3 1)))

-- of the token at the place k of a table
abbrev pub length_at : List ℕ → ℕ → ℕ
length_at T k = length_of (form_of (get_or T k 0)) (get_or T (k + 1) 0)

abbrev pub first_number : Token → ℕ
first_number t = get_or (numbers t) 0 0

-- by the first two numbers of a terminal's token: how many characters of a record it takes
unfoldable pub terminal_width : ℕ → ℕ → ℕ
terminal_width kind count = pick (ltb kind 8) count (pick (ltb kind 20) 1 0)

abbrev pub width_at : List ℕ → ℕ → ℕ
width_at T k = terminal_width (get_or T k 0) (get_or T (k + 1) 0)

-- a token whose numbers say how many they are
abbrev pub Told : Token → Type 0
Told (member-range a b) = ProperEnd a × ProperEnd b
Told (name m n) = Unit {0}
Told (quoted m cs) = Unit {0}
Told (coded m n) = Unit {0}
Told (include m) = Unit {0}
Told (exclude m) = Unit {0}
Told (member-quoted cs) = Unit {0}
Told (member-coded n) = Unit {0}
Told (member-class k) = Unit {0}
Told set-end = Unit {0}
Told (insert-quoted cs) = Unit {0}
Told (insert-coded n) = Unit {0}
Told open-group = Unit {0}
Told close-group = Unit {0}
Told next-alternative = Unit {0}
Told to-option = Unit {0}
Told to-repeat0 = Unit {0}
Told to-repeat1 = Unit {0}
Told to-repeat0sep = Unit {0}
Told to-repeat1sep = Unit {0}
Told (rule-head m n) = Unit {0}
Told rule_end = Unit {0}
Told (version-is cs) = Unit {0}

abbrev pub AllTold : List Token → Type 0
AllTold [] = Unit {0}
AllTold (t ∷ ts) = Told t × AllTold ts

-- a token stands at a place
pub record TokenAt (T : List ℕ) (at : ℕ) (t : Token) : Type 0 where
  pub more : List ℕ
  pub stands : drop at T ≡ numbers t ++ more

-- the first numbers of the table, as many as `end` says, are the tokens of a tree
pub record Holds (table : List ℕ) (end : ℕ) (g : Grammar) : Type 0 where
  pub proper : ProperRules (rules g)
  pub stands : take end table ≡ encode (grammar_tokens g)

-- the tokens that are left at a place
pub record Left (T : List ℕ) (end at : ℕ) (ts : List Token) : Type 0 where
  pub told : AllTold ts
  pub stands : drop at (take end T) ≡ encode ts
