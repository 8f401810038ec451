-- The places computed: the parts of the tokens beside the spots that the scan finds.
use Rattle.std.specs.Prelude.{Bool, true, false, List, [], ◌∷◌, ℕ, suc, ◌-◌, length, get_or}
use Rattle.text.specs.Lists.{Text, concat_map}
use Rattle.tree.specs.Tree.{Chars, string, hex, Member, chars, range, class, Grammar}
use Rattle.tree.specs.Tokens.{Token, name, quoted, coded, include, exclude, member-quoted, member-coded, member-range, member-class, set-end, insert-quoted, insert-coded}
use Rattle.tree.specs.Tokens.{open-group, close-group, next-alternative, to-option, to-repeat0, to-repeat1, to-repeat0sep, to-repeat1sep, rule-head, rule_end, version-is, grammar_tokens}
use Rattle.plain.specs.Written.{heads}
use Rattle.syntax.specs.Parser.{Parsed, parsed, no-parse, parse}
use Rattle.places.specs.Spots.{Part, used, headed, spelt, member, to, other}
use Rattle.places.specs.Place.{at_fault}
use Rattle.places.specs.Scan.{between, lefts}

abbrev pub token_parts : Token → List Part
token_parts (name m n) = used n ∷ []
token_parts (quoted m cs) = spelt (string cs) ∷ []
token_parts (coded m n) = spelt (hex n) ∷ []
token_parts (include m) = other ∷ []
token_parts (exclude m) = other ∷ []
token_parts (member-quoted cs) = member (chars (string cs)) ∷ []
token_parts (member-coded n) = member (chars (hex n)) ∷ []
token_parts (member-range a b) = member (range a b) ∷ to b ∷ []
token_parts (member-class k) = member (class k) ∷ []
token_parts set-end = []
token_parts (insert-quoted cs) = spelt (string cs) ∷ []
token_parts (insert-coded n) = spelt (hex n) ∷ []
token_parts open-group = other ∷ []
token_parts close-group = []
token_parts next-alternative = []
token_parts to-option = []
token_parts to-repeat0 = []
token_parts to-repeat1 = []
token_parts to-repeat0sep = []
token_parts to-repeat1sep = []
token_parts (rule-head m n) = headed n ∷ []
token_parts rule_end = []
token_parts (version-is cs) = other ∷ other ∷ other ∷ []

abbrev pub parts : Grammar → List Part
parts g = concat_map token_parts (grammar_tokens g)

-- the number of the first part at fault
abbrev pub index : (List Part → Part → Bool) → List Part → List Part → ℕ
index f before [] = 0
index f before (x ∷ xs) = elim (f before x) as (λ _. ℕ) [ true ↦ 0 | false ↦ suc (index f (x ∷ before) xs) ]

abbrev pub fault_index : ℕ → Grammar → ℕ
fault_index n g = index (at_fault n (heads g)) [] (parts g)

abbrev pub on_tree : Parsed → (Grammar → ℕ) → ℕ
on_tree (parsed g) f = f g
on_tree no-parse f = 0

unfoldable pub place_of : ℕ → Text → ℕ
place_of n t = on_tree (parse t) (λ g. length t - get_or (lefts between t) (fault_index n g) 0)
