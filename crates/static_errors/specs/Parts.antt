-- What a token's numbers say of names, codes and classes, and the rules at one token.
use Rattle.std.specs.Prelude.{Bool, false, not, ◌||◌, List, [], ◌∷◌, ◌++◌, ℕ, ◌+◌, ltb, eqb, get_or}
use Rattle.text.specs.Lists.{Text, pick, any, same}
use Rattle.category.specs.Category.{is_class, letters}
use Rattle.tree.specs.Tree.{Chars, string, hex}
use Rattle.tree.specs.Tokens.{Token, name, quoted, coded, include, exclude, member-quoted, member-coded, member-range, member-class}
use Rattle.tree.specs.Tokens.{set-end, insert-quoted, insert-coded, open-group, close-group, next-alternative, to-option, to-repeat0}
use Rattle.tree.specs.Tokens.{to-repeat1, to-repeat0sep, to-repeat1sep, rule-head, rule_end, version-is, capped}
use Rattle.tokens.specs.Lengths.{form_of}
use Rattle.tokens.specs.Names.{name_at}
use Rattle.plain.specs.Static.{unassignable}

-- a name used, a rule's head, a hex number, a range, a class; of each end of a range, 1 where it is a hex number, and its code
pub data Part : Type 0 where
  used headed : Text → Part
  code : ℕ → Part
  between : ℕ → ℕ → ℕ → ℕ → Part
  classed : Text → Part
  other : Part

-- by the form of a token
unfoldable pub part_of : ℕ → Text → ℕ → ℕ → ℕ → ℕ → Part
part_of s n v w x y =
    pick (eqb s 0) (used n)
    (pick (eqb s 1) (headed n)
    (pick (eqb s 3) (code v)
    (pick (eqb s 4) (between v w x y)
    (pick (eqb s 5) (classed (letters v w)) other))))

-- the part of the token at the place k of a table
abbrev pub part_at : List ℕ → ℕ → Part
part_at t k = part_of (form_of (get_or t k 0)) (name_at t k) (get_or t (k + 1) 0) (get_or t (k + 2) 0) (get_or t (k + 3) 0) (get_or t (k + 4) 0)

-- the part that a token has
abbrev pub end_flag : Chars → ℕ
end_flag (string cs) = 0
end_flag (hex n) = 1

abbrev pub end_code : Chars → ℕ
end_code (string cs) = get_or cs 0 0
end_code (hex n) = capped n

abbrev pub part : Token → Part
part (name m n) = used n
part (quoted m cs) = other
part (coded m n) = code (capped n)
part (include m) = other
part (exclude m) = other
part (member-quoted cs) = other
part (member-coded n) = code (capped n)
part (member-range a b) = between (end_flag a) (end_code a) (end_flag b) (end_code b)
part (member-class k) = classed k
part set-end = other
part (insert-quoted cs) = other
part (insert-coded n) = code (capped n)
part open-group = other
part close-group = other
part next-alternative = other
part to-option = other
part to-repeat0 = other
part to-repeat1 = other
part to-repeat0sep = other
part to-repeat1sep = other
part (rule-head m n) = headed n
part rule_end = other
part (version-is cs) = other

-- what stands in a part
abbrev pub used_in : Part → List Text
used_in p = elim p [ used n ↦ n ∷ [] | headed n ↦ [] | code v ↦ [] | between f v g w ↦ [] | classed k ↦ [] | other ↦ [] ]

abbrev pub heads_in : Part → List Text
heads_in p = elim p [ used n ↦ [] | headed n ↦ n ∷ [] | code v ↦ [] | between f v g w ↦ [] | classed k ↦ [] | other ↦ [] ]

abbrev pub end_codes : ℕ → ℕ → List ℕ
end_codes f v = pick (eqb f 1) (v ∷ []) []

abbrev pub codes_in : Part → List ℕ
codes_in p = elim p [ used n ↦ [] | headed n ↦ [] | code v ↦ v ∷ [] | between f v g w ↦ end_codes f v ++ end_codes g w | classed k ↦ [] | other ↦ [] ]

-- 5, where hs are the heads; 7 and 8; 9; 10
abbrev pub lacking : List Text → Part → Bool
lacking hs p = any (λ n. not (any (same n) hs)) (used_in p)

unfoldable pub bad_code : ℕ → ℕ → Bool
bad_code rule v = pick (eqb rule 7) (ltb 0x10ffff v) (unassignable v)

abbrev pub bad_codes : ℕ → Part → Bool
bad_codes rule p = any (bad_code rule) (codes_in p)

abbrev pub backward : Part → Bool
backward p = elim p [ used n ↦ false | headed n ↦ false | code v ↦ false | between f v g w ↦ ltb w v | classed k ↦ false | other ↦ false ]

abbrev pub classless : Part → Bool
classless p = elim p [ used n ↦ false | headed n ↦ false | code v ↦ false | between f v g w ↦ false | classed k ↦ not (is_class k) | other ↦ false ]

-- any of them, which has the number 0
abbrev pub faulty : List Text → Part → Bool
faulty hs p = lacking hs p || (bad_codes 7 p || (bad_codes 8 p || (backward p || classless p)))

unfoldable pub failing : ℕ → List Text → Part → Bool
failing rule hs p =
    pick (eqb rule 5) (lacking hs p)
    (pick (eqb rule 9) (backward p)
    (pick (eqb rule 10) (classless p)
    (pick (eqb rule 0) (faulty hs p)
    (bad_codes rule p))))
