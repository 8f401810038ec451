-- What the scan asks of a token, by its first number in the grammar table.
use Rattle.std.specs.Prelude.{◌≡◌, [], ◌∷◌, ◌++◌, ℕ, ◌/◌, ◌%◌, ◌<◌, ◌≤◌, ltb, eqb, get_or}
use Rattle.text.specs.Lists.{Text, chars, pick}
use Rattle.tree.specs.Tree.{Mark}
use Rattle.tree.specs.Tokens.{Token, numbers, mark_number}
use Rattle.tidy.specs.Tidy.{lower_digit, hex_text, mark_text}
use Rattle.tidy.specs.Scan.{Kind, opening, single, member, closing, heading, other, kind_of, joint}

-- 12 to 19 a set, 20 to 23 a rule's head, 24 to 27 a member, 28 a set's end, 29 and 30 an insertion, 31 to 33 brackets and `;`
unfoldable pub kind_by : ℕ → Kind
kind_by k =
    pick (ltb k 12) single (pick (ltb k 20) opening (pick (ltb k 24) heading (pick (ltb k 28) member (pick (ltb k 29) closing
    (pick (ltb k 31) single (pick (ltb k 32) opening (pick (ltb k 33) closing (pick (ltb k 34) heading other))))))))

-- what joins two factors, by the token behind the second
unfoldable pub joint_by : ℕ → Text
joint_by k = pick (eqb k 37) (chars "**") (pick (eqb k 38) (chars "++") (chars ", "))

unfoldable pub sign_by : ℕ → Text
sign_by k = pick (eqb k 1) (chars "^") (pick (eqb k 2) (chars "@") (pick (eqb k 3) (chars "-") []))

abbrev pub first_number : Token → ℕ
first_number t = get_or (numbers t) 0 0

pub record Numbered : Type 0 where
  pub kinds : (t : Token) → kind_by (first_number t) ≡ kind_of t
  pub joints : (t : Token) → joint_by (first_number t) ≡ joint (t ∷ [])
  pub signs : (m : Mark) → sign_by (mark_number m) ≡ mark_text m
  -- a number's digits, the last one apart
  pub one_digit : (n : ℕ) → n < 16 → hex_text n ≡ lower_digit n ∷ []
  pub more_digits : (n : ℕ) → 16 ≤ n → hex_text n ≡ hex_text (n / 16) ++ lower_digit (n % 16) ∷ []
