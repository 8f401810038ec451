-- The scan's questions are answered by a token's first number.
use mathlib.Core.Bool.{Bool, true, false}
use mathlib.Core.Path.{◌≡◌, refl, ap, ◌∙◌}
use mathlib.Core.List.{[], ◌∷◌, ◌++◌}
use Prim.Native.Nat.{ℕ, zero, suc, ◌+◌, ◌/◌, ◌%◌, ◌<◌, ◌≤◌}
use native.Mathlib.Omega.{arith}
use lib.Dec.{ltb}
use borrow.Author.Tests.{ltb-false, lt-ltb, le-ltb}
use Rattle.text.specs.Lists.{Text, chars}
use Rattle.tree.specs.Tree.{Mark, unmarked, included, attribute, deleted}
use Rattle.tree.specs.Tokens.{Token, name, quoted, coded, include, exclude, member-quoted, member-coded, member-range, member-class, set-end, insert-quoted, insert-coded}
use Rattle.tree.specs.Tokens.{open-group, close-group, next-alternative, to-option, to-repeat0, to-repeat1, to-repeat0sep, to-repeat1sep, rule-head, rule_end, version-is, mark_number}
use Rattle.tidy.specs.Tidy.{lower_digit, hex_digits, hex_text, mark_text}
use Rattle.tidy.specs.Scan.{single, opening, heading, kind_of, joint}
use Rattle.tidy.specs.Numbers.{kind_by, joint_by, sign_by, first_number, Numbered}

-- what holds of the four marks' numbers
by-mark : (P : ℕ → Type 0) → P 0 → P 1 → P 2 → P 3 → (m : Mark) → P (mark_number m)
by-mark P a b c d unmarked = a
by-mark P a b c d included = b
by-mark P a b c d attribute = c
by-mark P a b c d deleted = d

kinds : (t : Token) → kind_by (first_number t) ≡ kind_of t
unfolding kind_by
kinds (name m n) = by-mark (λ k. kind_by k ≡ single) refl refl refl refl m
kinds (quoted m cs) = by-mark (λ k. kind_by (4 + k) ≡ single) refl refl refl refl m
kinds (coded m n) = by-mark (λ k. kind_by (8 + k) ≡ single) refl refl refl refl m
kinds (include m) = by-mark (λ k. kind_by (12 + k) ≡ opening) refl refl refl refl m
kinds (exclude m) = by-mark (λ k. kind_by (16 + k) ≡ opening) refl refl refl refl m
kinds (rule-head m n) = by-mark (λ k. kind_by (20 + k) ≡ heading) refl refl refl refl m
kinds (member-quoted cs) = refl
kinds (member-coded n) = refl
kinds (member-range a b) = refl
kinds (member-class k) = refl
kinds set-end = refl
kinds (insert-quoted cs) = refl
kinds (insert-coded n) = refl
kinds open-group = refl
kinds close-group = refl
kinds next-alternative = refl
kinds to-option = refl
kinds to-repeat0 = refl
kinds to-repeat1 = refl
kinds to-repeat0sep = refl
kinds to-repeat1sep = refl
kinds rule_end = refl
kinds (version-is cs) = refl

joints : (t : Token) → joint_by (first_number t) ≡ joint (t ∷ [])
unfolding joint_by
joints (name m n) = by-mark (λ k. joint_by k ≡ chars ", ") refl refl refl refl m
joints (quoted m cs) = by-mark (λ k. joint_by (4 + k) ≡ chars ", ") refl refl refl refl m
joints (coded m n) = by-mark (λ k. joint_by (8 + k) ≡ chars ", ") refl refl refl refl m
joints (include m) = by-mark (λ k. joint_by (12 + k) ≡ chars ", ") refl refl refl refl m
joints (exclude m) = by-mark (λ k. joint_by (16 + k) ≡ chars ", ") refl refl refl refl m
joints (rule-head m n) = by-mark (λ k. joint_by (20 + k) ≡ chars ", ") refl refl refl refl m
joints (member-quoted cs) = refl
joints (member-coded n) = refl
joints (member-range a b) = refl
joints (member-class k) = refl
joints set-end = refl
joints (insert-quoted cs) = refl
joints (insert-coded n) = refl
joints open-group = refl
joints close-group = refl
joints next-alternative = refl
joints to-option = refl
joints to-repeat0 = refl
joints to-repeat1 = refl
joints to-repeat0sep = refl
joints to-repeat1sep = refl
joints rule_end = refl
joints (version-is cs) = refl

signs : (m : Mark) → sign_by (mark_number m) ≡ mark_text m
unfolding sign_by
signs unmarked = refl
signs included = refl
signs attribute = refl
signs deleted = refl

-- one digit, or what the last follows
abbrev Shown : Bool → ℕ → Text → Text
Shown b n ds = elim b as (λ _. Text) [ true ↦ lower_digit n ∷ [] | false ↦ ds ++ lower_digit (n % 16) ∷ [] ]

-- the bound on the digits does not matter, if it is above the number
enough : (k j n : ℕ) → n < k → n < j → hex_digits k n ≡ hex_digits j n
enough zero j n h l = absurd (omega arith)
enough (suc k) zero n h l = absurd (omega arith)
enough (suc k) (suc j) n h l = go (ltb n 16) refl (λ m. enough k j (n / 16) (omega arith) (omega arith))
  where
    go : (b : Bool) → ltb n 16 ≡ b → (16 ≤ n → hex_digits k (n / 16) ≡ hex_digits j (n / 16)) → Shown b n (hex_digits k (n / 16)) ≡ Shown b n (hex_digits j (n / 16))
    go true e f = refl
    go false e f = ap (λ (ds : Text). ds ++ lower_digit (n % 16) ∷ []) (f (ltb-false n 16 e))

one-digit : (n : ℕ) → n < 16 → hex_text n ≡ lower_digit n ∷ []
one-digit n h = ap (λ (b : Bool). Shown b n (hex_digits n (n / 16))) (lt-ltb n 16 h)

more-digits : (n : ℕ) → 16 ≤ n → hex_text n ≡ hex_text (n / 16) ++ lower_digit (n % 16) ∷ []
more-digits n h =
    ap (λ (b : Bool). Shown b n (hex_digits n (n / 16))) (le-ltb n 16 h)
    ∙ ap (λ (ds : Text). ds ++ lower_digit (n % 16) ∷ []) (enough n (suc (n / 16)) (n / 16) (omega arith) (omega arith))

pub numbered : Numbered
numbered = record { kinds = kinds; joints = joints; signs = signs; one_digit = one-digit; more_digits = more-digits }
