-- What reading a set answers: the definition's answer on the text from the place on, and what the table holds.
use Rattle.std.specs.Prelude.{◌≡◌, List, [], ◌∷◌, ◌++◌, ℕ, suc, ◌+◌, ◌<◌, ◌≤◌, length, drop, set, Some, None}
use Rattle.text.specs.Lists.{Text}
use Rattle.tree.specs.Tree.{Chars, Member}
use Rattle.tree.specs.Tokens.{end_numbers, class_numbers, member_token, member_tokens, numbers, encode}
use Rattle.syntax.specs.Syntax.{ch}
use Rattle.syntax.specs.Result.{Result, then, expect}
use Rattle.syntax.specs.Spacing.{skip, spaced}
use Rattle.syntax.specs.Lexical.{read-character, read-class, read-member, members, read_set}
use Rattle.lexical.specs.declared.Characters.{Characters}
use Rattle.lexical.specs.declared.Characters.TheVariants.{Quoted, Coded}
use Rattle.spacing.specs.Answers.{Past, Step, After, After-skip}
use Rattle.lexical.specs.Answers.{Written}

-- an end of a range is one character, whose place is after at, or a hex number
abbrev pub Range-end : Characters → List ℕ → ℕ → Step → List ℕ → Type 0
Range-end (Quoted q e) o at (Some (x, b)) o' = Written x b q.0 e.0 o' (set o at 0) × (e.0 ≡ at + 2)
Range-end (Quoted q e) o at None o' = e.0 ≡ at + 2 → ⊥
Range-end (Coded q v) o at (Some (x, b)) o' = Written x b q.0 (at + 2) o' (set (set o at 1) (at + 1) v)
Range-end (Coded q v) o at None o' = ⊥

abbrev pub Chars-in : Text → Characters → Type 0
Chars-in s (Quoted q b) = q.0 ≤ length s
Chars-in s (Coded q v) = q.0 ≤ length s

abbrev pub Past-chars : Text → Characters → Past → Type 0
Past-chars s (Quoted q b) r = After-skip s q.0 r
Past-chars s (Coded q v) r = After-skip s q.0 r

abbrev pub After-class : Text → ℕ → List ℕ → ℕ → Step → List ℕ → Type 0
After-class s p o at r o' = After (λ x. read-class (drop p s) ≡ x) (λ k. 27 ∷ class_numbers k) s p (p + 1) o at r o'

-- the second end of a range, after the hyphen
unfoldable pub range-to : Text → Result Chars
range-to t = then (skip t) (λ _ u. then (read-character u) (λ e w. spaced e w))

abbrev pub After-rest : Text → ℕ → List ℕ → ℕ → Step → List ℕ → Type 0
After-rest s p o at r o' = After (λ x. range-to (drop (p + 1) s) ≡ x) end_numbers s p (p + 1) o at r o'

-- members and the bracket after them
unfoldable pub filled : Text → Result (List Member)
filled t = then (members (suc (length t)) t) (λ ms w. expect (ch 0x5d) w (λ x. spaced ms x))

abbrev pub After-filled : Text → ℕ → List ℕ → ℕ → Step → List ℕ → Type 0
After-filled s p o at r o' = After (λ x. filled (drop p s) ≡ x) (λ ms. encode (member_tokens ms)) s p (p + 1) o at r o'

abbrev pub member_code : Member → List ℕ
member_code m = numbers (member_token m)

abbrev pub members_code : List Member → List ℕ
members_code [] = []
members_code (m ∷ ms) = member_code m ++ members_code ms

abbrev pub After-member : Text → ℕ → List ℕ → ℕ → Step → List ℕ → Type 0
After-member s p o at r o' = After (λ x. read-member (drop p s) ≡ x) member_code s p (p + 1) o at r o'

abbrev pub Members= : Text → Result (List Member) → Type 0
Members= t x = (n : ℕ) → length t < n → members n t ≡ x

abbrev pub After-members : Text → ℕ → List ℕ → ℕ → Step → List ℕ → Type 0
After-members s p o at r o' = After (λ x. Members= (drop p s) x) members_code s p (p + 1) o at r o'

-- a set whose opening bracket is written as k
abbrev pub After-set : ℕ → Text → ℕ → List ℕ → ℕ → Step → List ℕ → Type 0
After-set k s p o at r o' = After (λ x. read_set (drop p s) ≡ x) (λ ms. k ∷ encode (member_tokens ms)) s p (p + 1) o at r o'
