-- What reading a word answers: the definition's answer on the text from the place on, and what the table holds.
use Rattle.std.specs.Prelude.{Bool, true, false, ◌&&◌, ◌≡◌, List, [], ◌∷◌, ◌++◌, ℕ, ◌+◌, ◌<◌, ◌≤◌, length, take, drop, set, Option, Some, None}
use Rattle.text.specs.Lists.{Text}
use Rattle.text.specs.declared.CharPlace.{CharPlace}
use Rattle.tree.specs.Tree.{Mark, Chars, string, hex}
use Rattle.tree.specs.Tokens.{mark_number, capped, counted}
use Rattle.syntax.specs.Syntax.{namestart}
use Rattle.syntax.specs.Result.{Result, ok, fail, map, hd}
use Rattle.syntax.specs.Spacing.{skip}
use Rattle.syntax.specs.Lexical.{read-chars, read-mark, run, ending, last-dot}
use Rattle.lexical.specs.declared.Characters.{Characters}
use Rattle.lexical.specs.declared.Characters.TheVariants.{Quoted, Coded}
use Rattle.spacing.specs.declared.Cell.{Cell}
use Rattle.spacing.specs.Answers.{Step, Onward, After, headed}

-- the table has room for the characters from p on, if there are any, less n of them
pub record Space (s : Text) (p n : ℕ) (o : List ℕ) (at : ℕ) : Type 0 where
  pub place : p ≤ length s
  pub cells : p < length s → at + length s ≤ length o + p + n

-- Characters that were read from p to q, n of them not kept, and written from at to b.
pub record Copied (E : Result Text → Type 0) (s : Text) (p n : ℕ) (o : List ℕ) (at : ℕ) (o' : List ℕ) (q b : ℕ) : Type 0 where
  pub chars : Text
  pub same : E (ok chars (drop q s))
  pub onward : Onward s p q
  pub wrote : take b o' ≡ take at o ++ chars
  pub cells : b ≡ at + length chars
  pub count : b + p + n ≤ at + q

abbrev pub After-copy : (Result Text → Type 0) → Text → ℕ → ℕ → List ℕ → ℕ → Step → List ℕ → Type 0
After-copy E s p n o at (Some (q, b)) o' = Copied E s p n o at o' q.0 b.0
After-copy E s p n o at None o' = E fail

-- the characters of a name that begins at p, from the second cell after at on
pub record Named (s : Text) (p : ℕ) (o : List ℕ) (at : ℕ) (o' : List ℕ) (q b : ℕ) : Type 0 where
  pub starts : namestart (hd (drop p s)) ≡ true
  pub copied : Copied (λ x. run (drop p s) ≡ x) s p 0 o (at + 2) o' q b

abbrev pub After-run : Text → ℕ → List ℕ → ℕ → Step → List ℕ → Type 0
After-run s p o at (Some (q, b)) o' = Named s p o at o' q.0 b.0
After-run s p o at None o' = namestart (hd (drop p s)) ≡ false

-- a hex number read from p to q
pub record Hexed (E : Result ℕ → Type 0) (s : Text) (p q v : ℕ) : Type 0 where
  pub value : ℕ
  pub same : E (ok value (drop q s))
  pub onward : Onward s p q
  pub held : v ≡ capped value

abbrev pub After-number : (Result ℕ → Type 0) → Text → ℕ → Option (CharPlace × ℕ) → Type 0
After-number E s p (Some (q, v)) = Hexed E s p q.0 v
After-number E s p None = E fail

-- characters: a string is copied to the table, of a hex number nothing
pub record Coding (s : Text) (p q v : ℕ) (o o' : List ℕ) : Type 0 where
  pub number : Hexed (λ x. read-chars (drop p s) ≡ map hex x) s (p + 1) q v
  pub same : o' ≡ o

abbrev pub After-chars : Text → ℕ → List ℕ → ℕ → Option Characters → List ℕ → Type 0
After-chars s p o at (Some (Quoted q b)) o' = Copied (λ x. read-chars (drop p s) ≡ map string x) s p 2 o at o' q.0 b.0
After-chars s p o at (Some (Coded q v)) o' = Coding s p q.0 v o o'
After-chars s p o at None o' = read-chars (drop p s) ≡ fail

-- a token of characters: a string of the kind a, a hex number of the kind b
abbrev pub chars_code : ℕ → ℕ → Chars → List ℕ
chars_code a b (string cs) = a ∷ counted cs
chars_code a b (hex n) = b ∷ capped n ∷ []

pub record Headable (o : List ℕ) (at b : ℕ) : Type 0 where
  pub low : at + 2 ≤ b
  pub high : b ≤ length o
  pub few : length o < 4294967296

-- room for the head of a token, or an end of a range, of given characters
abbrev pub Tokenable : Characters → List ℕ → ℕ → Type 0
Tokenable (Quoted q b) o at = Headable o at b.0
Tokenable (Coded q v) o at = at + 2 ≤ length o

-- what was written ends at the place x and the cell y, and the table is this one
pub record Written (q : CharPlace) (b : Cell) (x y : ℕ) (o' o : List ℕ) : Type 0 where
  pub place : q.0 ≡ x
  pub cell : b.0 ≡ y
  pub table : o' ≡ o

abbrev pub Chars-token : Characters → ℕ → ℕ → List ℕ → ℕ → CharPlace × Cell → List ℕ → Type 0
Chars-token (Quoted q e) a b o at r o' = Written r.0 r.1 q.0 e.0 o' (headed o at a e.0)
Chars-token (Coded q v) a b o at r o' = Written r.0 r.1 q.0 (at + 2) o' (set (set o at b) (at + 1) v)

-- The same where there may be no characters: then there is no token, and no cell is written.
abbrev pub Tokenable-if : Option Characters → List ℕ → ℕ → Type 0
Tokenable-if (Some c) o at = Tokenable c o at
Tokenable-if None o at = Unit {0}

abbrev pub Chars-token-if : Option Characters → ℕ → ℕ → List ℕ → ℕ → Step → List ℕ → Type 0
Chars-token-if (Some c) a b o at (Some r) o' = Chars-token c a b o at r o'
Chars-token-if (Some c) a b o at None o' = ⊥
Chars-token-if None a b o at r o' = (r ≡ None) × (o' ≡ o)

-- A name or a string as a token of the kind k.
abbrev pub counted_code : ℕ → Text → List ℕ
counted_code k cs = k ∷ counted cs

abbrev pub After-name : (Text → Result Text) → ℕ → Text → ℕ → List ℕ → ℕ → Step → List ℕ → Type 0
After-name f k s p o at r o' = After (λ x. f (drop p s) ≡ x) (counted_code k) s p (p + 1) o at r o'

abbrev pub After-chars-token : ℕ → ℕ → Text → ℕ → List ℕ → ℕ → Step → List ℕ → Type 0
After-chars-token a b s p o at r o' = After (λ x. read-chars (drop p s) ≡ x) (chars_code a b) s p (p + 1) o at r o'

-- Marks.
pub record Mark-read (s : Text) (p q m : ℕ) : Type 0 where
  pub value : Mark
  pub same : read-mark (drop p s) ≡ ok value (drop q s)
  pub onward : Onward s p q
  pub number : m ≡ mark_number value

abbrev pub After-mark : Text → ℕ → Option (CharPlace × ℕ) → Type 0
After-mark s p (Some (q, m)) = Mark-read s p q.0 m
After-mark s p None = read-mark (drop p s) ≡ fail

-- a name from p to q ends with the full stop of its rule
abbrev pub Stops : Text → ℕ → ℕ → Bool → Type 0
Stops s p q r = (cs : Text) → run (drop (p + 1) s) ≡ ok cs (drop q s) → q ≡ p + 1 + length cs → r ≡ (last-dot cs && ending (skip (drop q s)))
