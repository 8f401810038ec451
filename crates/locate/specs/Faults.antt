-- The first spot at fault, by what tokens have in a table.
use Rattle.std.specs.Prelude.{Bool, false, ◌≡◌, List, [], ℕ, ◌≤◌, eqb, ltb}
use Rattle.text.specs.Limits.{grammar_table}
use Rattle.text.specs.Lists.{Text, pick, any, same, concat_map}
use Rattle.tree.specs.Tree.{Grammar}
use Rattle.tree.specs.Tokens.{Token}
use Rattle.syntax.specs.Syntax.{Ixml}
use Rattle.plain.specs.Static.{beyond}
use Rattle.static_errors.specs.Parts.{Part, used, headed, code, between, classed, other, heads_in, end_codes, bad_code, failing}
use Rattle.static_errors.specs.Scan.{Looking, Scanning, Indexed}
use Rattle.places.specs.Place.{hexes_at, at_fault}
use Rattle.places.specs.Tokens.{token_parts, index}

-- how many spots a token has, by its first number
unfoldable pub spot_count : ℕ → ℕ
spot_count k = pick (eqb k 40) 3 (pick (eqb k 26) 2 (pick (ltb k 28) 1 (pick (eqb k 28) 0 (pick (ltb k 32) 1 0))))

-- 6, where these are the heads before
abbrev pub again : List Text → Part → Bool
again before p = any (λ n. any (same n) before) (heads_in p)

-- the token's part breaks the rule, where hs are all heads
unfoldable pub at_token : ℕ → List Text → List Text → Part → Bool
at_token rule hs before p = pick (eqb rule 6) (again before p) (failing rule hs p)

-- of the spots of a token at fault, the one: a range has two
abbrev pub second_of : ℕ → Part → ℕ
second_of rule p = elim p [ used n ↦ 0 | headed n ↦ 0 | code v ↦ 0 | between f v g w ↦ pick (any (bad_code rule) (end_codes f v)) 0 1 | classed k ↦ 0 | other ↦ 0 ]

unfoldable pub offset_of : ℕ → Part → ℕ
offset_of rule p = pick (ltb 8 rule) 0 (second_of rule p)

-- a token at k, with a list, of which the first are asked for
pub record Faulting (t : List ℕ) (k : ℕ) (list : List ℕ) (n before : ℕ) : Type 0 where
  pub looking : Looking t k list n
  pub few : before ≤ n

-- a rule is asked for, of tokens whose hex numbers 7 lets through if it comes later
pub record Fine (rule : ℕ) (ts : List Token) : Type 0 where
  pub low : 5 ≤ rule
  pub high : rule ≤ 10
  pub fine : 8 ≤ rule → any (ltb 0x10ffff) (concat_map hexes_at (concat_map token_parts ts)) ≡ false

pub record Searching (t : List ℕ) (end : ℕ) (list : List ℕ) (n : ℕ) : Type 0 where
  pub scanning : Scanning t end list n
  pub indexed : Indexed t end n list
  pub short : end ≤ grammar_table

pub record FaultAt (rule : ℕ) (hs : List Text) (ts : List Token) (r : ℕ) : Type 0 where
  pub is : Fine rule ts → r ≡ index (at_fault rule hs) [] (concat_map token_parts ts)

pub record Rated (rule : ℕ) (g : Grammar) : Type 0 where
  pub text : Text
  pub derived : Ixml text g
  pub low : 5 ≤ rule
  pub high : rule ≤ 10
  pub fine : 8 ≤ rule → beyond g ≡ false
