-- Tokens in a table, from a place on; lists of places in it; the rules over all tokens.
use Rattle.std.specs.Prelude.{Bool, true, ◌&&◌, ◌≡◌, List, [], ◌∷◌, ℕ, ◌+◌, ◌<◌, ◌≤◌, T, eqb, length, get_or, take, drop, set}
use Rattle.text.specs.Limits.{grammar_table}
use Rattle.text.specs.Lists.{Text, pick, any, all, repeats, concat_map}
use Rattle.tree.specs.Tokens.{Token, name, quoted, coded, include, exclude, member-quoted, member-coded, member-range, member-class}
use Rattle.tree.specs.Tokens.{set-end, insert-quoted, insert-coded, open-group, close-group, next-alternative, to-option, to-repeat0}
use Rattle.tree.specs.Tokens.{to-repeat1, to-repeat0sep, to-repeat1sep, rule-head, rule_end, version-is, encode}
use Rattle.tokens.specs.Lengths.{form_of, length_at}
use Rattle.tokens.specs.Names.{name_at, Named}
use Rattle.static_errors.specs.Held.{single, lettered}
use Rattle.static_errors.specs.Parts.{part, heads_in, failing}

-- as a tree of a text has it
abbrev pub sound : Token → Bool
sound (name m n) = true
sound (quoted m cs) = true
sound (coded m n) = true
sound (include m) = true
sound (exclude m) = true
sound (member-quoted cs) = true
sound (member-coded n) = true
sound (member-range a b) = single a && single b
sound (member-class k) = lettered k
sound set-end = true
sound (insert-quoted cs) = true
sound (insert-coded n) = true
sound open-group = true
sound close-group = true
sound next-alternative = true
sound to-option = true
sound to-repeat0 = true
sound to-repeat1 = true
sound to-repeat0sep = true
sound to-repeat1sep = true
sound (rule-head m n) = true
sound rule_end = true
sound (version-is cs) = true

-- from the place k up to the end of the tree the table holds these tokens
pub record Tokens (t : List ℕ) (end k : ℕ) (ts : List Token) : Type 0 where
  pub sound : T (all sound ts)
  pub low : k ≤ end
  pub high : end ≤ length t
  pub held : drop k (take end t) ≡ encode ts

-- tokens with characters stand at the places of a list
pub record Listing (t index : List ℕ) (n : ℕ) : Type 0 where
  pub few : n ≤ length index
  pub each : (i : ℕ) → i < n → Named t (get_or index i 0)

abbrev pub names_at : List ℕ → List ℕ → List Text
names_at t [] = []
names_at t (p ∷ ps) = name_at t p ∷ names_at t ps

pub record Finding (t : List ℕ) (a : ℕ) (index : List ℕ) (from n : ℕ) : Type 0 where
  pub name : Named t a
  pub listing : Listing t index n
  pub low : from ≤ n

-- a token at k, with a list
pub record Looking (t : List ℕ) (k : ℕ) (index : List ℕ) (n : ℕ) : Type 0 where
  pub fits : k + length_at t k ≤ length t
  pub listing : Listing t index n

pub record Noting (t : List ℕ) (k : ℕ) (index : List ℕ) (n : ℕ) : Type 0 where
  pub fits : k + length_at t k ≤ length t
  pub short : k < grammar_table
  pub room : n < length index
  pub following : n ≤ k

pub record Noted (t : List ℕ) (k : ℕ) (old : List ℕ) (n r : ℕ) (new : List ℕ) : Type 0 where
  pub count : r ≡ pick (eqb (form_of (get_or t k 0)) 1) (n + 1) n
  pub index : new ≡ pick (eqb (form_of (get_or t k 0)) 1) (set old n k) old

-- all tokens of a table
pub record Some (t : List ℕ) (end : ℕ) : Type 0 where
  pub tokens : List Token
  pub held : Tokens t end 0 tokens

pub record Indexing (t : List ℕ) (end : ℕ) (index : List ℕ) : Type 0 where
  pub some : Some t end
  pub short : end ≤ grammar_table
  pub room : end ≤ length index

-- the heads of rules
abbrev pub heads_of : List Token → List Text
heads_of ts = concat_map (λ x. heads_in (part x)) ts

pub record Indexed (t : List ℕ) (end n : ℕ) (index : List ℕ) : Type 0 where
  pub listing : Listing t index n
  pub heads : (ts : List Token) → Tokens t end 0 ts → names_at t (take n index) ≡ heads_of ts

pub record Scanning (t : List ℕ) (end : ℕ) (index : List ℕ) (n : ℕ) : Type 0 where
  pub some : Some t end
  pub listing : Listing t index n

-- a token breaks a rule, where hs are the heads; the first rule that is broken
abbrev pub fails : ℕ → List Text → Token → Bool
fails rule hs x = failing rule hs (part x)

unfoldable pub name_refusal : List Text → List Token → ℕ
name_refusal hs ts = pick (any (fails 5 hs) ts) 5 (pick (repeats hs) 6 0)

unfoldable pub code_refusal : List Text → List Token → ℕ
code_refusal hs ts = pick (any (fails 7 hs) ts) 7 (pick (any (fails 8 hs) ts) 8 (pick (any (fails 9 hs) ts) 9 (pick (any (fails 10 hs) ts) 10 0)))

unfoldable pub refusal_of : List Text → List Token → ℕ
refusal_of hs ts = pick (eqb (name_refusal hs ts) 0) (code_refusal hs ts) (name_refusal hs ts)
