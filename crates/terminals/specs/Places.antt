-- Terminals and members at places of the table, and what their numbers say.
use Rattle.std.specs.Prelude.{Bool, true, false, not, ◌&&◌, List, [], ◌∷◌, ◌++◌, ◌≡◌, ℕ, ◌+◌, ◌<◌, ◌≤◌, ltb, leb, eqb, length, get_or, take, drop}
use Rattle.text.specs.Limits.{grammar_table, record_chars}
use Rattle.text.specs.Lists.{Text, pick, begins, among}
use Rattle.category.specs.Category.{classes, in_class, letters, place}
use Rattle.tree.specs.Tree.{Member, Terminal}
use Rattle.tree.specs.Tokens.{encode, member_tokens, terminal_tokens}
use Rattle.terminals.specs.Sound.{SoundMembers, SoundTerminal}

-- by the numbers of a member's token: whether it matches a character
unfoldable pub match_of : List ℕ → ℕ → Bool
match_of xs c =
    pick (eqb (get_or xs 0 0) 24) (among c (take (get_or xs 1 0) (drop 2 xs)))
    (pick (eqb (get_or xs 0 0) 25) (eqb c (get_or xs 1 0))
    (pick (eqb (get_or xs 0 0) 26) (leb (get_or xs 2 0) c && leb c (get_or xs 4 0))
    (in_class (letters (get_or xs 1 0) (get_or xs 2 0)) c)))

-- the numbers that a member's token reaches to are there, and its class is
pub record MemberShape (xs : List ℕ) : Type 0 where
  pub some : 0 < length xs
  pub low : 24 ≤ get_or xs 0 0
  pub known : get_or xs 0 0 < 28
  pub counted : get_or xs 0 0 ≡ 24 → 2 + get_or xs 1 0 ≤ length xs
  pub coded : get_or xs 0 0 ≡ 25 → 2 ≤ length xs
  pub ranged : get_or xs 0 0 ≡ 26 → 5 ≤ length xs
  pub classed : 26 < get_or xs 0 0 → 3 ≤ length xs
  pub class : 26 < get_or xs 0 0 → place classes (letters (get_or xs 1 0) (get_or xs 2 0)) < 38

pub record MemberHere (T : List ℕ) (at : ℕ) : Type 0 where
  pub small : length T ≤ grammar_table
  pub shape : MemberShape (drop at T)

-- members from a place on; a terminal at a place
pub record MembersAt (T : List ℕ) (at : ℕ) (ms : List Member) : Type 0 where
  pub more : List ℕ
  pub stands : drop at T ≡ encode (member_tokens ms) ++ more
  pub sound : SoundMembers ms

pub record MembersHere (T : List ℕ) (at : ℕ) : Type 0 where
  pub small : length T ≤ grammar_table
  pub members : List Member
  pub are : MembersAt T at members

pub record TerminalAt (T : List ℕ) (at : ℕ) (x : Terminal) : Type 0 where
  pub more : List ℕ
  pub stands : drop at T ≡ encode (terminal_tokens x) ++ more
  pub sound : SoundTerminal x

pub record TerminalHere (T : List ℕ) (at : ℕ) : Type 0 where
  pub terminal : Terminal
  pub is : TerminalAt T at terminal

-- by the numbers of a terminal's token: whether it fits a text, of whose first character `found` says that a member matches it
unfoldable pub fits_of : List ℕ → Bool → Text → Bool
fits_of xs found t =
    pick (ltb (get_or xs 0 0) 8) (begins (take (get_or xs 1 0) (drop 2 xs)) t)
    (pick (leb 20 (get_or xs 0 0)) true
    (elim t [ [] ↦ false | c ∷ u ↦ pick (ltb (get_or xs 0 0) 12) (eqb (get_or xs 1 0) c) (pick (ltb (get_or xs 0 0) 16) found (not found)) ]))

-- a stretch of the table, a terminal of it, and a place of the record
pub record Stretch (T : List ℕ) (at n : ℕ) : Type 0 where
  pub small : length T ≤ grammar_table
  pub inside : at + n ≤ length T

pub record Beside (T : List ℕ) (at n : ℕ) (R : Text) (i : ℕ) : Type 0 where
  pub small : length T ≤ grammar_table
  pub inside : at + n ≤ length T
  pub short : length R ≤ record_chars
  pub on : i ≤ length R

pub record Testing (T : List ℕ) (at : ℕ) (R : Text) (i : ℕ) : Type 0 where
  pub small : length T ≤ grammar_table
  pub short : length R ≤ record_chars
  pub here : TerminalHere T at
  pub on : i ≤ length R

pub record Looking (T : List ℕ) (at : ℕ) : Type 0 where
  pub small : length T ≤ grammar_table
  pub here : TerminalHere T at
