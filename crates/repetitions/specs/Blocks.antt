-- The rules that repetitions make, as blocks of items, and a block laid down in the table.
use Rattle.std.specs.Prelude.{List, [], ◌∷◌, ◌++◌, ◌≡◌, ℕ, ◌+◌, ◌*◌, ◌≤◌, eqb, length, get_or}
use Rattle.std.proofs.lemmas.List.Edits.{sets}
use Rattle.text.specs.Lists.{pick}

-- an item that has no place yet
pub record Entry : Type 0 where
  pub sort : ℕ
  pub target : ℕ
  pub token : ℕ

abbrev pub entry : ℕ → ℕ → ℕ → Entry
entry k t q = record { sort = k; target = t; token = q }

abbrev pub nums : Entry → List ℕ
nums e = e.sort ∷ e.target ∷ e.token ∷ []

abbrev pub entry_at : List ℕ → ℕ → Entry
entry_at T from = entry (get_or T from 0) (get_or T (from + 1) 0) (get_or T (from + 2) 0)

-- the made rules as blocks of items: f the entry of the operand, sep that of a separator, i the first item; an item for a made rule
-- keeps the token of its factor
abbrev pub both_ends : List ℕ
both_ends = 5 ∷ 0 ∷ 0 ∷ 6 ∷ 0 ∷ 0 ∷ []

abbrev pub once_block : Entry → ℕ → List ℕ
once_block f x = nums f ++ (4 ∷ x ∷ f.token ∷ 6 ∷ 0 ∷ 0 ∷ [])

abbrev pub option_block : Entry → List ℕ
option_block f = nums f ++ both_ends

abbrev pub star_block : Entry → ℕ → List ℕ
star_block f i = nums f ++ (4 ∷ i ∷ f.token ∷ both_ends)

abbrev pub rest_block : Entry → Entry → ℕ → List ℕ
rest_block f sep i = nums sep ++ star_block f i

abbrev pub list_block : Entry → Entry → ℕ → List ℕ
list_block f sep i = rest_block f sep i ++ once_block f i

-- by the operator's token: the block, its items, and where in it the operator's own rule begins
unfoldable pub one_block : ℕ → Entry → ℕ → List ℕ
one_block k f i = pick (eqb k 34) (option_block f) (pick (eqb k 35) (star_block f i) (star_block f i ++ once_block f i))

unfoldable pub one_count : ℕ → ℕ
one_count k = pick (eqb k 34) 3 (pick (eqb k 35) 4 7)

unfoldable pub one_first : ℕ → ℕ
one_first k = pick (eqb k 34) 0 (pick (eqb k 35) 0 4)

unfoldable pub two_block : ℕ → Entry → Entry → ℕ → List ℕ
two_block k f sep i = pick (eqb k 38) (list_block f sep i) (list_block f sep i ++ (4 ∷ (i + 5) ∷ f.token ∷ both_ends))

unfoldable pub two_count : ℕ → ℕ
two_count k = pick (eqb k 38) 8 11

unfoldable pub two_first : ℕ → ℕ
two_first k = pick (eqb k 38) 5 8

-- xs as items from i on
abbrev pub laid : List ℕ → ℕ → List ℕ → List ℕ
laid T i xs = sets T (12288 + 3 * i) xs

pub record Room (T : List ℕ) (i k : ℕ) : Type 0 where
  pub size : length T ≡ 16384
  pub fits : i + k ≤ 512

pub record Source (T : List ℕ) (i k from w : ℕ) : Type 0 where
  pub room : Room T i k
  pub low : 14848 ≤ from
  pub high : from + w ≤ 16384

-- the kind of a name's item, by the first numbers of the name and of its rule's head
unfoldable pub kind_by : ℕ → ℕ → ℕ
kind_by used head = pick (eqb used 3) 4 (pick (eqb used 2) 3 (pick (eqb used 1) 2 (pick (eqb head 23) 4 (pick (eqb head 22) 3 2))))
