-- The answers of the calls: the table of refusals in its order, and what a call leaves in its answer and its buffer.
use Rattle.std.specs.Prelude.{Bool, true, false, not, ◌&&◌, ◌||◌, ◌≡◌, ◌⊎◌, ◌↔◌, List, [], ◌∷◌, ◌++◌, ℕ, ◌+◌, ◌*◌, ◌/◌, ◌<◌, T, length, drop}
use Rattle.text.specs.Limits.{grammar_bytes, most_size, record_chars, grammar_table, reading_numbers}
use Rattle.text.specs.Lists.{Text, all}
use Rattle.text.specs.Utf8.{Utf8, unmarked, known}
use Rattle.text.specs.Faults.{every, Breaks, after_mark}
use Rattle.category.specs.Category.{category_number}
use Rattle.tree.specs.Tree.{Grammar}
use Rattle.syntax.specs.Syntax.{Ixml}
use Rattle.plain.specs.Static.{undefined, duplicate, beyond, banned, backwards, unclassed, mismatched}
use Rattle.plain.specs.Plain.{size}
use Rattle.places.specs.Place.{Place}
use Rattle.derive.specs.Derive.{Row, Derivation, root, left_parse}
use Rattle.derive.specs.Chosen.{Reading, Second}
use Rattle.derive.specs.Productive.{Unproductive}
use Rattle.viable.specs.Fault.{FaultAt}
use Rattle.xml.specs.Document.{document, mark_of, twice, misnamed, unwritable, is_attribute, not_one, namespaced}
use Rattle.xml.specs.Bytes.{bytes}

-- a line of the table: its number, and exactly when it applies
pub record Line : Type 1 where
  pub number : ℕ
  pub Applies : Type 0

abbrev pub line : ℕ → Type 0 → Line
line n A = record { number = n; Applies = A }

-- "The topmost line that applies is given, and none is given unless it applies"; 0 where none does
abbrev pub Topmost : List Line → ℕ → Type 0
Topmost [] n = n ≡ 0
Topmost (l ∷ ls) n = (l.Applies × (n ≡ l.number)) ⊎ ((l.Applies → ⊥) × Topmost ls n)

-- the characters of a grammar's bytes, after a byte order mark; its syntax tree
abbrev pub GrammarText : List ℕ → Text → Type 0
GrammarText bs cs = (ds : Text) × Utf8 bs ds × (cs ≡ unmarked ds)

abbrev pub GrammarTree : List ℕ → Grammar → Type 0
GrammarTree bs g = (cs : Text) × GrammarText bs cs × Ixml cs g

-- of a text that the bytes have; of the tree
abbrev pub of_text : (List ℕ → Text → Type 0) → List ℕ → (Text → Type 0) → Type 0
of_text R bs P = (cs : Text) × R bs cs × P cs

abbrev pub of_tree : List ℕ → (Grammar → Type 0) → Type 0
of_tree bs P = (g : Grammar) × GrammarTree bs g × P g

-- the lines that checking may give; "24 is judged after 11 and before 12"
abbrev pub grammar_lines : List ℕ → List Line → List Line
grammar_lines bs ls =
    line 1 (grammar_bytes < length bs)
    ∷ line 2 (((cs : Text) × Utf8 bs cs) → ⊥)
    ∷ line 3 (of_text GrammarText bs (λ cs. T (not (all known cs))))
    ∷ line 4 (of_text GrammarText bs (λ cs. ((g : Grammar) × Ixml cs g) → ⊥))
    ∷ line 5 (of_tree bs (λ g. T (undefined g)))
    ∷ line 6 (of_tree bs (λ g. T (duplicate g)))
    ∷ line 7 (of_tree bs (λ g. T (beyond g)))
    ∷ line 8 (of_tree bs (λ g. T (banned g)))
    ∷ line 9 (of_tree bs (λ g. T (backwards g)))
    ∷ line 10 (of_tree bs (λ g. T (unclassed g)))
    ∷ line 11 (of_tree bs (λ g. most_size < size g))
    ∷ line 24 (of_tree bs Unproductive)
    ∷ ls

-- what a call on a record is given beside the result buffer: bytes of the grammar and the record, lengths of the two tables; the first is
-- the main table, and where judging asks it is the scratch
pub record Job : Type 0 where
  pub grammar : List ℕ
  pub input : List ℕ
  pub main_table : ℕ
  pub second_table : ℕ

abbrev pub job : List ℕ → List ℕ → ℕ → ℕ → Job
job gs rs main second = record { grammar = gs; input = rs; main_table = main; second_table = second }

-- which derivation of the record is spoken of, with its numbers; and when the ambiguous mark is set
pub record Source : Type 1 where
  pub Is : Grammar → Text → Row → List ℕ → Type 0
  pub Marks : Grammar → Text → List ℕ → Bool → Type 0

-- reading and converting speak of the chosen one
abbrev pub chosen : Source
chosen = record { Is = Reading; Marks = λ g r p m. T m ↔ Second g r p }

-- "accepts it exactly when the list, used to its last number, is a derivation of exactly this record"
abbrev pub Names : List ℕ → Grammar → Text → Row → Type 0
Names q g r t = Derivation g r t × (left_parse t ≡ q)

-- judging speaks of the one that the list names; "It sets no ambiguous mark and never writes that word as a state"
abbrev pub given : List ℕ → Source
given q = record { Is = λ g r t p. Names q g r t × (p ≡ left_parse t); Marks = λ g r p m. m ≡ false }

-- of the job's grammar and record; of these, the derivation and its numbers
abbrev pub of_job : Job → (Grammar → Text → Type 0) → Type 0
of_job j P = (g : Grammar) × (r : Text) × (GrammarTree j.grammar g × Utf8 j.input r) × P g r

abbrev pub of_source : Source → Job → (Grammar → Text → Row → List ℕ → Type 0) → Type 0
of_source s j P = of_job j (λ g r. (t : Row) × (p : List ℕ) × s.Is g r t p × P g r t p)

abbrev pub of_reading : Job → (Grammar → Text → Row → List ℕ → Type 0) → Type 0
of_reading = of_source chosen

-- "size × (n+1) × (n+2) / 2 numbers"
abbrev pub table_need : ℕ → ℕ → ℕ
table_need s n = s * ((n + 1) * (n + 2) / 2)

-- the numbers that the first table needs: of the main table, and of the scratch, "two numbers for each list entry"
abbrev pub Need : Type 0
Need = Grammar → Text → ℕ

abbrev pub main_need : Need
main_need g r = table_need (size g) (length r)

abbrev pub scratch_need : List ℕ → Need
scratch_need q g r = 2 * length q

abbrev pub need_lines : Need → Job → List Line → List Line
need_lines need j ls =
    line 12 (((cs : Text) × Utf8 j.input cs) → ⊥)
    ∷ line 13 (of_text Utf8 j.input (λ cs. T (not (all known cs))))
    ∷ line 14 (of_text Utf8 j.input (λ cs. record_chars < length cs))
    ∷ line 15 (of_job j (λ g r. (j.main_table < need g r) ⊎ (j.second_table < grammar_table)))
    ∷ ls

abbrev pub input_lines : Job → List Line → List Line
input_lines = need_lines main_need

abbrev pub reading_lines : Job → List Line → List Line
reading_lines j ls =
    line 16 (of_job j (λ g r. ((t : Row) × Derivation g r t) → ⊥))
    ∷ line 29 (of_reading j (λ g r t p. reading_numbers < length p))
    ∷ ls

abbrev pub record_lines : Job → List Line → List Line
record_lines j ls = input_lines j (reading_lines j ls)

-- "A bad list is refused as 25, in the place where 16 stands now", and "29 isn't given"
abbrev pub list_lines : List ℕ → Job → List Line → List Line
list_lines q j ls = line 25 (of_job j (λ g r. ((t : Row) × Names q g r t) → ⊥)) ∷ ls

abbrev pub document_lines_of : Source → Job → List Line → List Line
document_lines_of s j ls =
    line 17 (of_source s j (λ g r t p. T (twice (document g r t))))
    ∷ line 18 (of_source s j (λ g r t p. T (misnamed (document g r t))))
    ∷ line 19 (of_source s j (λ g r t p. T (unwritable (document g r t))))
    ∷ line 20 (of_source s j (λ g r t p. T (is_attribute (mark_of g (root g)))))
    ∷ line 21 (of_source s j (λ g r t p. T (not_one (document g r t))))
    ∷ line 22 (of_source s j (λ g r t p. T (namespaced (document g r t))))
    ∷ ls

abbrev pub document_lines : Job → List Line → List Line
document_lines = document_lines_of chosen

-- the result of reading, "the reading as numbers", and of converting, "the XML", with the ambiguous mark m
abbrev pub Shown : Type 0
Shown = Bool → Grammar → Text → Row → List ℕ → List ℕ

abbrev pub as_numbers : Shown
as_numbers m g r t p = p

abbrev pub as_xml : Shown
as_xml m g r t p = bytes m (mismatched g) (document g r t)

abbrev pub ResultBy : Source → Job → Shown → List ℕ → Bool → Type 0
ResultBy s j F xs m = of_source s j (λ g r t p. s.Marks g r p m × (xs ≡ F m g r t p))

abbrev pub ResultOf : Job → Shown → List ℕ → Bool → Type 0
ResultOf = ResultBy chosen

abbrev pub too_long_by : Source → Job → Shown → List ℕ → Line
too_long_by s j F old = line 23 ((xs : List ℕ) × (m : Bool) × ResultBy s j F xs m × (length old < length xs))

abbrev pub too_long : Job → Shown → List ℕ → Line
too_long = too_long_by chosen

-- the places that an answer carries: of a byte, of a character of the record, of one of the grammar
pub record Places : Type 0 where
  pub byte : ℕ
  pub fault : ℕ
  pub grammar : ℕ

-- what the place beside a number is
pub record Note : Type 1 where
  pub number : ℕ
  pub Says : ℕ → Type 0

abbrev pub note : ℕ → (ℕ → Type 0) → Note
note n P = record { number = n; Says = P }

-- the place beside a number is as its note says; "every other answer carries 0 there"
abbrev pub Noted : List Note → ℕ → ℕ → Type 0
Noted [] n p = p ≡ 0
Noted (x ∷ xs) n p = ((n ≡ x.number) × x.Says p) ⊎ ((n ≡ x.number → ⊥) × Noted xs n p)

-- the notes of a call, for each of the three places
pub record Notes : Type 1 where
  pub bytes : List Note
  pub faults : List Note
  pub grammars : List Note

pub record Placed (notes : Notes) (n : ℕ) (p : Places) : Type 0 where
  pub byte : Noted notes.bytes n p.byte
  pub fault : Noted notes.faults n p.fault
  pub grammar : Noted notes.grammars n p.grammar

-- "Answers 2, 3, 12 and 13 carry that byte place … For 2 and 12 the pattern is UTF-8, for 3 and 13 … it is" the alphabet
abbrev pub grammar_notes : List ℕ → List Note → List Note
grammar_notes bs xs = note 2 (Breaks every bs (after_mark bs)) ∷ note 3 (Breaks known bs (after_mark bs)) ∷ xs

abbrev pub input_notes : List ℕ → List Note → List Note
input_notes bs xs = note 12 (Breaks every bs 0) ∷ note 13 (Breaks known bs 0) ∷ xs

-- "Refusals 5 to 10 should name the place, in characters from the grammar's start after any byte order mark"
abbrev pub place_note : List ℕ → ℕ → Note
place_note bs n = note n (λ p. of_text GrammarText bs (λ cs. Place n cs p))

abbrev pub place_notes : List ℕ → List Note
place_notes bs = place_note bs 5 ∷ place_note bs 6 ∷ place_note bs 7 ∷ place_note bs 8 ∷ place_note bs 9 ∷ place_note bs 10 ∷ []

abbrev pub check_notes : List ℕ → Notes
check_notes bs = record { bytes = grammar_notes bs []; faults = []; grammars = place_notes bs }

-- "With 16, answer the greatest number k …"
abbrev pub reading_notes : Job → List Note → List Note
reading_notes j xs = note 16 (λ k. of_job j (λ g r. FaultAt g r k)) ∷ xs

abbrev pub job_notes : Job → Notes
job_notes j = record { bytes = grammar_notes j.grammar (input_notes j.input []); faults = reading_notes j []; grammars = place_notes j.grammar }

-- "An answer holds the number, a length, an ambiguous mark and a version mark", and the places
pub record Answer : Type 0 where
  pub number : ℕ
  pub length : ℕ
  pub ambiguous : Bool
  pub version : Bool
  pub places : Places

-- "Length is 0 unless the number is 0 … The ambiguous mark may be set only with 0 … The version mark is set, for 0 and 16, exactly
-- when … A result fills the first bytes or numbers of its buffer; the rest, and on every refusal the whole buffer, is unchanged."
pub record Answers (lines : List Line) (notes : Notes) (Result : List ℕ → Bool → Type 0) (bs : List ℕ) (old : List ℕ) (a : Answer) (new : List ℕ) : Type 0 where
  pub number : Topmost lines a.number
  pub answered : a.number ≡ 0 → (xs : List ℕ) × Result xs a.ambiguous × (a.length ≡ length xs) × (new ≡ xs ++ drop (length xs) old)
  pub refused : (a.number ≡ 0 → ⊥) → (a.length ≡ 0) × (a.ambiguous ≡ false) × (new ≡ old)
  pub version : T a.version ↔ (((a.number ≡ 0) ⊎ (a.number ≡ 16)) × of_tree bs (λ g. T (mismatched g)))
  pub places : Placed notes a.number a.places

-- the calls: "Checking gives 0 to 11 only, … reading gives 0 to 16, 29 and 23; converting gives all.", and each may give 24
abbrev pub Checks : List ℕ → Answer → Type 0
Checks bs a = Answers (grammar_lines bs []) (check_notes bs) (λ xs m. (xs ≡ []) × (m ≡ false)) bs [] a []

abbrev pub Reads : Job → List ℕ → Answer → List ℕ → Type 0
Reads j old = Answers (grammar_lines j.grammar (record_lines j (too_long j as_numbers old ∷ []))) (job_notes j) (ResultOf j as_numbers) j.grammar old

abbrev pub Converts : Job → List ℕ → Answer → List ℕ → Type 0
Converts j old = Answers (grammar_lines j.grammar (record_lines j (document_lines j (too_long j as_xml old ∷ [])))) (job_notes j) (ResultOf j as_xml) j.grammar old

-- judging a list q: "17 to 23 and demand 2 are then judged on the given derivation as in converting"
abbrev pub Judges : List ℕ → Job → List ℕ → Answer → List ℕ → Type 0
Judges q j old = Answers (grammar_lines j.grammar (need_lines (scratch_need q) j (list_lines q j (document_lines_of (given q) j (too_long_by (given q) j as_xml old ∷ [])))))
    (job_notes j) (ResultBy (given q) j as_xml) j.grammar old

abbrev pub Categorizes : ℕ → ℕ → Type 0
Categorizes code n = n ≡ category_number code
