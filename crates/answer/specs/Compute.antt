-- The answers computed: a test for each line, in the same order, and the first that passes.
use Rattle.std.specs.Prelude.{Bool, true, false, not, ◌&&◌, ◌||◌, List, [], ◌∷◌, ◌++◌, ℕ, ltb, eqb, length, drop}
use Rattle.text.specs.Limits.{grammar_bytes, most_size, record_chars, grammar_table, reading_numbers}
use Rattle.text.specs.Lists.{Text, all}
use Rattle.text.specs.Utf8.{unmarked, known}
use Rattle.text.specs.Decode.{Decoded, text, not-utf8, decode, break_of}
use Rattle.text.specs.Faults.{every, after_mark as after_bytes}
use Rattle.tree.specs.Tree.{Grammar}
use Rattle.syntax.specs.Parser.{Parsed, parsed, no-parse, parse}
use Rattle.plain.specs.Static.{undefined, duplicate, beyond, banned, backwards, unclassed, mismatched}
use Rattle.plain.specs.Plain.{size}
use Rattle.places.specs.Tokens.{place_of}
use Rattle.derive.specs.Derive.{Row, root, left_parse}
use Rattle.derive.specs.Pick.{Choice, found, no-choice, chosen_of}
use Rattle.derive.specs.Another.{ambiguous_of}
use Rattle.derive.specs.Yield.{unproductive}
use Rattle.viable.specs.Compute.{fault_of}
use Rattle.xml.specs.Document.{document, mark_of, twice, misnamed, unwritable, is_attribute, not_one, namespaced}
use Rattle.answer.specs.Answer.{Job, Need, main_need, scratch_need, Shown, as_numbers, as_xml, Places, Answer}
use Rattle.answer.specs.Named.{named_of}

-- a line's number, and a test that waits until it is asked
pub record Test : Type 0 where
  pub number : ℕ
  pub passes : Unit {0} → Bool

abbrev pub test : ℕ → (Unit {0} → Bool) → Test
test n f = record { number = n; passes = f }

abbrev pub first_of : List Test → ℕ
first_of [] = 0
first_of (t ∷ ts) = elim (t.passes tt) [ true ↦ t.number | false ↦ first_of ts ]

-- tests on what there is
abbrev pub on_text : Decoded → (Text → Bool) → Bool
on_text (text cs) f = f cs
on_text not-utf8 f = false

abbrev pub on_tree : Parsed → (Grammar → Bool) → Bool
on_tree (parsed g) f = f g
on_tree no-parse f = false

abbrev pub on_choice : Choice → (Row → Bool) → Bool
on_choice (found t) f = f t
on_choice no-choice f = false

abbrev pub is_text : Decoded → Bool
is_text (text cs) = true
is_text not-utf8 = false

abbrev pub is_tree : Parsed → Bool
is_tree (parsed g) = true
is_tree no-parse = false

abbrev pub is_found : Choice → Bool
is_found (found t) = true
is_found no-choice = false

-- the tree of a grammar's bytes
abbrev pub after_mark : Decoded → Parsed
after_mark (text cs) = parse (unmarked cs)
after_mark not-utf8 = no-parse

unfoldable pub tree_of : List ℕ → Parsed
tree_of bs = after_mark (decode bs)

abbrev pub grammar_tests : List ℕ → List Test → List Test
grammar_tests bs ts =
    test 1 (λ _. ltb grammar_bytes (length bs))
    ∷ test 2 (λ _. not (is_text (decode bs)))
    ∷ test 3 (λ _. on_text (decode bs) (λ cs. not (all known (unmarked cs))))
    ∷ test 4 (λ _. on_text (decode bs) (λ cs. not (is_tree (parse (unmarked cs)))))
    ∷ test 5 (λ _. on_tree (tree_of bs) undefined)
    ∷ test 6 (λ _. on_tree (tree_of bs) duplicate)
    ∷ test 7 (λ _. on_tree (tree_of bs) beyond)
    ∷ test 8 (λ _. on_tree (tree_of bs) banned)
    ∷ test 9 (λ _. on_tree (tree_of bs) backwards)
    ∷ test 10 (λ _. on_tree (tree_of bs) unclassed)
    ∷ test 11 (λ _. on_tree (tree_of bs) (λ g. ltb most_size (size g)))
    ∷ test 24 (λ _. on_tree (tree_of bs) unproductive)
    ∷ ts

abbrev pub on_job : Job → (Grammar → Text → Bool) → Bool
on_job j f = on_tree (tree_of j.grammar) (λ g. on_text (decode j.input) (f g))

-- what finds the derivation that is spoken of
abbrev pub Finder : Type 0
Finder = Grammar → Text → Choice

abbrev pub on_found : Finder → Job → (Grammar → Text → Row → Bool) → Bool
on_found c j f = on_job j (λ g r. on_choice (c g r) (f g r))

abbrev pub on_reading : Job → (Grammar → Text → Row → Bool) → Bool
on_reading = on_found chosen_of

abbrev pub need_tests : Need → Job → List Test → List Test
need_tests need j ts =
    test 12 (λ _. not (is_text (decode j.input)))
    ∷ test 13 (λ _. on_text (decode j.input) (λ cs. not (all known cs)))
    ∷ test 14 (λ _. on_text (decode j.input) (λ cs. ltb record_chars (length cs)))
    ∷ test 15 (λ _. on_job j (λ g r. ltb j.main_table (need g r) || ltb j.second_table grammar_table))
    ∷ ts

-- 16, and 25
abbrev pub none_test : ℕ → Finder → Job → Test
none_test n c j = test n (λ _. on_job j (λ g r. not (is_found (c g r))))

abbrev pub record_tests : Job → List Test → List Test
record_tests j ts =
    need_tests main_need j (none_test 16 chosen_of j
    ∷ test 29 (λ _. on_reading j (λ g r t. ltb reading_numbers (length (left_parse t))))
    ∷ ts)

abbrev pub document_tests_of : Finder → Job → List Test → List Test
document_tests_of c j ts =
    test 17 (λ _. on_found c j (λ g r t. twice (document g r t)))
    ∷ test 18 (λ _. on_found c j (λ g r t. misnamed (document g r t)))
    ∷ test 19 (λ _. on_found c j (λ g r t. unwritable (document g r t)))
    ∷ test 20 (λ _. on_found c j (λ g r t. is_attribute (mark_of g (root g))))
    ∷ test 21 (λ _. on_found c j (λ g r t. not_one (document g r t)))
    ∷ test 22 (λ _. on_found c j (λ g r t. namespaced (document g r t)))
    ∷ ts

abbrev pub document_tests : Job → List Test → List Test
document_tests = document_tests_of chosen_of

-- a result with its ambiguous mark; none where there is no reading
pub record Result : Type 0 where
  pub cells : List ℕ
  pub ambiguous : Bool

abbrev pub result : List ℕ → Bool → Result
result xs m = record { cells = xs; ambiguous = m }

abbrev pub on_result : Choice → (Row → Result) → Result
on_result (found t) f = f t
on_result no-choice f = result [] false

abbrev pub result_text : Decoded → (Text → Result) → Result
result_text (text cs) f = f cs
result_text not-utf8 f = result [] false

abbrev pub result_tree : Parsed → (Grammar → Result) → Result
result_tree (parsed g) f = f g
result_tree no-parse f = result [] false

abbrev pub found_result : Finder → Job → (Grammar → Text → Row → Result) → Result
found_result c j f = result_tree (tree_of j.grammar) (λ g. result_text (decode j.input) (λ r. on_result (c g r) (f g r)))

abbrev pub result_of : Job → (Grammar → Text → Row → Result) → Result
result_of = found_result chosen_of

-- when the ambiguous mark is set
abbrev pub Marker : Type 0
Marker = Grammar → Text → Row → Bool

abbrev pub never : Marker
never g r t = false

abbrev pub result_with : Marker → Shown → Grammar → Text → Row → Result
result_with k F g r t = let m = k g r t in result (F m g r t (left_parse t)) m

abbrev pub result_by : Shown → Grammar → Text → Row → Result
result_by = result_with ambiguous_of

-- the place beside a number, computed when it is asked
pub record Value : Type 0 where
  pub number : ℕ
  pub value : Unit {0} → ℕ

abbrev pub value : ℕ → (Unit {0} → ℕ) → Value
value n f = record { number = n; value = f }

abbrev pub value_at : List Value → ℕ → ℕ
value_at [] n = 0
value_at (v ∷ vs) n = elim (eqb n v.number) [ true ↦ v.value tt | false ↦ value_at vs n ]

pub record Values : Type 0 where
  pub bytes : List Value
  pub faults : List Value
  pub grammars : List Value

abbrev pub places_at : Values → ℕ → Places
places_at v n = record { byte = value_at v.bytes n; fault = value_at v.faults n; grammar = value_at v.grammars n }

abbrev pub grammar_values : List ℕ → List Value → List Value
grammar_values bs vs = value 2 (λ _. break_of every bs (after_bytes bs)) ∷ value 3 (λ _. break_of known bs (after_bytes bs)) ∷ vs

abbrev pub input_values : List ℕ → List Value → List Value
input_values bs vs = value 12 (λ _. break_of every bs 0) ∷ value 13 (λ _. break_of known bs 0) ∷ vs

abbrev pub place_in : Decoded → ℕ → ℕ
place_in (text cs) n = place_of n (unmarked cs)
place_in not-utf8 n = 0

abbrev pub place_value : List ℕ → ℕ → Value
place_value bs n = value n (λ _. place_in (decode bs) n)

abbrev pub place_values : List ℕ → List Value
place_values bs = place_value bs 5 ∷ place_value bs 6 ∷ place_value bs 7 ∷ place_value bs 8 ∷ place_value bs 9 ∷ place_value bs 10 ∷ []

abbrev pub check_values : List ℕ → Values
check_values bs = record { bytes = grammar_values bs []; faults = []; grammars = place_values bs }

-- the place of the fault in the job's record
abbrev pub place_tree : Parsed → (Grammar → ℕ) → ℕ
place_tree (parsed g) f = f g
place_tree no-parse f = 0

abbrev pub place_text : Decoded → (Text → ℕ) → ℕ
place_text (text cs) f = f cs
place_text not-utf8 f = 0

abbrev pub fault_in : Job → ℕ
fault_in j = place_tree (tree_of j.grammar) (λ g. place_text (decode j.input) (fault_of g))

abbrev pub reading_values : Job → List Value → List Value
reading_values j vs = value 16 (λ _. fault_in j) ∷ vs

abbrev pub job_values : Job → Values
job_values j = record { bytes = grammar_values j.grammar (input_values j.input []); faults = reading_values j []; grammars = place_values j.grammar }

-- an answer and its buffer, from the number, the result and the places
pub record Outcome : Type 0 where
  pub answer : Answer
  pub buffer : List ℕ

abbrev pub outcome : List ℕ → Bool → Values → ℕ → Result → Outcome
outcome old mismatch v n x = elim (eqb n 0) [
  | true ↦ record {
    answer = record { number = n; length = length x.cells; ambiguous = x.ambiguous; version = mismatch; places = places_at v n };
    buffer = x.cells ++ drop (length x.cells) old;
  }
  | false ↦ record { answer = record { number = n; length = 0; ambiguous = false; version = eqb n 16 && mismatch; places = places_at v n }; buffer = old }
]

abbrev pub mismatch : List ℕ → Bool
mismatch bs = on_tree (tree_of bs) mismatched

unfoldable pub check_of : List ℕ → Answer
check_of bs = (outcome [] (mismatch bs) (check_values bs) (first_of (grammar_tests bs [])) (result [] false)).answer

abbrev pub long_test_by : Finder → Marker → Shown → Job → List ℕ → Test
long_test_by c k F j old = test 23 (λ _. on_found c j (λ g r t. ltb (length old) (length (result_with k F g r t).cells)))

abbrev pub long_test : Shown → Job → List ℕ → Test
long_test = long_test_by chosen_of ambiguous_of

-- a call, by the tests after 29 and the way its result is shown
abbrev pub call_of : List Test → Shown → Job → List ℕ → Outcome
call_of ts F j old = outcome old (mismatch j.grammar) (job_values j) (first_of (grammar_tests j.grammar (record_tests j ts))) (result_of j (result_by F))

unfoldable pub read_of : Job → List ℕ → Outcome
read_of j old = call_of (long_test as_numbers j old ∷ []) as_numbers j old

unfoldable pub convert_of : Job → List ℕ → Outcome
convert_of j old = call_of (document_tests j (long_test as_xml j old ∷ [])) as_xml j old

unfoldable pub judge_of : List ℕ → Job → List ℕ → Outcome
judge_of q j old =
    let c = named_of q in
    let ts = none_test 25 c j ∷ document_tests_of c j (long_test_by c never as_xml j old ∷ []) in
    outcome old (mismatch j.grammar) (job_values j) (first_of (grammar_tests j.grammar (need_tests (scratch_need q) j ts))) (found_result c j (result_with never as_xml))
