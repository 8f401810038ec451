-- Demand 3, and what the table of refusals says of the calls, as laws over every answer that the definitions of the calls allow.
-- Statements alone: proofs/Demands.antt has their proof, `demands-hold`.
use Rattle.std.specs.Prelude.{◌≡◌, ◌↔◌, Bool, ◌&&◌, ◌||◌, List, [], ◌∷◌, ◌++◌, ℕ, ◌≤◌, T, leb, eqb, length, drop}
use Rattle.text.specs.Limits.{reading_numbers, most_size, record_chars}
use Rattle.text.specs.Lists.{Text, chars, among}
use Rattle.text.specs.Utf8.{Utf8}
use Rattle.tree.specs.Tree.{Grammar}
use Rattle.plain.specs.Plain.{size}
use Rattle.derive.specs.Derive.{Row, Derivation, height}
use Rattle.derive.specs.Chosen.{Reading, Second}
use Rattle.viable.specs.Fault.{FaultAt}
use Rattle.answer.specs.Answer.{Line, grammar_lines, input_lines, document_lines, too_long, GrammarTree, Job, of_job, of_reading, table_need}
use Rattle.answer.specs.Answer.{as_xml, Answer, Checks, Reads, Converts}

-- none of the lines applies
abbrev pub None : List Line → Type 0
None [] = Unit {0}
None (l ∷ ls) = (l.Applies → ⊥) × None ls

-- "wherever none of 1 to 15 applies", nor 24
abbrev pub Admitted : Job → Type 0
Admitted j = None (grammar_lines j.grammar (input_lines j []))

abbrev pub Underivable : Job → Type 0
Underivable j = of_job j (λ g r. ((t : Row) × Derivation g r t) → ⊥)

-- there is a chosen reading, it has at most 4,096 numbers, and P holds of them
abbrev pub ShortReading : Job → (List ℕ → Type 0) → Type 0
ShortReading j P = of_reading j (λ g r t p. (length p ≤ reading_numbers) × P p)

-- with 16 the place of the fault is answered, and 0 there with any other number
abbrev pub Faulted : Job → Answer → Type 0
Faulted j a = (a.number ≡ 16 → of_job j (λ g r. FaultAt g r a.places.fault)) × ((a.number ≡ 16 → ⊥) → a.places.fault ≡ 0)

-- with 0: the mark is set exactly when there is a second derivation; the result xs of the chosen reading, counted, begins the buffer
abbrev pub Given : (old new : List ℕ) → Answer → (Row → List ℕ → List ℕ) → Grammar → Text → Row → List ℕ → Type 0
Given old new a xs g r t p = (T a.ambiguous ↔ Second g r p) × (a.length ≡ length (xs t p)) × (new ≡ xs t p ++ drop (length (xs t p)) old)

-- a refusal of the grammar
abbrev pub of_grammar : ℕ → Bool
of_grammar n = (leb 1 n && leb n 11) || eqb n 24

-- the number is one of checking's, and is given to the job too; a grammar that checking accepts is refused by none of its lines
pub record AsChecked (bs : List ℕ) (n : ℕ) : Type 0 where
  pub refused : (c : Answer) → Checks bs c → (c.number ≡ 0 → ⊥) → n ≡ c.number
  pub accepted : (c : Answer) → Checks bs c → c.number ≡ 0 → T (of_grammar n) → ⊥

pub record OfChecking (bs : List ℕ) (a : Answer) : Type 0 where
  pub accepts : (a.number ≡ 0) ↔ None (grammar_lines bs [])
  pub numbers : T (eqb a.number 0 || of_grammar a.number)

pub record OfReading (j : Job) (old : List ℕ) (a : Answer) (new : List ℕ) : Type 0 where
  pub none : Admitted j → (a.number ≡ 16) ↔ Underivable j
  pub answers : Admitted j → (a.number ≡ 0) ↔ ShortReading j (λ p. length p ≤ length old)
  pub chosen : a.number ≡ 0 → of_reading j (λ g r. Given old new a (λ t p. p) g r)
  pub fault : Faulted j a
  pub numbers : T (leb a.number 16 || among a.number (24 ∷ 29 ∷ 23 ∷ []))
  pub checked : AsChecked j.grammar a.number

pub record OfConverting (j : Job) (old : List ℕ) (a : Answer) (new : List ℕ) : Type 0 where
  pub none : Admitted j → (a.number ≡ 16) ↔ Underivable j
  pub answers : Admitted j → (a.number ≡ 0) ↔ (ShortReading j (λ p. Unit {0}) × None (document_lines j (too_long j as_xml old ∷ [])))
  pub chosen : a.number ≡ 0 → of_reading j (λ g r. Given old new a (as_xml a.ambiguous g r) g r)
  pub fault : Faulted j a
  pub numbers : T (leb a.number 24 || among a.number (29 ∷ []))
  pub checked : AsChecked j.grammar a.number

-- what a job's reading is said of, by whichever call: one grammar, one record, one derivation, one list of numbers
pub record OneReading (j : Job) (g h : Grammar) (r s : Text) (t u : Row) (p q : List ℕ) : Type 0 where
  pub grammar : g ≡ h
  pub text : r ≡ s
  pub derivation : t ≡ u
  pub numbers : p ≡ q

pub record Demands : Type 0 where
  pub checking : (bs : List ℕ) (a : Answer) → Checks bs a → OfChecking bs a
  pub reading : (j : Job) (old new : List ℕ) (a : Answer) → Reads j old a new → OfReading j old a new
  pub converting : (j : Job) (old new : List ℕ) (a : Answer) → Converts j old a new → OfConverting j old a new
  -- both calls speak of one reading whenever either does
  pub one : (j : Job) {g h : Grammar} {r s : Text} {t u : Row} {p q : List ℕ} → GrammarTree j.grammar g × Utf8 j.input r → Reading g r t p
      → GrammarTree j.grammar h × Utf8 j.input s → Reading h s u q → OneReading j g h r s t u p q
  -- and, where both answer 0, with one mark
  pub marks : (j : Job) (old old' new new' : List ℕ) (a b : Answer) → Reads j old a new → a.number ≡ 0 → Converts j old' b new' → b.number ≡ 0 → a.ambiguous ≡ b.ambiguous
  -- no derivation of the record is lower than the reading's
  pub least : {g : Grammar} {r : Text} {t u : Row} {p : List ℕ} → Reading g r t p → Derivation g r u → height t ≤ height u
  -- "Every grammar that passes T-06 accepts some text, so k always exists", and there is one
  pub fault : (j : Job) → Admitted j → {g : Grammar} {r : Text} → GrammarTree j.grammar g × Utf8 j.input r → (k : ℕ) × FaultAt g r k
  pub one-fault : {g : Grammar} {r : Text} (k m : ℕ) → FaultAt g r k → FaultAt g r m → k ≡ m
  -- "The table formula stays; at the limits it gives 10,394,112 numbers."
  pub need : table_need most_size record_chars ≡ 10394112
  -- "`a: "x".` has size 2; `a: "x"*.` has size 6."
  pub sizes : ((g : Grammar) → GrammarTree (chars "a: \"x\".") g → size g ≡ 2) × ((g : Grammar) → GrammarTree (chars "a: \"x\"*.") g → size g ≡ 6)
