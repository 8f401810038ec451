-- The starred cases of document 01, in one table, and some of the place of a fault.
use Rattle.std.specs.Prelude.{Bool, true, false, ◌≡◌, List, [], ◌∷◌, ◌++◌, ℕ, length, drop, replicate}
use Prim.Native.String.{String}
use Rattle.text.specs.Lists.{chars}
use Rattle.answer.specs.Answer.{Job, Answer, Checks, Reads, Converts}
use Rattle.answer.specs.Program.{program_job}

-- a grammar and a record that are answered: the reading, whether it is ambiguous, and the XML; or that have no reading, and the place
-- of the fault; or a grammar's number from checking, and its place
pub data Case : Type 0 where
  answered : String → String → List ℕ → Bool → String → Case
  failed : String → String → ℕ → Case
  checked : String → ℕ → ℕ → Case

unfoldable pub table : List Case
table =
    answered "a: \"x\"." "x" (0 ∷ []) false "<a>x</a>"
    ∷ failed "a: \"x\"." "" 0
    ∷ failed "a: \"x\"; \"xyz\"." "xyq" 2
    ∷ failed "a: \"x\"; \"y\", []." "y" 0
    ∷ failed "a: b, \";\". b: \"x\"+." "xx" 2
    ∷ failed "a: b, \";\". b: \"x\"+." "xx.;" 2
    ∷ answered "a: \"x\"*." "" (0 ∷ 1 ∷ []) false "<a/>"
    ∷ answered "a: \"x\"*." "xx" (0 ∷ 0 ∷ 0 ∷ 1 ∷ []) false "<a>xx</a>"
    ∷ answered "a: \"x\"; \"x\"." "x" (0 ∷ []) true "<a xmlns:ixml='http://invisiblexml.org/NS' ixml:state='ambiguous'>x</a>"
    ∷ answered "a: a; \"x\"." "x" (1 ∷ []) true "<a xmlns:ixml='http://invisiblexml.org/NS' ixml:state='ambiguous'>x</a>"
    ∷ answered "a: (\"x\"?)*." "" (0 ∷ 1 ∷ []) true "<a xmlns:ixml='http://invisiblexml.org/NS' ixml:state='ambiguous'/>"
    ∷ answered "a: +\"z\"." "" (0 ∷ []) false "<a>z</a>"
    ∷ checked "a: \"\"." 4 0
    ∷ checked "a: \"x\".b: \"y\"." 4 0
    ∷ checked "a: b." 5 3
    ∷ checked "a: \"x\". a: \"y\"." 6 8
    ∷ checked "a: #110000." 7 3
    ∷ checked "a: #10ffff." 8 3
    ∷ checked "a: [\"b\"-\"a\"]." 9 4
    ∷ checked "a: [Xx]." 10 4
    ∷ checked "a: #10fffd." 24 0
    ∷ []

-- the tables that the program lends, and a buffer of a hundred cells that hold 7
unfoldable pub buffer : List ℕ
buffer = replicate 100 7

unfoldable pub job : String → String → Job
job g r = program_job (chars g) (chars r)

unfoldable pub answer : ℕ → ℕ → Bool → Answer
answer n k m = record { number = n; length = k; ambiguous = m; version = false; places = record { byte = 0; fault = 0; grammar = 0 } }

unfoldable pub placed : ℕ → ℕ → Answer
placed n p = record { number = n; length = 0; ambiguous = false; version = false; places = record { byte = 0; fault = 0; grammar = p } }

unfoldable pub fault : ℕ → Answer
fault k = record { number = 16; length = 0; ambiguous = false; version = false; places = record { byte = 0; fault = k; grammar = 0 } }

unfoldable pub filled : List ℕ → List ℕ
filled xs = xs ++ drop (length xs) buffer

-- what the table says, against the definitions of the calls
abbrev pub Holds : Case → Type 0
Holds (answered g r p m x) = Reads (job g r) buffer (answer 0 (length p) m) (filled p) × Converts (job g r) buffer (answer 0 (length (chars x)) m) (filled (chars x))
Holds (failed g r k) = Reads (job g r) buffer (fault k) buffer × Converts (job g r) buffer (fault k) buffer
Holds (checked g n p) = Checks (chars g) (placed n p)

pub data Every (P : Case → Type 0) : List Case → Type 0 where
  every-none : Every P []
  every_more : {c : Case} {cs : List Case} → P c → Every P cs → Every P (c ∷ cs)
