-- What the program writes for two files.
use Rattle.std.specs.Prelude.{Bool, true, false, ◌||◌, ◌≡◌, List, [], ◌∷◌, ◌++◌, ℕ, ◌+◌, ◌/◌, ◌%◌, ltb, eqb, length, take, replicate}
use Rattle.text.specs.Limits.{grammar_table, program_table, program_bytes, file_bytes}
use Rattle.text.specs.Lists.{Text, chars, pick}
use Rattle.xml.specs.Bytes.{state_with}
use Rattle.answer.specs.Answer.{Job, Answer, Converts}
use Rattle.answer.specs.Answer as calls

pub data File : Type 0 where
  unreadable : File
  bytes : List ℕ → File

-- a number below 1,000 in decimal
abbrev pub decimal : ℕ → Text
decimal n = pick (ltb n 10) ((0x30 + n) ∷ []) (pick (ltb n 100) ((0x30 + n / 10) ∷ (0x30 + n % 10) ∷ []) ((0x30 + n / 100) ∷ (0x30 + n / 10 % 10) ∷ (0x30 + n % 10) ∷ []))

-- "For 16 it writes `<fail …/>`, with `failed version-mismatch` if due"; "The fail document gets the attribute `place='k'` as a decimal
-- number after the state"
abbrev pub fail_state : Bool → Text
fail_state false = state_with (chars "failed")
fail_state true = state_with (chars "failed version-mismatch")

unfoldable pub fail_document : Bool → ℕ → Text
fail_document version k = chars "<fail" ++ fail_state version ++ chars " place='" ++ decimal k ++ chars "'/>"

-- "The program ends what it writes with LF. For 16 it writes `<fail …/>` … For other refusals it writes `refused 9` with the number."
abbrev pub shows : Answer → List ℕ → Text
shows a new =
    pick (eqb a.number 0) (take a.length new)
    (pick (eqb a.number 16) (fail_document a.version a.places.fault) (chars "refused " ++ decimal a.number)) ++ chars "\n"

-- "It lends a main table of 16,384 numbers and 65,536 bytes for the result"
abbrev pub program_job : List ℕ → List ℕ → Job
program_job g r = calls.job g r program_table grammar_table

-- "A file it can't read it answers `unreadable`; else a record file over 4,096 bytes `refused 14`, unread and whatever the grammar."
pub data Writes : File → File → Text → Type 0 where
  no-grammar : {r : File} → Writes unreadable r (chars "unreadable\n")
  no_record : {g : List ℕ} → Writes (bytes g) unreadable (chars "unreadable\n")
  long-record : {g r : List ℕ} → ltb file_bytes (length r) ≡ true → Writes (bytes g) (bytes r) (chars "refused 14\n")
  job : {g r new : List ℕ} {a : Answer} → ltb file_bytes (length r) ≡ false → Converts (program_job g r) (replicate program_bytes 0) a new → Writes (bytes g) (bytes r) (shows a new)
