-- What the program makes of two files: what it sees of each, and the bytes that it writes.
use Rattle.std.specs.Prelude.{Bool, false, ◌≡◌, List, ◌++◌, ℕ, ◌+◌, ◌≤◌, ◌<◌, eqb, length, take, slice_range, replicate, Option, None, Some, Result, Ok, Err}
use Rattle.std.specs.Io.KnownBytes.{Consumes, Keeps, IsAtEnd, Appends}
use Rattle.text.specs.Limits.{file_bytes, program_bytes}
use Rattle.text.specs.Lists.{Text, chars, pick}
use Rattle.answer.specs.Answer.{Answer}
use Rattle.answer.specs.Compute.{Outcome, convert_of}
use Rattle.answer.specs.Program.{File, unreadable, bytes, decimal, fail_state, fail_document, Writes, shows, program_job}

-- a read at a place of a buffer moves on within it, or ends
abbrev pub Onwards : {E : Type 0} → Result (Option ℕ) E → ℕ → ℕ → Type 0
Onwards (Ok (Some next)) at m = (at < next) × (next ≤ m)
Onwards (Ok None) at m = Unit {0}
Onwards (Err e) at m = Unit {0}

-- what was in the buffer before that place is kept
pub record Chunked {E : Type 0} (t : Result (Option ℕ) E) (at : ℕ) (old new : List ℕ) : Type 0 where
  pub onwards : Onwards t at (length new)
  pub kept : take at new ≡ take at old

-- what a read at a place consumed of a reader's bytes, where these are known: what it put there; at the end of the file none are left, and a
-- read that failed consumed none
abbrev pub Fetched : {E : Type 0} → Result (Option ℕ) E → ℕ → List ℕ → Option (List ℕ) → Option (List ℕ) → Type 0
Fetched (Ok (Some next)) at new before after = Consumes before after (slice_range new at next)
Fetched (Ok None) at new before after = Keeps before after × (at < length new → IsAtEnd after)
Fetched (Err e) at new before after = Keeps before after

-- a text put after the first `at` bytes of a buffer, up to place r
pub record Put (text : List ℕ) (at : ℕ) (old new : List ℕ) (r : ℕ) : Type 0 where
  pub ends : r ≡ at + length text
  pub holds : take r new ≡ take at old ++ text

-- the first r bytes of a buffer are a text
pub record Holds (text : Text) (new : List ℕ) (r : ℕ) : Type 0 where
  pub fits : r ≤ length new
  pub holds : take r new ≡ text

-- the words of a refusal; of a file that cannot be read; of a record file that is too long
abbrev pub refusal : ℕ → Text
refusal n = chars "refused " ++ decimal n

abbrev pub no_file : Text
no_file = chars "unreadable\n"

abbrev pub long_file : Text
long_file = chars "refused 14\n"

-- the fail document up to the digits of the place
abbrev pub fail_head : Bool → Text
fail_head v = chars "<fail" ++ fail_state v ++ chars " place='"

-- what is shown of an answer, up to its line end
abbrev pub body_of : ℕ → ℕ → Bool → ℕ → List ℕ → Text
body_of n l v k new = pick (eqb n 0) (take l new) (pick (eqb n 16) (fail_document v k) (refusal n))

-- the answer with these parts; the ambiguous mark and the other places play no part in what is written of it
abbrev pub answer_of : ℕ → ℕ → Bool → ℕ → Answer
answer_of n l v k = record { number = n; length = l; ambiguous = false; version = v; places = record { byte = 0; fault = k; grammar = 0 } }

-- the first r bytes are what is written for an answer, whose number has at most two digits, and the place of the fault at most three
pub record Shows (n l : ℕ) (v : Bool) (k : ℕ) (xml new : List ℕ) (r : ℕ) : Type 0 where
  pub fits : r ≤ length new
  pub holds : n < 100 → k < 1000 → take r new ≡ shows (answer_of n l v k) xml

-- one byte more than a file may have: enough to see that it is longer
abbrev pub asked_bytes : ℕ
asked_bytes = file_bytes + 1

-- what the program sees of a file: its first bytes, if it can be read
pub data Seen : File → Option (List ℕ) → Type 0 where
  shut : Seen unreadable None
  begins : {bs xs : List ℕ} → xs ≡ take asked_bytes bs → Seen (bytes bs) (Some xs)

-- the text is what is written for any two files of which this is seen
abbrev pub Written : Option (List ℕ) → Option (List ℕ) → Text → Type 0
Written g r text = (f e : File) → Seen f g → Seen e r → Writes f e text

-- what a job of the program comes to, and the text of that
abbrev pub job_outcome : List ℕ → List ℕ → Outcome
job_outcome g r = convert_of (program_job g r) (replicate program_bytes 0)

abbrev pub job_text : List ℕ → List ℕ → Text
job_text g r = shows (job_outcome g r).answer (job_outcome g r).buffer

-- the first n bytes are what is written for any two files of which this is seen
pub record Replies (g r : Option (List ℕ)) (new : List ℕ) (n : ℕ) : Type 0 where
  pub fits : n ≤ length new
  pub written : Written g r (take n new)

-- the files that may stand behind a reader: one that cannot be read, where a read fails; else one with the reader's bytes, where these are known
pub data Behind : Option (List ℕ) → File → Type 0 where
  fails : {known : Option (List ℕ)} → Behind known unreadable
  has_bytes : {bs : List ℕ} → Behind (Some bs) (bytes bs)
  unknown : {bs : List ℕ} → Behind None (bytes bs)

-- what is written for the files behind two readers is added to what a writer holds, where that is known
pub record Answered (first second : Option (List ℕ)) (old new : Option (List ℕ)) : Type 0 where
  pub grammar : File
  pub input : File
  pub text : Text
  pub behind_first : Behind first grammar
  pub behind_second : Behind second input
  pub writes : Writes grammar input text
  pub appended : Appends old new text
