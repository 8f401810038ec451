-- The calls' answers, as the definitions speak of them.
use Rattle.std.specs.Prelude.{◌≡◌, List, ℕ}
use Rattle.answer.specs.Answer.{Job, Checks, Reads, Converts, Judges}
use Rattle.answer.specs.Compute.{check_of, read_of, convert_of, judge_of}
use Rattle.tidy.specs.Call.{Tidies, tidy_of}
use Rattle.exported.specs.declared.Answer.{Answer}
use Rattle.exported.specs.Exported.{shown}

-- the answer is the one that the definition of checking gives, of which there is exactly one: that it is the computed one follows
-- (answer Settled: check-settled)
pub record Checked (bs : List ℕ) (a : Answer) : Type 0 where
  pub computed : shown a ≡ check_of bs
  pub defines : Checks bs (shown a)

-- answer and buffer are those that the definition of reading gives, of which there are exactly one each: that they are the computed ones
-- follows (read-settled)
pub record ReadAs (j : Job) (old : List ℕ) (a : Answer) (new : List ℕ) : Type 0 where
  pub computed : shown a ≡ (read_of j old).answer
  pub buffer : new ≡ (read_of j old).buffer
  pub defines : Reads j old (shown a) new

-- of converting (convert-settled)
pub record ConvertedAs (j : Job) (old : List ℕ) (a : Answer) (new : List ℕ) : Type 0 where
  pub computed : shown a ≡ (convert_of j old).answer
  pub buffer : new ≡ (convert_of j old).buffer
  pub defines : Converts j old (shown a) new

-- of judging a list (judge-settled)
pub record JudgedAs (q : List ℕ) (j : Job) (old : List ℕ) (a : Answer) (new : List ℕ) : Type 0 where
  pub computed : shown a ≡ (judge_of q j old).answer
  pub buffer : new ≡ (judge_of q j old).buffer
  pub defines : Judges q j old (shown a) new

-- of tidying (tidy-settled)
pub record TidiedAs (bs old : List ℕ) (a : Answer) (new : List ℕ) : Type 0 where
  pub computed : shown a ≡ (tidy_of bs old).answer
  pub buffer : new ≡ (tidy_of bs old).buffer
  pub defines : Tidies bs old (shown a) new
