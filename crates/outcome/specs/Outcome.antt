-- What a call answers to XML.
use Rattle.std.specs.Prelude.{Bool, ℕ, Result, Ok, Err}
use Rattle.text.specs.Stages.{plainly}
use Rattle.convert.specs.declared.ConvertError.{ConvertError}
use Rattle.convert.specs.Concluded.{refusal_number}
use Rattle.exported.specs.declared.Answer.{Answer}
use Rattle.exported.specs.Exported.{done, refusal_of}

-- the answer to XML that is written, or refused with a number
abbrev pub answer_by : Result ℕ ℕ → Bool → Bool → Answer
answer_by (Ok n) a m = done n a m
answer_by (Err k) a m = refusal_of (record { why = plainly k; mismatch = m })

-- the same of converting's own refusals
abbrev pub answer_of : Result ℕ ConvertError → Bool → Bool → Answer
answer_of (Ok n) a m = answer_by (Ok n) a m
answer_of (Err e) a m = answer_by (Err (refusal_number e)) a m
