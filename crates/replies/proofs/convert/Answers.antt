-- The program lends its tables and an empty buffer.
use Rattle.std.proofs.Common.{ℕ, refl}
use lib.ListN.{length-replicate}
use Rattle.cli.proofs.Law.{job-shown}
use Rattle.replies.proofs.convert.Goals as goal

pub returns : goal.returns
returns c = job-shown (length-replicate {A = ℕ} 16384 0) (length-replicate {A = ℕ} 16384 0) refl c.ixml_convert-a.ensures.defines c.show.ensures
