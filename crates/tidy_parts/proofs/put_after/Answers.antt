use Rattle.encode.proofs.Puts.{and_then}
use Rattle.tidy_parts.specs.Parts.{tail_by}
use Rattle.tidy_parts.proofs.put_after.Goals as goal

pub returns : goal.returns
unfolding tail_by
returns c =
    and_then c.put_sign_at-q.ensures c.put_sign_at.ensures
