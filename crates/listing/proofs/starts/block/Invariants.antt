use Rattle.listing.proofs.Untouched.{AtMost}
use Rattle.listing.proofs.starts.block.Given as goal

abbrev pub invariant-loop-k : goal.invariant-loop-k
invariant-loop-k l = AtMost l.column l.y l.k l.all
