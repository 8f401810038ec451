use Rattle.listing.specs.Starts.{Passed}
use Rattle.listing.proofs.starts.past_untouched.Given as goal

abbrev pub invariant-loop-i : goal.invariant-loop-i
invariant-loop-i l = Passed l.column l.i l.from

abbrev pub decreases-loop-i : goal.decreases-loop-i
decreases-loop-i l = l.i
