use Rattle.terminals.proofs.Marking.{quote-next}
use Rattle.terminals.proofs.marks.mark_quoted.Goals as goal

pub loop-k-preserved : goal.loop-k-preserved
loop-k-preserved c =
    quote-next c.loop-k.invariant c.requires.0 c.loop-k-test.true c.mark_range.ensures
