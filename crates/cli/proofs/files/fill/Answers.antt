-- One read more.
use Rattle.cli.proofs.Pieces.{one_more}
use Rattle.cli.proofs.files.fill.Goals as goal

pub loop-done-preserved : goal.loop-done-preserved
loop-done-preserved g c =
    let e = c.in_ok-next.ensures in
    let m = one_more _ _ _ c.loop-done.buf c.read_some.new.buf c.loop-done.done c.in-Some.next _ c.in-Some.is e.chunked e.fetched c.loop-done.invariant.read in
    record {
      within = m.0;
      read = m.1;
    }
