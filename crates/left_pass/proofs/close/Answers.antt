use native.Mathlib.Omega.{arith}
use Rattle.left_pass.proofs.Drains.{drain-next}
use Rattle.left_pass.proofs.close.Goals as goal

pub loop-head-preserved : goal.loop-head-preserved
loop-head-preserved c =
    let s = rw c.wide-p.ensures at c.at_symbol.ensures in
    let e = rw c.wide-p.ensures at c.at_end.ensures in
    let t = rw c.wide-p.ensures at c.at_empty.ensures in
    drain-next c.requires c.loop-head.invariant
    (omega (
      arith,
      c.loop-head-test.true,
      c.wide.ensures,
    )) s e t
