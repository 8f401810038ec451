use native.Mathlib.Omega.{arith}
use Rattle.right_pass.proofs.Drains.{drain-next}
use Rattle.right_pass.proofs.close.Goals as goal

pub loop-head-preserved : goal.loop-head-preserved
loop-head-preserved c =
    let s = rw c.wide-x.ensures at c.at_first.ensures in
    let e = rw c.wide-x.ensures at c.after_symbol.ensures in
    let t = rw c.wide-x.ensures at c.after_empty.ensures in
    drain-next c.requires c.loop-head.invariant
    (omega (
      arith,
      c.loop-head-test.true,
      c.wide.ensures,
    )) s e t
