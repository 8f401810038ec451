use native.Mathlib.Omega.{arith}
use Prim.Native.Nat.{◌≤◌}
use lib.ListN.{length}
use borrow.Author.Tests.{lt-ltb, le-ltb, le-leb, lt-leb}
use Rattle.encode.specs.Out.{puts}
use Rattle.encode.proofs.put.Goals as goal

pub returns-then-at-limit : goal.returns-then-at-limit
unfolding puts
returns-then-at-limit c =
    let l : c.args.pos.0 ≤ length c.args.out.now = omega (arith, c.if-at-limit.true, c.requires) in
    rw (lt-ltb _ _ c.if-at-limit.true, le-leb _ _ l)

pub returns-then-at-out : goal.returns-then-at-out
unfolding puts
returns-then-at-out c = rw (le-ltb _ _ c.if-at-limit.false, le-leb _ _ c.if-at-out.true)

pub returns : goal.returns
unfolding puts
returns c = rw (le-ltb _ _ c.if-at-limit.false, lt-leb _ _ c.if-at-out.false)
