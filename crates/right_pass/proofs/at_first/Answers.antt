use native.Mathlib.Omega.{arith}
use Prim.Native.Nat.{◌-◌, ◌+◌}
use mathlib.Core.Path.{◌≡◌}
use Rattle.chart.specs.Code.{owner_at}
use Rattle.right_pass.proofs.Back.{first-stepped, first_done}
use Rattle.right_pass.proofs.at_first.Goals as goal

pub returns : goal.returns
returns c =
    let e = owner_at c.args.code.now
    c.args.x - 1 in
    let o : owner_at c.args.code.now
    c.args.x ≡ e + 1 = omega
    (arith, c.if-owner-eq0.false) in
    let w = rw c.wide-e.ensures at c.wake.ensures in (
      first-stepped c.requires e o w,
      first_done
          c.requires e o w,
    )
