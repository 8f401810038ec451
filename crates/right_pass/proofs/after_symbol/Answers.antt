use native.Mathlib.Omega.{arith}
use Prim.Native.Nat.{◌-◌, ◌+◌}
use mathlib.Core.Path.{◌≡◌}
use Rattle.right_pass.proofs.Back.{symbol-waking, after_none, after-done, after-over, after-over-done}
use Rattle.right_pass.proofs.after_symbol.Goals as goal

pub wake-requires : goal.wake-requires
wake-requires c = rw c.wide-e.ensures (symbol-waking c.requires
    (c.args.x - 1) (omega
    (arith, c.if-x-eq0.false)) c.if-code-p-ne-AT_SYMBOL.false)

pub returns-then-marks-j-lt-WANTED : goal.returns-then-marks-j-lt-WANTED
returns-then-marks-j-lt-WANTED c =
    let p = c.args.x - 1 in
    let i : c.args.x ≡ p + 1 =
    omega (arith, c.if-x-eq0.false) in
    let w = rw c.wide-e.ensures at c.wake.ensures in (
      after_none c.requires p i
          c.if-code-p-ne-AT_SYMBOL.false w
          (rw c.wide-e.ensures at c.if-marks-j-lt-WANTED.true),
      after-done
          c.requires p i
          c.if-code-p-ne-AT_SYMBOL.false w,
    )

pub returns : goal.returns
returns c =
    let p = c.args.x - 1 in
    let i : c.args.x ≡ p + 1 = omega (
      arith,
      c.if-x-eq0.false,
    ) in
    let w = rw c.wide-e.ensures at
    c.wake.ensures in (
      after-over c.requires p i c.if-code-p-ne-AT_SYMBOL.false w c.lift.ensures,
      after-over-done
          c.requires p i c.if-code-p-ne-AT_SYMBOL.false w c.lift.ensures,
    )
