use native.Mathlib.Omega.{arith}
use Prim.Native.Nat.{ℕ, ◌≤◌}
use mathlib.Core.Path.{refl}
use lib.ListN.{length, length-replicate}
use Rattle.chart.proofs.Users.{all-zero}
use Rattle.left_pass.proofs.Places.{keying-next, root-waking, place-start, place-closing, place-next, place_end}
use Rattle.left_pass.proofs.left.Goals as goal

pub list_dots-requires : goal.list_dots-requires
list_dots-requires c =
    record {
      keying = keying-next c.requires.given.shape (length-replicate {A = ℕ} 1537 0)
          c.homes.ensures c.open_dots.ensures;
      room = omega (arith, c.requires.given.shape.small);
      none = all-zero 1024;
    }

pub list_dots-requires-2 : goal.list_dots-requires-2
list_dots-requires-2 c =
    record {
      keying = keying-next c.requires.given.shape
          (length-replicate {A = ℕ} 1537 0) c.homes.ensures
          c.open_dots.ensures;
      room = omega (arith, c.requires.given.shape.small);
      none = all-zero 1024;
    }

pub wake-requires : goal.wake-requires
wake-requires c = root-waking c.requires c.homes.ensures
    c.open_dots.ensures (all-zero 1537) (length-replicate {A = ℕ} 1537 0)
    c.list_dots.ensures

pub loop-i-init : goal.loop-i-init
loop-i-init c =
    let p = place-start c.requires c.homes.ensures c.open_dots.ensures (all-zero 1537) (length-replicate {A = ℕ} 1537 0) c.list_dots.ensures c.wake.ensures in
    (p, omega arith, refl)

pub close-requires : goal.close-requires
close-requires c = place-closing c.requires.given
    c.loop-i.invariant.0 (omega (
      arith,
      c.loop-i-test.true,
      c.loop-i.invariant.2,
    ))
    c.list_dots.ensures c.list_dots-2.ensures c.collect.ensures

pub loop-i-preserved : goal.loop-i-preserved
loop-i-preserved c =
    let on : c.loop-i.i ≤ length
    c.args.text.now = omega (
      arith,
      c.loop-i-test.true,
      c.loop-i.invariant.2,
    ) in
    let p = place-next c.requires.given c.loop-i.invariant.0 on c.list_dots.ensures
    c.list_dots-2.ensures c.collect.ensures c.close.ensures c.shift.ensures in (
      p,
      omega (arith, c.loop-i-test.true),
      c.loop-i.invariant.2,
    )

pub returns : goal.returns
returns c = place_end c.loop-i.invariant.0 c.loop-i.invariant.2 (omega (arith, c.loop-i-test.false))
