use native.Mathlib.Omega.{arith}
use Prim.Native.Nat.{ℕ, ◌-◌, ◌≤◌}
use mathlib.Core.Path.{refl}
use lib.ListN.{length, length-replicate}
use Rattle.chart.proofs.Users.{all-zero}
use Rattle.left_pass.proofs.Places.{keying-next}
use Rattle.right_pass.proofs.Rightward.{want-waking, back_start, back_at, back-next, back_done}
use Rattle.right_pass.proofs.right.Goals as goal

pub list_dots-requires : goal.list_dots-requires
list_dots-requires c =
    record {
      keying = keying-next c.requires.shape (length-replicate {A = ℕ} 1537 0)
          c.homes.ensures c.open_dots.ensures;
      room = omega (arith, c.requires.shape.small);
      none = all-zero 1024;
    }

pub list_dots-requires-2 : goal.list_dots-requires-2
list_dots-requires-2 c =
    record {
      keying = keying-next c.requires.shape
          (length-replicate {A = ℕ} 1537 0) c.homes.ensures
          c.open_dots.ensures;
      room = omega (arith, c.requires.shape.small);
      none = all-zero 1024;
    }

pub wake-requires : goal.wake-requires
wake-requires c = want-waking c.requires c.homes.ensures
    c.open_dots.ensures (all-zero 1537) (length-replicate {A = ℕ} 1537 0)
    c.list_dots-2.ensures

pub loop-rest-init : goal.loop-rest-init
loop-rest-init c =
    let p = back_start c.requires c.homes.ensures c.open_dots.ensures (all-zero 1537) (length-replicate {A = ℕ} 1537 0) c.list_dots-2.ensures c.wake.ensures in
    (p, omega arith, refl)

pub loop-rest-preserved : goal.loop-rest-preserved
loop-rest-preserved c =
    let on : c.loop-rest.rest - 1 ≤ length
    c.args.text.now = omega (
      arith,
      c.loop-rest.invariant.1,
      c.loop-rest.invariant.2,
      c.loop-rest-test.true,
    ) in
    let a = back_at c.loop-rest.invariant.0
    c.loop-rest-test.true in
    let p = back-next c.requires a on c.list_dots.ensures
    c.list_dots-2.ensures c.collect.ensures c.close.ensures c.unshift.ensures in (
      p,
      omega (
        arith,
        c.loop-rest.invariant.1,
        c.loop-rest-test.true,
      ),
      c.loop-rest.invariant.2,
    )

pub returns : goal.returns
returns c = back_done c.loop-rest.invariant.0 (λ z. omega (arith, c.loop-rest-test.false))
