use native.Mathlib.Omega.{arith}
use Prim.Native.Nat.{◌+◌, ◌-◌}
use mathlib.Core.Path.{◌≡◌, subst}
use lib.ListN.{length-set}
use Rattle.chart.specs.Code.{owner_at}
use Rattle.productive.specs.State.{Done, tail_of}
use Rattle.productive.proofs.Scan.{owner-below}
use Rattle.productive.proofs.Steps.{mark-old, mark-new, tail-below}
use Rattle.productive.proofs.mark.Goals as goal

pub returns-then-owner-eq0 : goal.returns-then-owner-eq0
returns-then-owner-eq0 c =
    mark-old c.requires.0 c.requires.1 (λ e o. absurd (omega (arith, c.if-owner-eq0.true)))

pub bounds-missing-e : goal.bounds-missing-e
bounds-missing-e c =
    omega (arith, c.wide-e.ensures, owner-below c.requires.0.shape c.requires.1 c.if-owner-eq0.false, c.requires.0.missing-long)

pub returns-then-missing-e-eq0 : goal.returns-then-missing-e-eq0
returns-then-missing-e-eq0 c =
    mark-old c.requires.0 c.requires.1
    (λ e o. subst (Done c.args.missing.now) (let z : c.wide-e.result ≡ e = omega (arith, c.wide-e.ensures) in z) c.if-missing-e-eq0.true)

pub bounds-queue-at : goal.bounds-queue-at
bounds-queue-at c =
    let c₀ = c.args.code.now in
    let e = owner_at c₀ c.args.p - 1 in
    let Q = c.args.queue.now in
    omega (
      arith,
      c.wide-at.ensures,
      length-set Q 0 (tail_of Q + 1),
      c.requires.0.queue_long,
      tail-below c.requires.0 c.requires.1 e (omega (arith, c.if-owner-eq0.false)) (rw c.wide-e.ensures at c.if-missing-e-eq0.false),
    )

pub returns : goal.returns
returns c =
    rw (c.wide-e.ensures, c.wide-at.ensures)
    (mark-new c.requires.0 c.requires.1 (owner_at c.args.code.now c.args.p - 1) (omega (arith, c.if-owner-eq0.false))
    (rw c.wide-e.ensures at c.if-missing-e-eq0.false))
