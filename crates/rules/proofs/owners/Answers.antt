use native.Mathlib.Omega.{arith}
use Prim.Native.Nat.{◌-◌}
use Rattle.rules.proofs.Arrays.{own-small, own-next}
use Rattle.rules.proofs.owners.Goals as goal

pub owner_at-requires : goal.owner_at-requires
owner_at-requires c = (
  c.requires.long,
  omega (arith, c.requires.small, c.loop-p.invariant.low, c.loop-p-test.true),
  rw c.last_at-last.ensures
      (own-small (c.loop-p.p - 1) c.loop-p.p c.loop-p.invariant (omega (arith, c.loop-p-test.true))
      c.requires.small c.requires.room),
)

pub loop-p-preserved : goal.loop-p-preserved
loop-p-preserved c =
    rw (c.owner_at.ensures, c.last_at-last.ensures)
    (own-next (c.loop-p.p - 1) c.loop-p.p c.loop-p.invariant (omega (arith, c.loop-p-test.true))
    c.requires.small c.requires.room)
