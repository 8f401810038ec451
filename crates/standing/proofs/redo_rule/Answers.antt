use native.Mathlib.Omega.{arith}
use mathlib.Core.Path.{refl}
use Prim.Native.Nat.{ℕ}
use lib.ListN.{length-replicate}
use Rattle.ends.proofs.Reach.{link_here, link-less, link-next}
use Rattle.standing.proofs.Closing.{rulings-start, rulings-next, rulings-end}
use Rattle.standing.proofs.redo_rule.Goals as goal

pub overflow_add-rule : goal.overflow_add-rule
overflow_add-rule c =
    omega (arith, c.requires.1, c.requires.2)

pub take_row-requires : goal.take_row-requires
take_row-requires c =
    omega (arith, c.requires.1, c.requires.2)

pub overflow_mul-rule : goal.overflow_mul-rule
overflow_mul-rule c =
    omega (arith, c.requires.1, c.requires.2)

pub offset_bounds-firsts-rule : goal.offset_bounds-firsts-rule
offset_bounds-firsts-rule c =
    omega (arith, c.requires.1, c.requires.2)

pub bounds-firsts-rule : goal.bounds-firsts-rule
bounds-firsts-rule c =
    omega (arith, c.requires.2, c.requires.0.room)

pub loop-x-init : goal.loop-x-init
loop-x-init c =
    rw c.wide-x.ensures (c.requires.0.last _ c.requires.2, λ u z. z, rulings-start refl)

pub overflow_sub-x : goal.overflow_sub-x
overflow_sub-x c = omega (arith, c.loop-x-test.true)

pub join_row-more-requires : goal.join_row-more-requires
join_row-more-requires c =
    omega (arith, c.loop-x.invariant.0, c.requires.1, c.loop-x-test.true)

pub overflow_mul-x : goal.overflow_mul-x
overflow_mul-x c =
    omega (arith, c.loop-x.invariant.0, c.requires.1)

pub overflow_sub-x-in-loop-x : goal.overflow_sub-x-in-loop-x
overflow_sub-x-in-loop-x c =
    omega (arith, c.loop-x-test.true)

pub offset_bounds-firsts-x : goal.offset_bounds-firsts-x
offset_bounds-firsts-x c =
    omega (arith, c.loop-x.invariant.0, c.requires.1)

pub bounds-firsts-x : goal.bounds-firsts-x
bounds-firsts-x c =
    omega (arith, c.loop-x.invariant.0, c.loop-x-test.true, c.requires.0.room)

pub loop-x-smaller : goal.loop-x-smaller
loop-x-smaller c =
    omega (arith, c.wide-x-in-loop-x.ensures, link-less c.requires.0 c.requires.2 c.loop-x-test.true c.loop-x.invariant.1)

pub loop-x-preserved : goal.loop-x-preserved
loop-x-preserved c =
    let linked = c.requires.0 in
    let inside = c.requires.2 in
    let test = c.loop-x-test.true in
    let inv = c.loop-x.invariant in
    rw c.wide-x-in-loop-x.ensures (
      omega (arith, inv.0, link-less linked inside test inv.1),
      link-next linked inside test inv.1,
      rulings-next c.loop-x.grew c.join_row-more.result (omega (arith, inside, c.requires.1)) (omega (arith, inv.0, test, c.requires.1)) c.take_row.ensures
          (link_here linked inside test inv.1) test refl inv.2 c.join_row-more.ensures refl,
    )

pub returns : goal.returns
returns c =
    rulings-end (omega (arith, c.loop-x-test.false)) (length-replicate {A = ℕ} 8 0) c.take_row.ensures c.loop-x.invariant.2
