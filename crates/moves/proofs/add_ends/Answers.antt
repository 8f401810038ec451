use native.Mathlib.Omega.{arith}
use Prim.Native.Nat.{◌*◌}
use Rattle.moves.proofs.Cells.{column-on, lanes-inside, masked-word, masked-next}
use Rattle.bits.proofs.Laws.{adds_none, adds-as}
use Rattle.moves.proofs.add_ends.Goals as goal

pub lanes-count-requires : goal.lanes-count-requires
lanes-count-requires c = (c.requires.0.short, omega (arith, c.requires.1))

pub loop-w-init : goal.loop-w-init
loop-w-init c = (omega arith, adds_none (λ x z. omega (arith, z.0.derived.order, z.0.low, z.1)))

pub column-requires : goal.column-requires
column-requires c = (c.requires.0.short, (omega (arith, c.loop-w-test.true)))

pub cell-at-requires : goal.cell-at-requires
cell-at-requires c =
    let z = column-on c.args.n c.loop-w.w (32 * c.args.v) (omega (arith, c.loop-w-test.true)) (omega (arith, c.requires.1)) (omega (arith, c.loop-w.invariant.0)) in
    (c.requires.0.short, c.requires.0.small, omega (arith, c.column.ensures, z.0), omega (arith, c.column.ensures, z.1))

pub gather-requires : goal.gather-requires
gather-requires c = (
  c.lanes-count.ensures.0,
  lanes-inside c.requires.0 (omega (arith, c.loop-w-test.true)) c.loop-w.invariant.0 c.lanes-count.ensures.1 c.lanes-count.ensures.0
      (rw c.column.ensures at c.cell-at.ensures),
)

pub loop-w-preserved : goal.loop-w-preserved
loop-w-preserved c =
    let pre = c.requires in (
      omega (arith, c.loop-w.invariant.0),
      masked-next c.loop-w.invariant.1
          (masked-word _ _ _ _ _ _ _ (rw c.column.ensures at c.cell-at.ensures) (omega (arith, c.loop-w-test.true)) c.loop-w.invariant.0
          c.lanes-count.ensures.0 c.lanes-count.ensures.1 c.lanes-count.ensures.2 pre.2 c.gather.ensures c.loop-w.next pre.0.short
          c.join.ensures),
    )

pub returns : goal.returns
returns c = adds-as _ c.loop-w.invariant.1 (λ x z. z.0) (λ x z. (z, omega (arith, z.derived.inside, c.loop-w-test.false)))
