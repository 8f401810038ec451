use native.Mathlib.Omega.{arith}
use mathlib.Core.Path.{◌≡◌}
use Prim.Native.Nat.{◌+◌, ◌*◌}
use Rattle.bits.proofs.Laws.{adds_none, lit-zero}
use Rattle.moves.proofs.Cells.{landed-start, landed-next, landed-end}
use Rattle.moves.proofs.shift_word.Goals as goal

pub returns-then-word-eq0 : goal.returns-then-word-eq0
returns-then-word-eq0 c = adds_none (λ x m. lit-zero c.if-word-eq0.true m.lit)

pub loop-b-init : goal.loop-b-init
loop-b-init c = (omega arith, landed-start)

pub land-requires : goal.land-requires
land-requires c =
    (c.requires.0, omega (arith, c.loop-b-test.true, c.requires.1, c.wide.ensures))

pub loop-b-preserved : goal.loop-b-preserved
loop-b-preserved c = (
  omega (arith, c.loop-b-test.true),
  landed-next c.loop-b-test.true (let z : 32 * c.args.v + c.wide.result
      ≡ 32 * c.args.v + c.loop-b.b = omega (arith, c.wide.ensures) in z)
      c.lit.ensures.0 c.lit.ensures.1 c.loop-b.invariant.1 c.land.ensures,
)

pub returns : goal.returns
returns c = landed-end c.loop-b-test.false c.loop-b.invariant.1
