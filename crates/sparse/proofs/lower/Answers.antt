use native.Mathlib.Omega.{arith}
use Rattle.sparse.proofs.Rows.{lowered-at, kept_at}
use Rattle.sparse.proofs.lower.Goals as goal

pub returns-then-v-main : goal.returns-then-v-main
returns-then-v-main c =
    lowered-at c.args.main.now c.cell-x.result _ c.args.v c.cell-x.ensures c.if-v-main.true

pub returns : goal.returns
returns c =
    kept_at c.args.main.now c.cell-x.result _ c.args.v c.cell-x.ensures (omega (arith, c.if-v-main.false))
