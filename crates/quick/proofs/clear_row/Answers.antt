use Prim.Native.Nat.{◌+◌}
use native.Mathlib.Omega.{arith}
use Rattle.chart.specs.Heights.{none}
use Rattle.chart.proofs.Fills.{fills}
use Rattle.quick.proofs.Columns.{row_end, emptied}
use Rattle.quick.proofs.clear_row.Goals as goal

pub returns : goal.returns
returns c =
    let g = c.requires in
    let y = c.cell-y.result in
    emptied g.4 c.cell-y.ensures
    (fills y (y + c.args.s.j.0) none c.args.main.now (omega arith) (row_end g.0 g.1 g.2 g.3 g.4 c.cell-y.ensures) (c.fill.ensures.after (λ _ e. e)))
