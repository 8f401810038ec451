use native.Mathlib.Omega.{arith}
use Prim.Native.Nat.{◌+◌}
use Rattle.chart.specs.Heights.{none}
use Rattle.chart.proofs.Fills.{fills}
use Rattle.empties.proofs.clear_empties.Goals as goal

pub returns : goal.returns
returns c =
    let f = fills 1536 (1536 + c.args.size) none c.args.notes.now (omega arith) (omega arith) (c.fill.ensures.after (λ _ e. e)) in
    record { long = f.long; below = f.below; clear = λ p h. f.inside (1536 + p) (omega arith) (omega arith) }
