use Prim.Native.Nat.{◌+◌}
use native.Mathlib.Omega.{arith}
use Rattle.chart.proofs.Fills.{fills}
use Rattle.quick.proofs.forget.Goals as goal

pub returns : goal.returns
returns c =
    let a = c.args in
    let f = fills 3276 (3276 + a.size) a.j a.column.now (omega arith) (omega (arith, c.requires.0, c.requires.1)) (c.fill.ensures.after (λ _ e. e)) in
    record { long = f.long; before = f.below; from = λ y h. f.inside (3276 + y) (omega arith) (omega arith); full = f.above 3788 (omega (arith, c.requires.1)) }
