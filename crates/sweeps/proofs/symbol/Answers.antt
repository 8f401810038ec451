use native.Mathlib.Omega.{arith}
use Rattle.sweeps.proofs.Offers.{symbol-yes}
use Rattle.sweeps.proofs.symbol.Goals as goal

pub returns-then-split : goal.returns-then-split
returns-then-split c =
    let a = c.args in
    λ f. symbol-yes a.code.now f a.layer.size a.layer.n a.layer.height _ c.requires.0 a.main.now a.p a.i a.j c.requires.2
    c.loop-m.m c.split.result c.loop-m.invariant.0 (omega (arith, c.loop-m-test.true)) c.split.ensures c.if-split.true
