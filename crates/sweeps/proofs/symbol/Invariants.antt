use Prim.Native.Nat.{ℕ, ◌+◌, ◌<◌, ◌≤◌}
use Rattle.chart.specs.Heights.{none}
use Rattle.heights.specs.Table.{split_of}
use Rattle.sweeps.proofs.symbol.Given as goal

abbrev pub invariant-loop-m : goal.invariant-loop-m
invariant-loop-m it =
    (it.i ≤ it.m) × (it.m ≤ it.j + 1) × ((l : ℕ) → it.i ≤ l → l < it.m → it.layer.height < none → it.layer.height < split_of it.code it.main it.layer.n it.p it.i it.j l)
