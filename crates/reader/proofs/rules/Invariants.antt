use Prim.Native.Nat.{◌-◌}
use lib.ListN.{length}
use Rattle.reader.proofs.RulesLoop.{Context}
use Rattle.reader.proofs.rules.Given as goal

abbrev pub invariant-loop-u : goal.invariant-loop-u
invariant-loop-u l = Context l.text l.initial.from.0 l.initial.out l.initial.to.0 l.out l.from.0 l.to.0

abbrev pub decreases-loop-u : goal.decreases-loop-u
decreases-loop-u l = length l.text - l.from.0
