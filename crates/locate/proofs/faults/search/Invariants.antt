use Prim.Native.Nat.{◌-◌}
use Rattle.static_errors.specs.Held.{rule_number}
use Rattle.locate.proofs.Search as law
use Rattle.locate.proofs.faults.search.Given as goal

abbrev pub invariant-loop-k : goal.invariant-loop-k
invariant-loop-k l = law.Sought l.table l.end l.index l.n (rule_number l.rule) l.k l.spot l.before

abbrev pub decreases-loop-k : goal.decreases-loop-k
decreases-loop-k l = l.end - l.k
