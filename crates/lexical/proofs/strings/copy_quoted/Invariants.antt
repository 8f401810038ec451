use Prim.Native.Nat.{◌-◌}
use lib.ListN.{length}
use Rattle.lexical.proofs.Copies.{Copying, quoted-by}
use Rattle.lexical.proofs.strings.copy_quoted.Given as goal

abbrev pub invariant-loop-from : goal.invariant-loop-from
invariant-loop-from l = Copying (quoted-by l.q) l.text l.initial.from.0 l.initial.out l.initial.to.0 l.out l.from.0 l.to.0

abbrev pub decreases-loop-from : goal.decreases-loop-from
decreases-loop-from l = length l.text - l.from.0
