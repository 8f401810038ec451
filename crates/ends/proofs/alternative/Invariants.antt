use mathlib.Core.List.{List}
use Prim.Native.Nat.{ℕ, ◌-◌, ◌<◌}
use lib.ListN.{length}
use Rattle.bits.specs.Bits.{Has}
use Rattle.ends.specs.Spans.{OnList, Steps}
use Rattle.ends.specs.Table.{Ground, Sound}
use Rattle.ends.proofs.Rounds.{Leads}
use Rattle.ends.proofs.alternative.Given as goal

abbrev pub invariant-loop-p : goal.invariant-loop-p
invariant-loop-p l = (l.p < l.s.size) × ((L : List ℕ) → Ground l.code L l.marks l.s.size l.s.n (length l.main) → OnList L l.s.rule l.q → Sound l.code L l.marks
    l.s.size l.s.n l.s.m l.s.size l.main → (x : ℕ) → Has l.cur x → Steps l.code L l.marks l.s.n l.q l.s.m l.p x) × Leads l.code l.marks l.s.n l.main l.s.rule l.s.m l.q l.p l.cur

abbrev pub decreases-loop-p : goal.decreases-loop-p
decreases-loop-p l = l.size - l.p
