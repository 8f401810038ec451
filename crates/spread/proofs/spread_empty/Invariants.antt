use Prim.Native.Nat.{ℕ, ◌≤◌}
use lib.ListN.{get_or}
use Rattle.spread.specs.Spread.{Spread}
use Rattle.spread.proofs.Handing.{Done}
use Rattle.spread.proofs.spread_empty.Given as goal

abbrev pub invariant-loop-k : goal.invariant-loop-k
invariant-loop-k l =
    (l.k ≤ get_or l.initial.column 512 0) × Spread l.code l.marks l.notes l.s.size l.s.n.0 l.s.i.0 l.s.j.0 l.initial.main l.initial.column l.main l.column
    × Done l.code l.marks l.notes l.s.size l.s.n.0 l.s.i.0 l.s.j.0 (λ (q : ℕ). get_or l.initial.column q 0) l.k l.main
