use mathlib.Core.Path.{◌≡◌}
use lib.ListN.{get_or}
use Rattle.listing.specs.Listing.{Sorted}
use Rattle.listing.proofs.list_rows.Given as goal

abbrev pub invariant-loop-k : goal.invariant-loop-k
invariant-loop-k l = Sorted l.code l.marks l.notes l.s.size l.s.j.0 l.k l.k l.column × (get_or l.column 512 0 ≡ get_or l.initial.column 512 0)
