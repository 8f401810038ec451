use mathlib.Core.Path.{◌≡◌}
use Prim.Native.Nat.{◌≤◌}
use lib.ListN.{length}
use Rattle.sparse.specs.Column.{UnitsTo}
use Rattle.listing.proofs.note_units.Given as goal

abbrev pub invariant-loop-p : goal.invariant-loop-p
invariant-loop-p l = (l.p ≤ l.size) × UnitsTo l.code l.notes l.p l.column × (length l.column ≡ 3789)
