use mathlib.Core.Path.{◌≡◌}
use Prim.Native.Nat.{◌*◌, ◌≤◌}
use Rattle.full.specs.Whole.{PlaceMarked}
use Rattle.full.proofs.mark_place.Given as goal

abbrev pub invariant-loop-p : goal.invariant-loop-p
invariant-loop-p l = PlaceMarked l.code l.fits l.size l.i l.p l.initial.marks l.marks × (l.base ≡ 1536 * l.i) × (l.p ≤ l.size)
