use mathlib.Core.Bool.{false}
use mathlib.Core.Path.{◌≡◌}
use Prim.Native.Nat.{ℕ, ◌<◌, ◌≤◌}
use Rattle.text.specs.Lists.{Text, same}
use Rattle.items.specs.Linked.{NameAt, head_at}
use Rattle.items.proofs.link.find.Given as goal

abbrev pub invariant-loop-i : goal.invariant-loop-i
invariant-loop-i l = (l.i ≤ l.rules) × ((j : ℕ) → j < l.i → (x y : Text) → NameAt l.table l.at x → NameAt l.table (head_at l.table j) y → same x y ≡ false)
