use mathlib.Core.Path.{◌≡◌}
use Prim.Native.Nat.{ℕ, ◌<◌, ◌≤◌}
use lib.ListN.{length, get_or}
use Rattle.bits.specs.Bits.{Lit}
use Rattle.bits.proofs.spread.Given as goal

abbrev pub invariant-loop-b : goal.invariant-loop-b
invariant-loop-b l = (l.b ≤ 32) × ((x : ℕ) → x < l.b → (get_or l.on x 0 ≡ 0 → ⊥) → Lit l.word x) × (length l.on ≡ length l.initial.on)
    × (length l.initial.on ≡ 32 → (x : ℕ) → x < l.b → Lit l.word x → get_or l.on x 0 ≡ 4294967295)
