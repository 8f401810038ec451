use native.Mathlib.Omega.{arith}
use mathlib.Core.Path.{◌≡◌}
use Prim.Native.Nat.{ℕ, ◌≤◌, ◌<◌}
use Rattle.left_parse.proofs.Items.{spells-kind}
use Rattle.left_parse.proofs.Walks.{positive}
use Rattle.judge.proofs.Tracks.{leaves}
use Rattle.judge.proofs.Moves.{moved-leave}
use Rattle.judge.proofs.step.Goals as goal

two : (k n : ℕ) → k ≡ n → (k ≡ 1 → ⊥) → k < 5 → (n ≡ 0 → ⊥) → (2 ≤ n) × (n ≤ 4)
two k n e a b z = omega arith

five : (k n : ℕ) → k ≡ n → 5 ≤ k → 5 ≤ n
five k n e h = omega arith

pub on_node-requires : goal.on_node-requires
on_node-requires c =
    let w = c.requires.1 in
    let t = two c.kind_at-k.result _ c.kind_at-k.ensures c.if-k-eq-TERMINAL.false c.if-k-lt-ALTERNATIVE_END.true (spells-kind w.tracks.spells) in
    (t.0, t.1, w)

pub leave-requires : goal.leave-requires
leave-requires c =
    let k = five c.kind_at-k.result _ c.kind_at-k.ensures c.if-k-lt-ALTERNATIVE_END.false in
    leaves c.requires.1 (positive c.args.h.inner (λ z. c.requires.0 (k, z)))

pub returns : goal.returns
returns c =
    let k = five c.kind_at-k.result _ c.kind_at-k.ensures c.if-k-lt-ALTERNATIVE_END.false in
    moved-leave k (positive c.args.h.inner (λ z. c.requires.0 (k, z))) c.leave.ensures c.requires.1
