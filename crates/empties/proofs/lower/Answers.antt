use mathlib.Core.Path.{ap}
use Prim.Native.Nat.{ℕ, ◌+◌}
use native.Mathlib.Omega.{arith}
use Rattle.empties.proofs.Moves.{lower-row}
use Rattle.empties.proofs.lower.Goals as goal
use Rattle.empties.proofs.lower.Goals.{else-code-p-eq-AT_END-via-then-code-p-eq-AT_END+else-code-p-eq0, else-code-p-eq-AT_END-via-else-code-p-eq-AT_END}

pub returns-then-v-notes : goal.returns-then-v-notes
returns-then-v-notes c =
    let a = c.args in
    lower-row c.requires.0 a.notes.now c.requires.1 a.p c.offer-v.result (1536 + c.row-x.result) c.requires.2
    (λ z o. elim c.else-code-p-eq-AT_END.branch [
      | else-code-p-eq-AT_END-via-then-code-p-eq-AT_END+else-code-p-eq0 w ↦ w.if-code-p-eq0.false o
      | else-code-p-eq-AT_END-via-else-code-p-eq-AT_END w ↦ w.if-code-p-eq-AT_END.false z
    ])
    c.offer-v.ensures (ap (λ (y : ℕ). 1536 + y) c.row-x.ensures.0) c.if-v-notes.true (omega arith)
