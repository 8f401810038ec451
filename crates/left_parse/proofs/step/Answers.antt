use mathlib.Core.Path.{◌≡◌, sym, ◌∙◌}
use Prim.Native.Nat.{ℕ, ◌≤◌, ◌<◌}
use native.Mathlib.Omega.{arith}
use Rattle.left_parse.proofs.Items.{spells-kind}
use Rattle.left_parse.proofs.Walks.{positive}
use Rattle.left_parse.proofs.Notes.{stepped-leaf, enters-fit, stepped-enter, leaves-fit, stepped-leave}
use Rattle.left_parse.proofs.After.{small_of}
use Rattle.left_parse.proofs.step.Goals as goal

two : (k n : ℕ) → k ≡ n → (k ≡ 1 → ⊥) → k < 5 → (n ≡ 0 → ⊥) → (2 ≤ n) × (n ≤ 4)
two k n e a b z = omega arith

five : (k n : ℕ) → k ≡ n → 5 ≤ k → 5 ≤ n
five k n e h = omega arith

pub skip-requires : goal.skip-requires
skip-requires c = small_of c.requires.by_index.3.walk

pub returns-then-k-eq-TERMINAL : goal.returns-then-k-eq-TERMINAL
returns-then-k-eq-TERMINAL c =
    let s = c.skip.ensures in
    rw s.spot (stepped-leaf c.requires.by_index.3 (sym c.kind_at-k.ensures ∙ c.if-k-eq-TERMINAL.true) s.w s.wide)

pub enter-requires : goal.enter-requires
enter-requires c =
    let G = c.requires.by_index.3 in
    let k = two c.kind_at-k.result _ c.kind_at-k.ensures c.if-k-eq-TERMINAL.false c.if-k-lt-ALTERNATIVE_END.true (spells-kind G.walk.spells) in
    enters-fit G k.0 k.1

pub returns-then-k-lt-ALTERNATIVE_END : goal.returns-then-k-lt-ALTERNATIVE_END
returns-then-k-lt-ALTERNATIVE_END c =
    let G = c.requires.by_index.3 in
    let k = two c.kind_at-k.result _ c.kind_at-k.ensures c.if-k-eq-TERMINAL.false c.if-k-lt-ALTERNATIVE_END.true (spells-kind G.walk.spells) in
    stepped-enter G k.0 k.1 c.enter.ensures

pub leave-requires : goal.leave-requires
leave-requires c =
    let G = c.requires.by_index.3 in
    let k = five c.kind_at-k.result _ c.kind_at-k.ensures c.if-k-lt-ALTERNATIVE_END.false in
    leaves-fit G k (positive c.args.h.inner (λ z. c.requires.fact (k, z)))

pub returns : goal.returns
returns c =
    let G = c.requires.by_index.3 in
    let k = five c.kind_at-k.result _ c.kind_at-k.ensures c.if-k-lt-ALTERNATIVE_END.false in
    stepped-leave G k (positive c.args.h.inner (λ z. c.requires.fact (k, z))) c.leave.ensures
