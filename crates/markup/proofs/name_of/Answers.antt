use mathlib.Core.Path.{ap, ◌∙◌}
use Prim.Native.Nat.{ℕ, ◌+◌}
use lib.ListN.{take, drop}
use Rattle.markup.proofs.Pieces.{named_count, named-text}
use Rattle.markup.proofs.name_of.Goals as goal

pub returns : goal.returns
returns c =
    λ k n N.
    let a = c.args in
    c.stretch.ensures ∙ ap (λ (j : ℕ). take j (drop (a.token + 2) a.table.now)) (c.look-count.ensures.0 ∙ named_count N) ∙ named-text N
