use mathlib.Core.Path.{◌≡◌, sym, ◌∙◌}
use Prim.Native.Nat.{ℕ}
use native.Mathlib.Omega.{arith}
use Rattle.candidates.proofs.Searches.{tells-no, tells-ne}
use Rattle.candidates.proofs.alternatives.another_derives.Goals as goal

pub returns-then-same : goal.returns-then-same
returns-then-same c =
    let taken = c.if-same.true in
    tells-no (λ w. let same = w.0 in let z : ◌≡◌ {A = ℕ} 0 1 = cc in omega arith)

pub returns : goal.returns
returns c =
    let left = c.if-same.false in
    tells-ne c.alternative_height.result 4294967295 (λ f. (left, λ e. f (c.alternative_height.ensures ∙ e))) (λ w e. w.1 (sym c.alternative_height.ensures ∙ e))
