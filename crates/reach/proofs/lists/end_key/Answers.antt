use mathlib.Core.Path.{sym, ap, ◌∙◌}
use Prim.Native.Nat.{ℕ, ◌+◌}
use Rattle.reach.proofs.Keys.{end_none, end-some}
use Rattle.reach.proofs.lists.end_key.Goals as goal

pub returns-then-code-p-ne-AT_END : goal.returns-then-code-p-ne-AT_END
returns-then-code-p-ne-AT_END c = sym (end_none _ _ c.if-code-p-ne-AT_END.true)

pub returns : goal.returns
returns c = ap (λ (x : ℕ). x + 1) (c.requires.0.homes c.args.p c.requires.1) ∙ sym (end-some _ _ c.if-code-p-ne-AT_END.false)
