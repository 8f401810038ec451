use mathlib.Core.Path.{sym, subst, ◌∙◌}
use Prim.Native.Nat.{ℕ, ◌+◌}
use lib.ListN.{set}
use Rattle.queue.specs.Queue.{slot, Put}
use Rattle.queue.proofs.Ring.{put-new}
use Rattle.queue.proofs.enqueue.Goals as goal

pub returns : goal.returns
returns c =
    let p = c.requires in let a = c.args in let q = a.queue.now in let x = c.around-x.result in
    let h = c.wide.ensures in let k = c.wide-count.ensures in let at = c.around-x.ensures.0 ∙ (λ ι. slot (h ι) (k ι)) in
    subst (λ (z : ℕ). Put a.size q (set (set (set q x a.rule) (512 + a.rule) 1) 1025 (z + 1)) a.rule) (sym k) (put-new p.0 a.rule p.1 c.if-queue-rule-ne0.false x at)
