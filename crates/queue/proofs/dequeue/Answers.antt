use mathlib.Core.Path.{ap, ◌∙◌}
use Prim.Native.Nat.{ℕ}
use lib.ListN.{get_or}
use Rattle.queue.specs.Queue.{slot}
use Rattle.queue.proofs.Ring.{taken}
use Rattle.queue.proofs.dequeue.Goals as goal

pub returns : goal.returns
returns c =
    let p = c.requires in let q = c.args.queue.now in let e = c.wide-rule.ensures ∙ ap (λ (z : ℕ). get_or q z 0) c.wide-head.ensures in
    let g = c.around.ensures.0 ∙ ap (λ (z : ℕ). slot z 1) c.wide-head.ensures in taken p.0 p.1 c.wide-rule.result c.around.result e g
