use Rattle.encode.proofs.Puts.{wrote-text}
use Rattle.tidy.specs.Scan.{past}
use Rattle.tidy_text.proofs.Owed.{joint-end, joint-at}
use Rattle.tidy_text.proofs.put_joint_before.Goals as goal

pub returns-then-behind-end : goal.returns-then-behind-end
returns-then-behind-end c =
    λ ts w. wrote-text (joint-end c.requires.1.inside (past 0 ts) c.if-behind-end.true (c.past_factor-behind.ensures ts w)) c.put_joint.ensures

pub returns : goal.returns
returns c =
    λ ts w. wrote-text (joint-at c.requires.1.inside (past 0 ts) c.if-behind-end.false (c.past_factor-behind.ensures ts w)) c.put_joint-2.ensures
