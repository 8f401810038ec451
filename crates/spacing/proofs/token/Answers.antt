use native.Mathlib.Omega.{arith}
use Rattle.spacing.specs.Answers.{Skipped}
use Rattle.spacing.proofs.Table.{one_number}
use Rattle.spacing.proofs.token.Goals as goal

pub returns : goal.returns
returns c =
    let pre = c.requires in let k : Skipped _ _ _ = rw c.after.ensures at c.in_ok-q.ensures in let n = k.onward in record {
      value = tt;
      same = k.past;
      onward = k.onward;
      wrote = one_number _ _ _ pre.1;
      cells = omega arith;
    }
