use native.Mathlib.Omega.{arith}
use Rattle.chart.proofs.Users.{all-zero}
use Rattle.productive.proofs.Whole.{whole-start, whole-pending, whole-end}
use Rattle.productive.proofs.some_missing.Goals as goal

pub list_uses-requires : goal.list_uses-requires
list_uses-requires c =
    let f = c.requires in
    (f.shape.small, f.room, omega (arith, f.shape.small), f.shape.rule, all-zero 1024)

pub begin-requires : goal.begin-requires
begin-requires c =
    whole-start c.requires

pub drain-requires : goal.drain-requires
drain-requires c =
    record {
      kept = c.begin.ensures.moved.kept;
      users = c.list_uses.ensures;
      uses-room = omega (arith, c.requires.shape.small, c.list_uses.auto.uses);
      pending = whole-pending c.requires c.begin.ensures;
    }

pub returns : goal.returns
returns c =
    whole-end c.requires c.begin.ensures c.drain.ensures c.any_missing.ensures
