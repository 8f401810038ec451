use native.Mathlib.Omega.{arith}
use Prim.Native.Nat.{ℕ}
use lib.ListN.{length-replicate}
use Rattle.chart.proofs.Users.{all-zero}
use Rattle.ends.proofs.Laws.{ground-as}
use Rattle.standing.proofs.Rows.{no_member}
use Rattle.confirm.proofs.Reaches.{ground-for, confirmed}
use Rattle.confirm.proofs.find.Goals as goal

pub list_firsts-requires : goal.list_firsts-requires
list_firsts-requires c =
    (c.requires.tokened, omega (arith, c.requires.tokened.shape.small, length-replicate {A = ℕ} 1024 0), all-zero 1024)

pub fill-requires : goal.fill-requires
fill-requires c =
    (ground-for c.requires c.list_firsts.ensures, c.requires.notes-long)

pub stand-requires : goal.stand-requires
stand-requires c = (
  record {
    ground = ground-as c.fill.ensures.long (ground-for c.requires c.list_firsts.ensures);
    sound = c.fill.ensures.sound;
    complete = c.fill.ensures.complete;
    root = c.requires.root;
    inside = c.requires.inside;
  },
  no_member,
  length-replicate {A = ℕ} 8192 0,
)

pub sure-requires : goal.sure-requires
sure-requires c =
    record { tokened = c.requires.tokened; short = c.requires.short; on = omega arith }

pub shape_of-main : goal.shape_of-main
shape_of-main c =
    c.fill.ensures.long

pub returns : goal.returns
returns c =
    (c.fill.ensures.long, confirmed c.requires.long c.requires.tokened.shape.small c.list_firsts.ensures c.stand.ensures c.sure.ensures)
