use mathlib.Core.Path.{refl}
use native.Mathlib.Omega.{arith}
use Rattle.right_pass.proofs.Given.{given-of, lefting-of, righting-of}
use Rattle.quick_reading.proofs.Finished.{passed-left, passed-both}
use Rattle.quick_reading.proofs.flag.Goals as goal

pub left-requires : goal.left-requires
left-requires c =
    let pre = c.requires in
    lefting-of pre.code (given-of pre.code pre.long pre.small (omega (arith, pre.small, pre.code-long)) pre.short pre.marks-long) pre.none

pub returns-then-not-left : goal.returns-then-not-left
returns-then-not-left c =
    passed-left c.left.ensures c.if-not-left.true refl

pub right-requires : goal.right-requires
right-requires c =
    let pre = c.requires in
    righting-of pre.code pre.small (omega (arith, pre.small, pre.code-long)) pre.short c.left.ensures c.if-not-left.false

pub returns : goal.returns
returns c =
    passed-both c.right.ensures refl
