use native.Mathlib.Omega.{arith}
use Rattle.tokens.proofs.Names as law
use Rattle.tokens.proofs.same_name.Goals as goal

pub overflow_add-a : goal.overflow_add-a
overflow_add-a c = let h = c.requires.left in let g = c.requires.right in omega arith

pub offset_bounds-table-a : goal.offset_bounds-table-a
offset_bounds-table-a c = let h = c.requires.left in let g = c.requires.right in omega arith

pub bounds-table-a : goal.bounds-table-a
bounds-table-a c = let h = c.requires.left in let g = c.requires.right in omega arith

pub overflow_add-b : goal.overflow_add-b
overflow_add-b c = let h = c.requires.left in let g = c.requires.right in omega arith

pub offset_bounds-table-b : goal.offset_bounds-table-b
offset_bounds-table-b c = let h = c.requires.left in let g = c.requires.right in omega arith

pub bounds-table-b : goal.bounds-table-b
bounds-table-b c = let h = c.requires.left in let g = c.requires.right in omega arith

pub returns-then-wide-count : goal.returns-then-wide-count
returns-then-wide-count c =
    law.differ c.args.table.now c.args.a c.args.b c.requires c.wide-count.result c.wide.result
    c.wide-count.ensures c.wide.ensures c.if-wide-count.true

pub overflow_add-a-2 : goal.overflow_add-a-2
overflow_add-a-2 c =
    let h = c.requires.left in let g = c.requires.right in let x = c.wide-count.ensures in let y = c.wide.ensures in let e = c.if-wide-count.false in omega arith

pub overflow_add-a-3 : goal.overflow_add-a-3
overflow_add-a-3 c =
    let h = c.requires.left in let g = c.requires.right in let x = c.wide-count.ensures in let y = c.wide.ensures in let e = c.if-wide-count.false in omega arith

pub offset_bounds-table-a-2 : goal.offset_bounds-table-a-2
offset_bounds-table-a-2 c =
    let h = c.requires.left in let g = c.requires.right in let x = c.wide-count.ensures in let y = c.wide.ensures in let e = c.if-wide-count.false in omega arith

pub bounds-table-a-2 : goal.bounds-table-a-2
bounds-table-a-2 c =
    let h = c.requires.left in let g = c.requires.right in let x = c.wide-count.ensures in let y = c.wide.ensures in let e = c.if-wide-count.false in omega arith

pub overflow_add-b-2 : goal.overflow_add-b-2
overflow_add-b-2 c =
    let h = c.requires.left in let g = c.requires.right in let x = c.wide-count.ensures in let y = c.wide.ensures in let e = c.if-wide-count.false in omega arith

pub overflow_add-b-3 : goal.overflow_add-b-3
overflow_add-b-3 c =
    let h = c.requires.left in let g = c.requires.right in let x = c.wide-count.ensures in let y = c.wide.ensures in let e = c.if-wide-count.false in omega arith

pub offset_bounds-table-b-2 : goal.offset_bounds-table-b-2
offset_bounds-table-b-2 c =
    let h = c.requires.left in let g = c.requires.right in let x = c.wide-count.ensures in let y = c.wide.ensures in let e = c.if-wide-count.false in omega arith

pub bounds-table-b-2 : goal.bounds-table-b-2
bounds-table-b-2 c =
    let h = c.requires.left in let g = c.requires.right in let x = c.wide-count.ensures in let y = c.wide.ensures in let e = c.if-wide-count.false in omega arith

pub returns-then-table-a : goal.returns-then-table-a
returns-then-table-a c =
    law.last-differs c.args.table.now c.args.a c.args.b c.requires c.wide-count.result
    c.wide.result c.wide-count.ensures c.wide.ensures c.if-wide-count.false c.if-table-a.true

pub loop-i-init : goal.loop-i-init
loop-i-init c =
    law.start c.args.table.now c.args.a c.args.b c.requires c.wide-count.result c.wide.result
    c.wide-count.ensures c.wide.ensures c.if-wide-count.false

pub overflow_add-a-in-loop-i : goal.overflow_add-a-in-loop-i
overflow_add-a-in-loop-i c =
    let h = c.requires.left in let g = c.requires.right in let l = c.loop-i-test.true in let x = c.loop-i.invariant.left in let y = c.loop-i.invariant.right in omega arith

pub overflow_add-a-in-loop-i-2 : goal.overflow_add-a-in-loop-i-2
overflow_add-a-in-loop-i-2 c =
    let h = c.requires.left in let g = c.requires.right in let l = c.loop-i-test.true in let x = c.loop-i.invariant.left in let y = c.loop-i.invariant.right in omega arith

pub offset_bounds-table-a-in-loop-i : goal.offset_bounds-table-a-in-loop-i
offset_bounds-table-a-in-loop-i c =
    let h = c.requires.left in let g = c.requires.right in let l = c.loop-i-test.true in let x = c.loop-i.invariant.left in let y = c.loop-i.invariant.right in omega arith

pub bounds-table-a-in-loop-i : goal.bounds-table-a-in-loop-i
bounds-table-a-in-loop-i c =
    let h = c.requires.left in let g = c.requires.right in let l = c.loop-i-test.true in let x = c.loop-i.invariant.left in let y = c.loop-i.invariant.right in omega arith

pub overflow_add-b-in-loop-i : goal.overflow_add-b-in-loop-i
overflow_add-b-in-loop-i c =
    let h = c.requires.left in let g = c.requires.right in let l = c.loop-i-test.true in let x = c.loop-i.invariant.left in let y = c.loop-i.invariant.right in omega arith

pub overflow_add-b-in-loop-i-2 : goal.overflow_add-b-in-loop-i-2
overflow_add-b-in-loop-i-2 c =
    let h = c.requires.left in let g = c.requires.right in let l = c.loop-i-test.true in let x = c.loop-i.invariant.left in let y = c.loop-i.invariant.right in omega arith

pub offset_bounds-table-b-in-loop-i : goal.offset_bounds-table-b-in-loop-i
offset_bounds-table-b-in-loop-i c =
    let h = c.requires.left in let g = c.requires.right in let l = c.loop-i-test.true in let x = c.loop-i.invariant.left in let y = c.loop-i.invariant.right in omega arith

pub bounds-table-b-in-loop-i : goal.bounds-table-b-in-loop-i
bounds-table-b-in-loop-i c =
    let h = c.requires.left in let g = c.requires.right in let l = c.loop-i-test.true in let x = c.loop-i.invariant.left in let y = c.loop-i.invariant.right in omega arith

pub returns-then-table-a-2 : goal.returns-then-table-a-2
returns-then-table-a-2 c =
    law.parts c.args.table.now c.args.a c.args.b c.requires c.wide-count.result c.loop-i.i c.loop-i.invariant c.loop-i-test.true c.if-table-a-2.true

pub loop-i-smaller : goal.loop-i-smaller
loop-i-smaller c = let l = c.loop-i-test.true in omega arith

pub loop-i-preserved : goal.loop-i-preserved
loop-i-preserved c =
    law.next c.args.table.now c.args.a c.args.b c.requires c.wide-count.result c.loop-i.i c.loop-i.invariant c.loop-i-test.true c.if-table-a-2.false

pub returns : goal.returns
returns c =
    law.done c.args.table.now c.args.a c.args.b c.requires c.wide-count.result c.loop-i.i c.loop-i.invariant c.loop-i-test.false
