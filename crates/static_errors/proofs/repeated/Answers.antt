use mathlib.Core.Path.{refl}
use native.Mathlib.Omega.{arith}
use Rattle.static_errors.proofs.Names as law
use Rattle.static_errors.proofs.repeated.Goals as goal

pub loop-i-init : goal.loop-i-init
loop-i-init c = record { low = omega arith; on = refl }

pub offset_bounds-index-i : goal.offset_bounds-index-i
offset_bounds-index-i c = let l = c.loop-i-test.true in let h = c.requires.few in omega arith

pub bounds-index-i : goal.bounds-index-i
bounds-index-i c = let l = c.loop-i-test.true in let h = c.requires.few in omega arith

pub found-requires : goal.found-requires
found-requires c =
    record { name = rw c.wide.ensures (c.requires.each c.loop-i.i c.loop-i-test.true); listing = c.requires; low = (let l = c.loop-i-test.true in omega arith) }

pub returns-then-found : goal.returns-then-found
returns-then-found c =
    law.repeat-here c.args.table.now c.args.index.now c.args.n c.loop-i.i c.requires.few
    c.loop-i.invariant c.loop-i-test.true c.wide.result c.wide.ensures c.found.result
    c.found.ensures c.if-found.true

pub loop-i-smaller : goal.loop-i-smaller
loop-i-smaller c = let l = c.loop-i-test.true in omega arith

pub loop-i-preserved : goal.loop-i-preserved
loop-i-preserved c =
    law.repeat-next c.args.table.now c.args.index.now c.args.n c.loop-i.i c.requires.few
    c.loop-i.invariant c.loop-i-test.true c.wide.result c.wide.ensures c.found.result
    c.found.ensures c.if-found.false

pub returns : goal.returns
returns c =
    law.no-repeat c.args.table.now c.args.index.now c.args.n c.loop-i.i c.requires.few c.loop-i.invariant c.loop-i-test.false
