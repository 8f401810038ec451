use mathlib.Core.Path.{refl}
use native.Mathlib.Omega.{arith}
use Rattle.static_errors.proofs.Names as law
use Rattle.static_errors.proofs.found.Goals as goal

pub loop-i-init : goal.loop-i-init
loop-i-init c = record { low = c.requires.low; on = refl }

pub offset_bounds-index-i : goal.offset_bounds-index-i
offset_bounds-index-i c = let l = c.loop-i-test.true in let h = c.requires.listing.few in omega arith

pub bounds-index-i : goal.bounds-index-i
bounds-index-i c = let l = c.loop-i-test.true in let h = c.requires.listing.few in omega arith

pub same_name-requires : goal.same_name-requires
same_name-requires c =
    record { left = c.requires.name; right = rw c.wide.ensures (c.requires.listing.each c.loop-i.i c.loop-i-test.true) }

pub returns-then-same_name : goal.returns-then-same_name
returns-then-same_name c =
    law.found_here c.args.table.now c.args.a c.args.index.now c.args.from c.args.n c.loop-i.i c.requires.listing.few c.loop-i.invariant c.loop-i-test.true
    c.wide.result c.wide.ensures c.same_name.result c.same_name.ensures c.if-same_name.true

pub loop-i-smaller : goal.loop-i-smaller
loop-i-smaller c = let l = c.loop-i-test.true in omega arith

pub loop-i-preserved : goal.loop-i-preserved
loop-i-preserved c =
    law.found-next c.args.table.now c.args.a c.args.index.now c.args.from c.args.n c.loop-i.i c.requires.listing.few c.loop-i.invariant c.loop-i-test.true
    c.wide.result c.wide.ensures c.same_name.result c.same_name.ensures c.if-same_name.false

pub returns : goal.returns
returns c =
    law.not_found c.args.table.now c.args.a c.args.index.now c.args.from c.args.n
    c.loop-i.i c.requires.listing.few c.loop-i.invariant c.loop-i-test.false
