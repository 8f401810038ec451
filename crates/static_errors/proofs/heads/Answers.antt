use native.Mathlib.Omega.{arith}
use Rattle.static_errors.proofs.Scans as law
use Rattle.static_errors.proofs.heads.Goals as goal

pub loop-k-init : goal.loop-k-init
loop-k-init c = law.start c.args.table.now c.args.end c.args.index.now

pub note-n-requires : goal.note-n-requires
note-n-requires c =
    law.ready c.args.table.now c.args.end c.args.index.now c.loop-k.index c.loop-k.n c.loop-k.k c.loop-k.invariant c.requires c.loop-k-test.true

pub token_end-k-requires : goal.token_end-k-requires
token_end-k-requires c =
    (law.ready c.args.table.now c.args.end c.args.index.now c.loop-k.index c.loop-k.n c.loop-k.k c.loop-k.invariant c.requires c.loop-k-test.true).fits

pub loop-k-smaller : goal.loop-k-smaller
loop-k-smaller c =
    let q = c.token_end-k.ensures in
    let t = c.loop-k-test.true in
    omega (arith, law.some_size c.args.table.now c.args.end c.args.index.now c.loop-k.index c.loop-k.n c.loop-k.k c.loop-k.invariant c.requires t)

pub loop-k-preserved : goal.loop-k-preserved
loop-k-preserved c =
    law.next c.args.table.now c.args.end c.args.index.now c.loop-k.index c.loop-k.n c.loop-k.k c.loop-k.invariant c.requires c.loop-k-test.true
    c.note-n.result _ c.note-n.ensures c.token_end-k.result c.token_end-k.ensures

pub shape_of-index : goal.shape_of-index
shape_of-index c = c.loop-k.invariant.same

pub returns : goal.returns
returns c =
    law.done c.args.table.now c.args.end c.args.index.now c.loop-k.index c.loop-k.n
    c.loop-k.k c.loop-k.invariant c.requires c.loop-k-test.false
