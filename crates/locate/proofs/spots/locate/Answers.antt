use native.Mathlib.Omega.{arith}
use Rattle.locate.specs.Spots.{meant}
use Rattle.locate.proofs.Walk as law
use Rattle.locate.proofs.spots.locate.Goals as goal

pub loop-i-init : goal.loop-i-init
loop-i-init c =
    law.walk_start c.args.text.now c.args.places.now

pub put-n-requires : goal.put-n-requires
put-n-requires c =
    let p = c.requires in
    let w = c.loop-i.invariant in
    let l = c.loop-i-test.true in
    (omega (arith, p.0, w.few, w.size), omega (arith, p.1))

pub step-state-requires : goal.step-state-requires
step-state-requires c =
    record {
      is = c.goes_on-on.ensures;
      shallow = law.walk-deep c.args.text.now c.args.places.now c.loop-i.places c.loop-i.n c.loop-i.i (meant c.loop-i.state) c.loop-i.invariant c.requires.1;
    }

pub loop-i-preserved : goal.loop-i-preserved
loop-i-preserved c =
    let p = c.requires in
    let w = c.loop-i.invariant in
    law.walk c.args.text.now c.args.places.now c.loop-i.places c.loop-i.n c.loop-i.i
    (meant c.loop-i.state) c.loop-i.invariant c.loop-i-test.true c.goes_on-on.result c.begins.result
    c.goes_on-on.ensures c.begins.ensures
    (omega (arith, p.0, w.few, w.size, c.loop-i-test.true)) c.put-n.result _ (meant c.step-state.result) c.put-n.ensures.0
    c.put-n.ensures.1 c.step-state.ensures

pub shape_of-places : goal.shape_of-places
shape_of-places c =
    c.loop-i.invariant.size

pub returns : goal.returns
returns c =
    law.walk_end c.args.text.now c.args.places.now c.loop-i.places c.loop-i.n c.loop-i.i
    (meant c.loop-i.state) c.loop-i.invariant c.loop-i-test.false
