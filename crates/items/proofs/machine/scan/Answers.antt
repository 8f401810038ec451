use native.Mathlib.Omega.{arith}
use mathlib.Core.Path.{refl}
use Rattle.items.proofs.Scans.{going_start, going_done, front, front-ready, front-inside, front_length, front-forward, front-next}
use Rattle.items.proofs.machine.scan.Goals as goal

pub loop-at-init : goal.loop-at-init
loop-at-init c = (λ g r size h. going_start size h r refl refl refl refl, c.requires.size)

pub step-s-requires : goal.step-s-requires
step-s-requires c =
    let p = c.requires in
    let i = c.loop-at.invariant in
    front-ready c.loop-at-test.true p.inside i.1 (front c.loop-at-test.true p.inside i.1 (i.0 p.tree p.readable p.size p.inside))

pub token_end-at-requires : goal.token_end-at-requires
token_end-at-requires c =
    let p = c.requires in
    let i = c.loop-at.invariant in
    let f = front c.loop-at-test.true p.inside i.1 (i.0 p.tree p.readable p.size p.inside) in
    front-inside c.loop-at-test.true p.inside i.1 f (c.step-s.ensures f.from f.to f.rep f.act f.fit)

pub loop-at-smaller : goal.loop-at-smaller
loop-at-smaller c =
    let p = c.requires in
    let i = c.loop-at.invariant in
    let f = front c.loop-at-test.true p.inside i.1 (i.0 p.tree p.readable p.size p.inside) in
    let r = c.step-s.ensures f.from f.to f.rep f.act f.fit in
    let n = front-forward c.loop-at-test.true p.inside i.1 f r in
    omega (arith, c.token_end-at.ensures, front_length c.loop-at-test.true p.inside i.1 f r, n.0, n.1)

pub loop-at-preserved : goal.loop-at-preserved
loop-at-preserved c =
    let p = c.requires in
    let i = c.loop-at.invariant in
    let e = c.step-s.ensures in
    let f = front c.loop-at-test.true p.inside i.1 (i.0 p.tree p.readable p.size p.inside) in (
      λ g r size h.
          let k = front c.loop-at-test.true p.inside i.1 (i.0 g r size h) in
          front-next c.loop-at-test.true p.inside i.1 k (e k.from k.to k.rep k.act k.fit) c.token_end-at.result c.token_end-at.ensures,
      (e f.from f.to f.rep f.act f.fit).has.size,
    )

pub returns : goal.returns
returns c =
    λ g r. going_done c.requires.size c.requires.inside r c.loop-at-test.false (c.loop-at.invariant.0 g r c.requires.size c.requires.inside)
