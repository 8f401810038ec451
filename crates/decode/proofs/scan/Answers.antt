use mathlib.Core.Path.{refl, sym, ◌∙◌}
use native.Mathlib.Omega.{arith}
use Rattle.decode.specs.Scan.{test_of}
use Rattle.decode.proofs.Bytes as bytes
use Rattle.decode.proofs.Scans as law
use Rattle.decode.proofs.scan.Goals as goal

pub loop-at-init : goal.loop-at-init
loop-at-init c =
    law.start (test_of c.args.pattern) c.args.bytes.now c.args.from.0 c.args.out.now c.requires

pub bounds-bytes-i : goal.bounds-bytes-i
bounds-bytes-i c = omega arith

pub after_byte-next-requires : goal.after_byte-next-requires
after_byte-next-requires c = omega (arith, c.loop-at-test.true)

pub loop-s-init : goal.loop-s-init
loop-s-init c =
    bytes.begins c.args.bytes.now c.loop-at.at.0 c.loop-at-test.true c.lead_of-s.result
    c.lead_of-s.ensures c.if-s-eq-NEVER.false c.after_byte-next.result.0 c.after_byte-next.ensures

pub bounds-bytes-j : goal.bounds-bytes-j
bounds-bytes-j c = omega (arith, c.if-bytes-j.false)

pub with_byte-s-requires : goal.with_byte-s-requires
with_byte-s-requires c =
    bytes.takes c.args.bytes.now c.loop-at.at.0 c.loop-s.next.0 c.loop-s.s c.loop-s.invariant
    c.loop-s-test.true c.if-bytes-j.false _ refl (sym c.follows.ensures ∙ c.if-not-follows.false)

pub after_byte-next-requires-in-loop-s : goal.after_byte-next-requires-in-loop-s
after_byte-next-requires-in-loop-s c = omega (arith, c.if-bytes-j.false)

pub loop-s-smaller : goal.loop-s-smaller
loop-s-smaller c =
    rw c.with_byte-s.ensures (omega (arith, c.loop-s-test.true))

pub loop-s-preserved : goal.loop-s-preserved
loop-s-preserved c =
    bytes.next c.args.bytes.now c.loop-at.at.0 c.loop-s.next.0 c.loop-s.s c.loop-s.invariant
    c.loop-s-test.true c.if-bytes-j.false _ refl (sym c.follows.ensures ∙ c.if-not-follows.false)
    c.with_byte-s.result c.with_byte-s.ensures c.after_byte-next-in-loop-s.result.0 c.after_byte-next-in-loop-s.ensures

pub after-n-requires : goal.after-n-requires
after-n-requires c =
    let w = c.loop-at.invariant.trails in let h = c.loop-at-test.true in omega arith

pub loop-at-smaller : goal.loop-at-smaller
loop-at-smaller c =
    let h = c.loop-s.invariant.begun in let l = c.loop-at-test.true in omega arith

pub loop-at-preserved : goal.loop-at-preserved
loop-at-preserved c =
    law.next c.loop-at.invariant c.loop-s.s.bits c.loop-s.next.0 c.loop-s.invariant.begun
    c.loop-s.invariant.within (bytes.done c.args.bytes.now c.loop-at.at.0 c.loop-s.next.0
    c.loop-s.s c.loop-s.invariant c.loop-s-test.false) (sym c.if-not-fits.false ∙ c.fits.ensures) _
    c.keep.ensures c.after-n.result.0 c.after-n.ensures

pub shape_of-out : goal.shape_of-out
shape_of-out c = law.same_len c.loop-at.invariant

pub returns : goal.returns
returns c = law.finish c.loop-at.invariant c.loop-at-test.false _ refl

pub shape_of-out-then-s-eq-NEVER : goal.shape_of-out-then-s-eq-NEVER
shape_of-out-then-s-eq-NEVER c =
    law.same_len c.loop-at.invariant

pub returns-then-s-eq-NEVER : goal.returns-then-s-eq-NEVER
returns-then-s-eq-NEVER c =
    law.breaks c.loop-at.invariant c.loop-at-test.true _ refl (bytes.never c.args.bytes.now
    c.loop-at.at.0 c.loop-at-test.true c.lead_of-s.result c.lead_of-s.ensures c.if-s-eq-NEVER.true)

pub shape_of-out-then-bytes-j : goal.shape_of-out-then-bytes-j
shape_of-out-then-bytes-j c =
    law.same_len c.loop-at.invariant

pub returns-then-bytes-j : goal.returns-then-bytes-j
returns-then-bytes-j c =
    law.cuts c.loop-at.invariant c.loop-at-test.true _ refl (bytes.ends c.args.bytes.now c.loop-at.at.0
    c.loop-s.next.0 c.loop-s.s c.loop-s.invariant c.loop-s-test.true c.if-bytes-j.true)

pub shape_of-out-then-not-follows : goal.shape_of-out-then-not-follows
shape_of-out-then-not-follows c =
    law.same_len c.loop-at.invariant

pub returns-then-not-follows : goal.returns-then-not-follows
returns-then-not-follows c =
    law.breaks c.loop-at.invariant c.loop-at-test.true _ refl (bytes.other c.args.bytes.now
    c.loop-at.at.0 c.loop-s.next.0 c.loop-s.s c.loop-s.invariant c.loop-s-test.true
    c.if-bytes-j.false _ refl (sym c.follows.ensures ∙ c.if-not-follows.true))

pub shape_of-out-then-not-fits : goal.shape_of-out-then-not-fits
shape_of-out-then-not-fits c =
    law.same_len c.loop-at.invariant

pub returns-then-not-fits : goal.returns-then-not-fits
returns-then-not-fits c =
    law.unfit c.loop-at.invariant c.loop-at-test.true _ refl c.loop-s.s.bits _ _ (bytes.done c.args.bytes.now
    c.loop-at.at.0 c.loop-s.next.0 c.loop-s.s c.loop-s.invariant c.loop-s-test.false) (sym
    c.if-not-fits.true ∙ c.fits.ensures)
