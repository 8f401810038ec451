use mathlib.Core.Path.{refl, sym, ◌∙◌}
use Prim.Native.Nat.{◌<◌}
use native.Mathlib.Omega.{arith}
use lib.ListN.{get_or}
use Rattle.listing.proofs.Sorting.{sorted_none, sorted_all}
use Rattle.listing.proofs.list_rows.Goals as goal

pub loop-k-init : goal.loop-k-init
loop-k-init c =
    let a = c.args in
    let p = c.requires in
    (sorted_none a.code.now a.marks.now a.notes.now a.s.size a.s.j.0 a.column.now p.0 p.4 p.5, refl)

pub list_wake-requires : goal.list_wake-requires
list_wake-requires c =
    let p = c.requires in
    let r = c.loop-k.invariant.0 in
    let l : c.loop-k.k < get_or c.loop-k.column 512 0 = omega (arith, c.loop-k-test.true, c.wide-k-end.ensures, c.loop-k.invariant.1) in
    (p.0, p.2, r.listed.long, omega (arith, r.listed.count, l), (r.listed.each c.loop-k.k l).0, r.few-wakes)

pub list_hand-requires : goal.list_hand-requires
list_hand-requires c =
    let a = c.args in
    let p = c.requires in
    let l : c.loop-k.k < get_or c.loop-k.column 512 0 = omega (arith, c.loop-k-test.true, c.wide-k-end.ensures, c.loop-k.invariant.1) in
    let r = c.list_wake.ensures.0 a.marks.now a.s.j.0 l c.loop-k.invariant.0 in
    let e = c.list_wake.ensures.1 in
    (p.0, p.1, p.3, r.listed.long, omega (arith, r.listed.count, l, e), (r.listed.each c.loop-k.k (omega (arith, l, e))).0, r.few-hands)

pub loop-k-preserved : goal.loop-k-preserved
loop-k-preserved c =
    let a = c.args in
    let l : c.loop-k.k < get_or c.loop-k.column 512 0 = omega (arith, c.loop-k-test.true, c.wide-k-end.ensures, c.loop-k.invariant.1) in
    let r = c.list_wake.ensures.0 a.marks.now a.s.j.0 l c.loop-k.invariant.0 in (
      c.list_hand.ensures.0 a.notes.now (omega (arith, l, c.list_wake.ensures.1)) r,
      c.list_hand.ensures.1 ∙ c.list_wake.ensures.1 ∙ c.loop-k.invariant.1,
    )

pub shape_of-column : goal.shape_of-column
shape_of-column c =
    c.loop-k.invariant.0.listed.long ∙ sym c.requires.4.long

pub returns : goal.returns
returns c =
    let a = c.args in
    let p = c.requires in
    sorted_all a.code.now a.marks.now a.notes.now a.s.size a.s.j.0 c.loop-k.column p.0 c.loop-k.k
    (omega (arith, c.loop-k-test.false, c.wide-k-end.ensures, c.loop-k.invariant.1)) c.loop-k.invariant.0
