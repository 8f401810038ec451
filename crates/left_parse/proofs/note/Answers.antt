use mathlib.Core.Path.{refl}
use Prim.Native.Nat.{◌+◌}
use native.Mathlib.Omega.{arith}
use lib.ListN.{length, get_or, length-set}
use Rattle.derive.specs.Derive.{left_parse}
use Rattle.left_parse.specs.Steps.{Found}
use Rattle.left_parse.proofs.Scratch.{notes-of}
use Rattle.left_parse.proofs.Notes.{some-entry, begins, going-begin, going_end}
use Rattle.left_parse.proofs.note.Goals as goal

pub look-a-requires : goal.look-a-requires
look-a-requires c = tt

pub alternative-item-requires : goal.alternative-item-requires
alternative-item-requires c = tt

pub loop-scratch-init : goal.loop-scratch-init
loop-scratch-init c =
    let f : Found c.args.table.now c.args.root (get_or c.args.parse.now 0 0) c.alternative-item.result = rw c.look-a.ensures.0 at c.alternative-item.ensures in
    let B = begins c.requires.room c.requires.parsed.3 c.alternative-item.result f in
    let N = notes-of (get_or c.args.scratch.now 0 0) (get_or c.args.scratch.now 1 0) B.tree.children in
    (refl, (N.list, 1 + length (left_parse B.tree.children), length c.requires.parsed.1, going-begin c.requires.room B N), λ F e i G. G)

pub more-requires : goal.more-requires
more-requires c = tt

pub step-h-requires : goal.step-h-requires
step-h-requires c = record { fact = c.more.ensures.0 c.loop-scratch-test.true; by_index = c.loop-scratch.invariant.1 }

pub loop-scratch-smaller : goal.loop-scratch-smaller
loop-scratch-smaller c = c.step-h.ensures.falls

pub loop-scratch-preserved : goal.loop-scratch-preserved
loop-scratch-preserved c =
    let i = c.loop-scratch.invariant in
    (omega (arith, i.0), (i.1.0, i.1.1, i.1.2, c.step-h.ensures.goes i.1.0 i.1.1 i.1.2 i.1.3), λ F e p G. c.step-h.ensures.goes F e p (i.2 F e p G))

pub bounds-scratch-0 : goal.bounds-scratch-0
bounds-scratch-0 c =
    omega (arith, c.loop-scratch.invariant.0, c.requires.room.scratch, some-entry c.requires.parsed.3)

pub bounds-scratch-1 : goal.bounds-scratch-1
bounds-scratch-1 c =
    simp length-set (omega (arith, c.loop-scratch.invariant.0, c.requires.room.scratch, some-entry c.requires.parsed.3))

pub shape_of-scratch : goal.shape_of-scratch
shape_of-scratch c = simp length-set c.loop-scratch.invariant.0

pub returns : goal.returns
returns c =
    λ g r t p.
    let f : Found c.args.table.now c.args.root (get_or c.args.parse.now 0 0)
    c.alternative-item.result = rw c.look-a.ensures.0 at c.alternative-item.ensures in
    let B = begins c.requires.room p c.alternative-item.result f in
    let N = notes-of (get_or c.args.scratch.now 0 0) (get_or c.args.scratch.now 1 0) B.tree.children in
    going_end B c.loop-scratch.scratch N (c.loop-scratch.invariant.2 N.list (1 + length (left_parse B.tree.children)) (length r)
    (going-begin c.requires.room B N)) (c.more.ensures.1 c.loop-scratch-test.false)
