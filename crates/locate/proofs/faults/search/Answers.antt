use native.Mathlib.Omega.{arith}
use lib.ListN.{get_or}
use Rattle.static_errors.specs.Held.{rule_number}
use Rattle.locate.proofs.Search as law
use Rattle.locate.proofs.AtToken.{offset-low}
use Rattle.locate.proofs.faults.search.Goals as goal

pub loop-k-init : goal.loop-k-init
loop-k-init c =
    law.start c.args.table.now c.args.end c.args.index.now c.args.n (rule_number c.args.rule) c.requires

pub at_fault-requires : goal.at_fault-requires
at_fault-requires c =
    law.faulting c.args.table.now c.args.end c.args.index.now c.args.n (rule_number c.args.rule) c.requires c.loop-k.k
    c.loop-k.spot c.loop-k.before c.loop-k.invariant c.loop-k-test.true

pub offset-requires : goal.offset-requires
offset-requires c =
    law.fits c.args.table.now c.args.end c.args.index.now c.args.n (rule_number c.args.rule) c.requires c.loop-k.k
    c.loop-k.spot c.loop-k.before c.loop-k.invariant c.loop-k-test.true

pub overflow_add-result : goal.overflow_add-result
overflow_add-result c =
    let a = c.loop-k.invariant.small in
    let b = c.requires.short in
    let d = c.loop-k-test.true in
    omega (arith, offset-low (rule_number c.args.rule) _ c.offset.result c.offset.ensures)

pub returns-then-at_fault : goal.returns-then-at_fault
returns-then-at_fault c =
    law.hit c.args.table.now c.args.end c.args.index.now c.args.n (rule_number c.args.rule) c.requires c.loop-k.k
    c.loop-k.spot c.loop-k.before c.loop-k.invariant c.loop-k-test.true c.at_fault.result c.at_fault.ensures
    c.if-at_fault.true c.offset.result c.offset.ensures

pub bounds-table-k : goal.bounds-table-k
bounds-table-k c =
    omega (
      arith,
      law.fits c.args.table.now c.args.end c.args.index.now c.args.n (rule_number c.args.rule) c.requires c.loop-k.k
          c.loop-k.spot c.loop-k.before c.loop-k.invariant c.loop-k-test.true,
      law.some c.args.table.now c.args.end
          c.args.index.now c.args.n (rule_number c.args.rule) c.requires c.loop-k.k c.loop-k.spot c.loop-k.before c.loop-k.invariant
          c.loop-k-test.true,
    )

pub overflow_add-spot : goal.overflow_add-spot
overflow_add-spot c =
    let a = c.loop-k.invariant.small in
    let b = c.requires.short in
    let d = c.loop-k-test.true in
    omega (arith, law.few-spots (get_or c.args.table.now c.loop-k.k 0), c.spots_of-spot.ensures)

pub heads_of-before-requires : goal.heads_of-before-requires
heads_of-before-requires c =
    law.fits c.args.table.now c.args.end c.args.index.now c.args.n (rule_number c.args.rule) c.requires c.loop-k.k
    c.loop-k.spot c.loop-k.before c.loop-k.invariant c.loop-k-test.true

pub overflow_add-before : goal.overflow_add-before
overflow_add-before c =
    omega (
      arith,
      law.few-next c.args.table.now c.args.end c.args.index.now c.args.n (rule_number c.args.rule) c.requires
          c.loop-k.k c.loop-k.spot c.loop-k.before c.loop-k.invariant c.loop-k-test.true c.at_fault.result
          c.at_fault.ensures c.if-at_fault.false c.spots_of-spot.result c.heads_of-before.result c.spots_of-spot.ensures c.heads_of-before.ensures,
    )

pub token_end-k-requires : goal.token_end-k-requires
token_end-k-requires c =
    law.fits c.args.table.now c.args.end c.args.index.now c.args.n (rule_number c.args.rule) c.requires c.loop-k.k
    c.loop-k.spot c.loop-k.before c.loop-k.invariant c.loop-k-test.true

pub loop-k-smaller : goal.loop-k-smaller
loop-k-smaller c =
    omega (
      arith,
      law.some c.args.table.now c.args.end c.args.index.now c.args.n (rule_number c.args.rule) c.requires c.loop-k.k
          c.loop-k.spot c.loop-k.before c.loop-k.invariant c.loop-k-test.true,
      c.token_end-k.ensures,
      c.loop-k-test.true,
    )

pub loop-k-preserved : goal.loop-k-preserved
loop-k-preserved c =
    law.pass c.args.table.now c.args.end c.args.index.now c.args.n (rule_number c.args.rule) c.requires c.loop-k.k
    c.loop-k.spot c.loop-k.before c.loop-k.invariant c.loop-k-test.true c.at_fault.result c.at_fault.ensures
    c.if-at_fault.false c.spots_of-spot.result c.heads_of-before.result c.spots_of-spot.ensures c.heads_of-before.ensures
    c.token_end-k.result c.token_end-k.ensures

pub returns : goal.returns
returns c =
    law.none c.args.table.now c.args.end c.args.index.now c.args.n (rule_number c.args.rule) c.requires c.loop-k.k
    c.loop-k.spot c.loop-k.before c.loop-k.invariant c.loop-k-test.false
