use native.Mathlib.Omega.{arith}
use Rattle.left_parse.proofs.Items.{named-holding}
use Rattle.xml_shape.proofs.Laws.{searched-begin, searched-hit, searched-next, searched-end}
use Rattle.xml_shape.proofs.is_seen.Goals as goal

pub loop-i-init : goal.loop-i-init
loop-i-init c = searched-begin c.args.table.now c.args.seen.now c.args.count c.args.token

pub look-other-requires : goal.look-other-requires
look-other-requires c = tt

pub same_if_named-requires : goal.same_if_named-requires
same_if_named-requires c = tt

pub returns-then-same_if_named : goal.returns-then-same_if_named
returns-then-same_if_named c =
    record {
      is = searched-hit c.args.table.now c.args.seen.now c.args.count c.args.token c.loop-i.i c.loop-i-test.true c.loop-i.invariant c.look-other.result
          c.look-other.ensures.0 c.same_if_named.result
          (λ k l x y N M. c.same_if_named.ensures x y (named-holding N) (named-holding M)) c.if-same_if_named.true;
    }

pub loop-i-smaller : goal.loop-i-smaller
loop-i-smaller c = omega (arith, c.loop-i-test.true)

pub loop-i-preserved : goal.loop-i-preserved
loop-i-preserved c =
    searched-next c.args.table.now c.args.seen.now c.args.count c.args.token c.loop-i.i c.loop-i-test.true c.loop-i.invariant c.look-other.result
    c.look-other.ensures.0 c.same_if_named.result
    (λ k l x y N M. c.same_if_named.ensures x y (named-holding N) (named-holding M)) c.if-same_if_named.false

pub returns : goal.returns
returns c = record { is = searched-end c.args.table.now c.args.seen.now c.args.count c.args.token c.loop-i.i (omega (arith, c.loop-i-test.false)) c.loop-i.invariant }
