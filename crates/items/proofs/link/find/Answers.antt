use native.Mathlib.Omega.{arith}
use Rattle.tokens.proofs.Names.{held_whole}
use Rattle.items.proofs.Names.{not_yet, found-there}
use Rattle.items.proofs.link.find.Goals as goal

pub returns-then-same_if_named : goal.returns-then-same_if_named
returns-then-same_if_named c =
    found-there c.args.table.now c.args.rules c.args.at c.loop-i.i c.loop-i-test.true
    c.loop-i.invariant.1 c.same_if_named.result
    (λ x y h k. c.same_if_named.ensures x y (held_whole _ 12288 h) (held_whole _ 12288 k)) c.if-same_if_named.true

pub loop-i-preserved : goal.loop-i-preserved
loop-i-preserved c = (
  omega (arith, c.loop-i-test.true),
  not_yet c.args.table.now c.args.rules c.args.at
      c.loop-i.i c.loop-i-test.true c.loop-i.invariant.1 c.same_if_named.result
      (λ x y h k. c.same_if_named.ensures x y (held_whole _ 12288 h) (held_whole _ 12288 k)) c.if-same_if_named.false,
)
