use Prim.Native.Nat.{◌+◌}
use lib.ListN.{length}
use Rattle.heights.proofs.Exact.{safe}
use Rattle.full.proofs.Whole.{coded}
use Rattle.fixpoint.proofs.Tests.{most-by}
use Rattle.advance.proofs.Readies.{few-rounds, round-late, round_by}
use native.Mathlib.Omega.{arith}
use Rattle.advance.proofs.round.Goals as goal

pub returns-then-most-done : goal.returns-then-most-done
returns-then-most-done c =
    λ g ready. round-late c.prepare.new.fits (c.prepare.ensures g ready) ready c.requires.small
    (omega (arith, c.requires.small, c.prepare.auto.code)) c.requires.short
    (omega (arith, c.requires.small, c.prepare.auto.fits)) c.count_rules.result c.count_rules.ensures.0
    c.count_rules.ensures.1 c.args.done c.args.main.now (omega (arith, c.if-most-done.true))

pub advance-requires : goal.advance-requires
advance-requires c =
    let x = coded {f = c.prepare.new.fits} (c.prepare.ensures c.requires.grammar c.requires.ready) c.requires.small
    (omega (arith, c.requires.small, c.prepare.auto.code)) c.requires.short
    (omega (arith, c.requires.small, c.prepare.auto.fits)) in (
      safe _ _ _ _ _ _ _ _ x c.requires.room,
      omega (arith, c.if-most-done.false),
      few-rounds c.count_rules.result (length c.args.text.now + 1)
          (omega (arith, c.count_rules.ensures.1, c.requires.small)) (omega (arith, c.requires.short)),
    )

pub returns : goal.returns
returns c =
    λ g ready. round_by c.prepare.new.fits (c.prepare.ensures g ready) ready c.requires.small
    (omega (arith, c.requires.small, c.prepare.auto.code)) c.requires.short
    (omega (arith, c.requires.small, c.prepare.auto.fits)) c.count_rules.result c.count_rules.ensures.0
    c.count_rules.ensures.1 c.args.done c.args.main.now _ _
    c.requires.room (λ x. most-by (c.slice_known-1.given x)) (omega (arith, c.if-most-done.false)) c.advance.ensures
