use Rattle.rules.proofs.Whole.{here}
use Rattle.heights.proofs.Exact.{safe}
use Rattle.prepare.proofs.Rows.{fitted}
use Rattle.full.proofs.Whole.{coded}
use Rattle.tells.proofs.Tells.{not_so}
use Rattle.fixpoint.proofs.Tests.{most-by}
use Rattle.finish.proofs.Off.{not-finished}
use native.Mathlib.Omega.{arith}
use Rattle.finish.proofs.finish.Goals as goal

pub code_rules-top-requires : goal.code_rules-top-requires
code_rules-top-requires c =
    record { grammar = c.requires.grammar; ready = c.requires.ready; long = c.requires.long; small = c.requires.small; room = omega (arith, c.requires.small) }

pub fit_rows-requires : goal.fit_rows-requires
fit_rows-requires c =
    record { long = c.requires.long; small = c.requires.small; short = c.requires.short; room = omega (arith, c.requires.small); here = here c.requires.ready }

pub is_fixpoint-requires : goal.is_fixpoint-requires
is_fixpoint-requires c =
    let k = fitted (c.code_rules-top.ensures c.requires.grammar c.requires.ready) c.fit_rows.ensures in
    safe _ _ _ _ _ _ _ _ (coded {f = c.fit_rows.new.fits} k c.requires.small (omega (arith, c.requires.small, c.code_rules-top.auto.code))
    c.requires.short
    (omega (arith, c.requires.small, c.fit_rows.auto.fits))) c.requires.room

pub returns-then-not-is_fixpoint : goal.returns-then-not-is_fixpoint
returns-then-not-is_fixpoint c =
    λ g ready. not-finished (c.code_rules-top.ensures g ready) c.fit_rows.ensures ready c.requires.small
    (omega (arith, c.code_rules-top.auto.code)) (omega (arith, c.fit_rows.auto.fits)) c.requires.short
    (λ x. most-by (c.type_inv.main x)) (not_so c.is_fixpoint.ensures c.if-not-is_fixpoint.true)

pub read_off-requires : goal.read_off-requires
read_off-requires c =
    record {
      grammar = c.requires.grammar;
      ruled = c.code_rules-top.ensures c.requires.grammar c.requires.ready;
      before = _;
      rows = c.fit_rows.ensures;
      long = c.requires.long;
      small = c.requires.small;
      code-long = omega (arith, c.code_rules-top.auto.code);
      fits-long = omega (arith, c.fit_rows.auto.fits);
      short = c.requires.short;
      room = c.requires.room;
      numbers = c.requires.numbers;
      fixed = c.is_fixpoint.ensures.yes c.if-not-is_fixpoint.false;
    }

pub returns : goal.returns
returns c =
    λ g ready. c.read_off.ensures g (c.code_rules-top.ensures g ready)
