use native.Mathlib.Omega.{arith}
use mathlib.Core.Path.{refl}
use Prim.Native.Nat.{ℕ}
use lib.ListN.{length-replicate}
use Rattle.chart.proofs.Users.{all-zero}
use Rattle.heights.proofs.Exact.{safe}
use Rattle.full.proofs.Whole.{coded}
use Rattle.plain_reading.proofs.Plain.{roomy, finished-plain}
use Rattle.plain_reading.proofs.read.Goals as goal

pub prepare-top-requires : goal.prepare-top-requires
prepare-top-requires c =
    let pre = c.requires in
    record {
      grammar = pre.grammar;
      ready = pre.ready;
      long = pre.long;
      small = pre.small;
      short = pre.short;
      room = omega (arith, pre.small);
      fits-room = omega (arith, pre.small);
    }

pub fill-requires : goal.fill-requires
fill-requires c =
    let pre = c.requires in
    let code = c.prepare-top.ensures pre.grammar pre.ready in
    let a = roomy {f = c.prepare-top.new.fits} code pre
    (omega (arith, c.prepare-top.auto.code)) (omega (arith, c.prepare-top.auto.fits)) refl in
    safe _ _ _ _ _ _ _ _ (coded code a.small a.code-room a.short a.fits-room) a.room

pub walk_filled-requires : goal.walk_filled-requires
walk_filled-requires c =
    let pre = c.requires in
    let code = c.prepare-top.ensures pre.grammar pre.ready in
    record {
      grammar = pre.grammar;
      text = c.args.text.now;
      long = refl;
      ruled = code;
      roomy = roomy {f = c.prepare-top.new.fits} code pre (omega (arith, c.prepare-top.auto.code)) (omega (arith, c.prepare-top.auto.fits))
          c.fill.auto.main;
      filled = c.fill.ensures;
      marks = length-replicate {A = ℕ} 308736 0;
      notes = (length-replicate {A = ℕ} 2048 0, all-zero 2048);
      numbers = pre.numbers;
    }

pub returns : goal.returns
unfolding finished-plain
returns c =
    let pre = c.requires in
    let a = roomy {f = c.prepare-top.new.fits} (c.prepare-top.ensures pre.grammar pre.ready) pre
    (omega (arith, c.prepare-top.auto.code)) (omega (arith, c.prepare-top.auto.fits)) c.fill.auto.main in
    λ g w. c.walk_filled.ensures.answers
    (finished-plain (c.prepare-top.ensures g w) a c.walk_filled.ensures.marked c.walk_filled.ensures.noted c.fill.ensures)
