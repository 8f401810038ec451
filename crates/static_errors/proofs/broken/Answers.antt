use native.Mathlib.Omega.{arith}
use lib.ListN.{take}
use Rattle.static_errors.specs.Held.{asked_number}
use Rattle.static_errors.specs.Scan.{names_at, fails}
use Rattle.tokens.proofs.Forms as forms
use Rattle.static_errors.proofs.Scans as law
use Rattle.static_errors.proofs.broken.Goals as goal

pub loop-k-init : goal.loop-k-init
loop-k-init c =
    law.begin c.args.table.now c.args.end (fails (asked_number c.args.rule) (names_at c.args.table.now (take c.args.n c.args.index.now)))

pub breaks_asked-requires : goal.breaks_asked-requires
breaks_asked-requires c =
    let t = c.args.table.now in
    record {
      fits =
          law.fits t c.args.end c.loop-k.k
          (law.Same (fails (asked_number c.args.rule) (names_at t (take c.args.n c.args.index.now)))) c.loop-k.invariant
          c.loop-k-test.true c.requires.some;
      listing = c.requires.listing;
    }

pub returns-then-breaks_asked : goal.returns-then-breaks_asked
returns-then-breaks_asked c =
    let t = c.args.table.now in
    let hs = names_at t (take c.args.n c.args.index.now) in
    law.hit t c.args.end c.loop-k.k (asked_number c.args.rule) hs c.loop-k.invariant c.loop-k-test.true c.breaks_asked.result c.breaks_asked.ensures c.if-breaks_asked.true

pub bounds-table-k : goal.bounds-table-k
bounds-table-k c =
    let t = c.args.table.now in
    forms.first-in t c.loop-k.k
    (law.fits t c.args.end c.loop-k.k (law.Same (fails (asked_number c.args.rule) (names_at t (take c.args.n c.args.index.now)))) c.loop-k.invariant
    c.loop-k-test.true c.requires.some)

pub token_end-k-requires : goal.token_end-k-requires
token_end-k-requires c =
    let t = c.args.table.now in
    law.fits t c.args.end c.loop-k.k (law.Same (fails (asked_number c.args.rule) (names_at t (take c.args.n c.args.index.now)))) c.loop-k.invariant c.loop-k-test.true c.requires.some

pub loop-k-smaller : goal.loop-k-smaller
loop-k-smaller c =
    let t = c.args.table.now in
    let q = c.token_end-k.ensures in
    let l = c.loop-k-test.true in
    omega (arith, law.some t c.args.end c.loop-k.k (law.Same (fails (asked_number c.args.rule) (names_at t (take c.args.n c.args.index.now)))) c.loop-k.invariant l c.requires.some)

pub loop-k-preserved : goal.loop-k-preserved
loop-k-preserved c =
    let t = c.args.table.now in
    let hs = names_at t (take c.args.n c.args.index.now) in
    law.pass t c.args.end c.loop-k.k (asked_number c.args.rule) hs c.loop-k.invariant c.loop-k-test.true c.breaks_asked.result c.breaks_asked.ensures
    c.if-breaks_asked.false c.requires.some c.token_end-k.result c.token_end-k.ensures

pub returns : goal.returns
returns c =
    law.none c.args.table.now c.args.end c.loop-k.k (asked_number c.args.rule)
    (names_at c.args.table.now (take c.args.n c.args.index.now)) c.loop-k.invariant c.loop-k-test.false
