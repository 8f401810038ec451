use mathlib.Core.Path.{sym, ◌∙◌}
use native.Mathlib.Omega.{arith}
use Rattle.syntax.specs.Syntax.{bar}
use Rattle.spacing.proofs.Places.{tested}
use Rattle.sets.proofs.Listing.{listing_start, listing-room, listing_none, listing-last, bar-in, listing-bad, listing-less, listing-on}
use Rattle.sets.proofs.members.Goals as goal

pub loop-q-init : goal.loop-q-init
loop-q-init c = listing_start _ _ _ _ c.requires.place

pub member-requires : goal.member-requires
member-requires c =
    let pre = c.requires in
    listing-room _ _ _ _ _ _ _ c.loop-q.invariant (pre)

pub returns-in_err-q : goal.returns-in_err-q
returns-in_err-q c =
    let args = c.args in
    rw c.from_residual.ensures (listing_none args.text.now args.p.0 args.out.now args.at.0 c.loop-q.out c.loop-q.from.0 c.loop-q.to.0 c.loop-q.invariant
    c.in_err-q.ensures)

pub returns-then-not-bar : goal.returns-then-not-bar
returns-then-not-bar c =
    let args = c.args in
    listing-last args.text.now args.p.0 args.out.now args.at.0 c.loop-q.out c.loop-q.from.0 c.loop-q.to.0 c.loop-q.invariant _ _ _
    c.in_ok-q.ensures (tested c.peek.ensures bar (sym c.bar.ensures ∙ c.if-not-bar.true))

pub after-requires : goal.after-requires
after-requires c =
    let args = c.args in
    omega (
      arith,
      bar-in args.text.now args.p.0 args.out.now args.at.0 c.loop-q.out c.loop-q.from.0 c.loop-q.to.0 c.loop-q.invariant _ _ _
          c.in_ok-q.ensures (tested c.peek.ensures bar (sym c.bar.ensures ∙ c.if-not-bar.false)),
      c.well_formed.0,
    )

pub skip-requires : goal.skip-requires
skip-requires c =
    let args = c.args in
    omega (
      arith,
      bar-in args.text.now args.p.0 args.out.now args.at.0 c.loop-q.out c.loop-q.from.0 c.loop-q.to.0 c.loop-q.invariant _ _ _
          c.in_ok-q.ensures (tested c.peek.ensures bar (sym c.bar.ensures ∙ c.if-not-bar.false)),
      c.after.ensures,
    )

pub returns-in_err-w : goal.returns-in_err-w
returns-in_err-w c =
    let args = c.args in
    rw c.from_residual-in_err-w.ensures (listing-bad args.text.now args.p.0 args.out.now args.at.0 c.loop-q.out c.loop-q.from.0 c.loop-q.to.0 c.loop-q.invariant _ _ _
    c.in_ok-q.ensures (tested c.peek.ensures bar (sym c.bar.ensures ∙ c.if-not-bar.false))
    (rw c.after.ensures at c.in_err-w.ensures))

pub loop-q-smaller : goal.loop-q-smaller
loop-q-smaller c =
    let args = c.args in
    listing-less args.text.now args.p.0 args.out.now args.at.0 c.loop-q.out c.loop-q.from.0 c.loop-q.to.0 c.loop-q.invariant _ _ _
    c.in_ok-q.ensures (tested c.peek.ensures bar (sym c.bar.ensures ∙ c.if-not-bar.false)) _
    (rw c.after.ensures at c.in_ok-w.ensures)

pub loop-q-preserved : goal.loop-q-preserved
loop-q-preserved c =
    let args = c.args in
    listing-on args.text.now args.p.0 args.out.now args.at.0 c.loop-q.out c.loop-q.from.0 c.loop-q.to.0 c.loop-q.invariant _ _ _
    c.in_ok-q.ensures (tested c.peek.ensures bar (sym c.bar.ensures ∙ c.if-not-bar.false)) _
    (rw c.after.ensures at c.in_ok-w.ensures) c.member.auto.out
