use native.Mathlib.Omega.{arith}
use Rattle.spacing.proofs.Places.{is-ch, not-ch}
use Rattle.sets.proofs.Sets.{seen-in}
use Rattle.sets.proofs.Listing.{filled_none, filled-open, filled-cell, filled-shut}
use Rattle.sets.proofs.filled_set.Goals as goal

pub returns-in_err-w : goal.returns-in_err-w
returns-in_err-w c =
    let args = c.args in
    rw c.from_residual.ensures (filled_none args.text.now args.p.0 c.in_err-w.ensures)

pub returns-then-peek-ne-CLOSE_SQUARE : goal.returns-then-peek-ne-CLOSE_SQUARE
returns-then-peek-ne-CLOSE_SQUARE c =
    let args = c.args in
    filled-open args.text.now args.p.0 args.out.now args.at.0 _ _ _ c.in_ok-w.ensures
    (not-ch c.peek.ensures 0x5d c.if-peek-ne-CLOSE_SQUARE.true)

pub token-requires : goal.token-requires
token-requires c =
    let args = c.args in
    let pre = c.requires in (
      (seen-in _ _ _ 0x5d c.peek.ensures c.if-peek-ne-CLOSE_SQUARE.false (omega arith)),
      filled-cell args.text.now args.p.0 args.out.now args.at.0 _ _ _ c.in_ok-w.ensures (pre)
          c.members.auto.out (seen-in _ _ _ 0x5d c.peek.ensures c.if-peek-ne-CLOSE_SQUARE.false (omega arith)),
    )

pub returns : goal.returns
returns c =
    let args = c.args in
    filled-shut args.text.now args.p.0 args.out.now args.at.0 _ _ _ c.in_ok-w.ensures
    (is-ch c.peek.ensures 0x5d c.if-peek-ne-CLOSE_SQUARE.false) c.token.result _ c.token.ensures
