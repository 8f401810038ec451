use native.Mathlib.Omega.{arith}
use Rattle.spacing.proofs.Places.{is-ch, not-ch}
use Rattle.sets.proofs.Sets.{seen-in}
use Rattle.sets.proofs.Listing.{no-set, set-bad, set_room, set-cell, set-none, set-some}
use Rattle.sets.proofs.set.Goals as goal

pub returns-then-peek-ne-OPEN_SQUARE : goal.returns-then-peek-ne-OPEN_SQUARE
returns-then-peek-ne-OPEN_SQUARE c =
    let args = c.args in
    no-set args.text.now args.p.0 (not-ch c.peek.ensures 0x5b c.if-peek-ne-OPEN_SQUARE.true)

pub token-requires : goal.token-requires
token-requires c =
    let args = c.args in
    let pre = c.requires in
    let h = seen-in args.text.now args.p.0 _ 0x5b c.peek.ensures c.if-peek-ne-OPEN_SQUARE.false (omega arith) in
    (h, omega (arith, h, pre.cells))

pub returns-in_err-v : goal.returns-in_err-v
returns-in_err-v c =
    let args = c.args in
    rw c.from_residual.ensures (set-bad args.text.now args.p.0 (is-ch c.peek.ensures 0x5b c.if-peek-ne-OPEN_SQUARE.false) c.in_err-v.ensures)

pub token-requires-then-peek-eq-CLOSE_SQUARE : goal.token-requires-then-peek-eq-CLOSE_SQUARE
token-requires-then-peek-eq-CLOSE_SQUARE c =
    let args = c.args in
    let pre = c.requires in (
      (seen-in _ _ _ 0x5d c.peek-2.ensures c.if-peek-eq-CLOSE_SQUARE.true (omega arith)),
      set-cell args.text.now args.p.0 (is-ch c.peek.ensures 0x5b c.if-peek-ne-OPEN_SQUARE.false) _ args.out.now args.at.0 _ _ _
          c.in_ok-v.ensures (pre) c.token.auto.out
          (seen-in _ _ _ 0x5d c.peek-2.ensures c.if-peek-eq-CLOSE_SQUARE.true (omega arith)),
    )

pub returns-then-peek-eq-CLOSE_SQUARE : goal.returns-then-peek-eq-CLOSE_SQUARE
returns-then-peek-eq-CLOSE_SQUARE c =
    let args = c.args in
    set-none args.text.now args.p.0 (is-ch c.peek.ensures 0x5b c.if-peek-ne-OPEN_SQUARE.false) _ args.out.now args.at.0 _ _ _
    c.in_ok-v.ensures (is-ch c.peek-2.ensures 0x5d c.if-peek-eq-CLOSE_SQUARE.true) c.token-then-peek-eq-CLOSE_SQUARE.result _ c.token-then-peek-eq-CLOSE_SQUARE.ensures

pub filled_set-requires : goal.filled_set-requires
filled_set-requires c =
    let args = c.args in
    let pre = c.requires in
    set_room args.text.now args.p.0 (is-ch c.peek.ensures 0x5b c.if-peek-ne-OPEN_SQUARE.false) _ args.out.now args.at.0 _ _ _
    c.in_ok-v.ensures (pre) c.token.auto.out

pub returns : goal.returns
returns c =
    let args = c.args in
    set-some args.text.now args.p.0 (is-ch c.peek.ensures 0x5b c.if-peek-ne-OPEN_SQUARE.false) _ args.out.now args.at.0 _ _ _
    c.in_ok-v.ensures (not-ch c.peek-2.ensures 0x5d c.if-peek-eq-CLOSE_SQUARE.false) c.filled_set.result _ c.filled_set.ensures
