use native.Mathlib.Omega.{arith}
use Rattle.spacing.proofs.Places.{is-ch, not-ch}
use Rattle.lexical.proofs.Words.{tokenable}
use Rattle.sets.proofs.Sets.{seen-in, chars-in, member-unspaced, head-room, no-range, rest-room, range-member, chars-member, member_none}
use Rattle.sets.proofs.chars_member.Goals as goal

pub past_chars-requires : goal.past_chars-requires
past_chars-requires c =
    let args = c.args in
    let pre = c.requires in
    chars-in args.text.now args.p.0 _ _ pre.0 pre.1 _ c.chars.auto.out _ c.in_ok-c.ensures

pub returns-in_err-c : goal.returns-in_err-c
returns-in_err-c c =
    let args = c.args in
    let pre = c.requires in
    rw c.from_residual.ensures (member_none args.text.now args.p.0 _ _ pre.0 pre.1 c.in_err-c.ensures)

pub returns-in_err-w : goal.returns-in_err-w
returns-in_err-w c =
    let args = c.args in
    let pre = c.requires in
    rw c.from_residual-in_err-w.ensures (member-unspaced args.text.now args.p.0 _ _ pre.0 pre.1 _ c.chars.auto.out _ c.in_ok-c.ensures
    c.in_err-w.ensures)

pub range_head-requires : goal.range_head-requires
range_head-requires c =
    let args = c.args in
    let pre = c.requires in
    head-room args.text.now args.p.0 _ _ pre.0 pre.1 _ c.chars.auto.out _ _ c.in_ok-c.ensures
    c.in_ok-w.ensures (seen-in _ _ _ 0x2d c.peek.ensures c.if-peek-eq-HYPHEN.true (omega arith))

pub returns-in_err-e : goal.returns-in_err-e
returns-in_err-e c =
    let args = c.args in
    let pre = c.requires in
    rw c.from_residual-in_err-e.ensures (no-range args.text.now args.p.0 _ _ pre.0 pre.1 _ c.chars.auto.out _ _ _ c.in_ok-c.ensures
    c.in_err-e.ensures c.in_ok-w.ensures (is-ch c.peek.ensures 0x2d c.if-peek-eq-HYPHEN.true))

pub range_rest-requires : goal.range_rest-requires
range_rest-requires c =
    let args = c.args in
    let pre = c.requires in (
      rest-room args.text.now args.p.0 _ _ pre.0 pre.1 _ c.chars.auto.out _ c.in_ok-c.ensures _
          c.in_ok-w.ensures (is-ch c.peek.ensures 0x2d c.if-peek-eq-HYPHEN.true)
          (seen-in _ _ _ 0x2d c.peek.ensures c.if-peek-eq-HYPHEN.true (omega arith)) _ _ _ c.in_ok-e.ensures
          c.range_head.auto.out,
      (seen-in _ _ _ 0x2d c.peek.ensures c.if-peek-eq-HYPHEN.true (omega arith)),
    )

pub returns-then-peek-eq-HYPHEN : goal.returns-then-peek-eq-HYPHEN
returns-then-peek-eq-HYPHEN c =
    let args = c.args in
    let pre = c.requires in
    range-member args.text.now args.p.0 _ _ pre.0 pre.1 _ c.chars.auto.out _ c.in_ok-c.ensures _
    c.in_ok-w.ensures (is-ch c.peek.ensures 0x2d c.if-peek-eq-HYPHEN.true)
    (seen-in _ _ _ 0x2d c.peek.ensures c.if-peek-eq-HYPHEN.true (omega arith)) _ _ _ c.in_ok-e.ensures c.range_rest.result _
    c.range_rest.ensures

pub chars_token-requires : goal.chars_token-requires
chars_token-requires c =
    let args = c.args in
    let pre = c.requires in
    tokenable args.text.now args.p.0 _ _ pre.0 _ c.chars.auto.out _ c.in_ok-c.ensures

pub returns : goal.returns
returns c =
    let args = c.args in
    let pre = c.requires in
    chars-member args.text.now args.p.0 _ _ pre.0 pre.1 _ c.chars.auto.out _ c.in_ok-c.ensures _
    c.in_ok-w.ensures (not-ch c.peek.ensures 0x2d c.if-peek-eq-HYPHEN.false) _ _
    c.in_ok-b.ensures
