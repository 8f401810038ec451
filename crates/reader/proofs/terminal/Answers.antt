use Prim.Native.Nat.{◌+◌}
use native.Mathlib.Omega.{arith}
use Rattle.spacing.proofs.Places.{is-ch, not-ch}
use Rattle.sets.proofs.Sets.{seen-in}
use Rattle.reader.proofs.Terminals.{chars-step, room-past, exclude-bad, excluded, included-set, a-literal}
use Rattle.reader.proofs.terminal.Goals as goal

pub skip-requires : goal.skip-requires
skip-requires c =
    let args = c.args in
    omega (arith, seen-in args.text.now args.p.0 _ 0x7e c.peek-c.ensures c.if-c-eq-TILDE.true (omega arith), c.after.ensures)

pub returns-in_err-q : goal.returns-in_err-q
returns-in_err-q c =
    let args = c.args in
    rw c.from_residual.ensures (exclude-bad args.text.now args.p.0 args.m args.out.now args.at.0 (is-ch c.peek-c.ensures 0x7e c.if-c-eq-TILDE.true)
    (rw c.after.ensures at c.in_err-q.ensures))

pub set-requires : goal.set-requires
set-requires c =
    let args = c.args in
    let pre = c.requires in
    room-past args.text.now args.p.0 _ _ _ pre.0 (rw c.after.ensures at c.in_ok-q.ensures)

pub returns-then-c-eq-TILDE : goal.returns-then-c-eq-TILDE
returns-then-c-eq-TILDE c =
    let args = c.args in
    excluded args.text.now args.p.0 args.m args.out.now args.at.0 (is-ch c.peek-c.ensures 0x7e c.if-c-eq-TILDE.true) _
    (rw c.after.ensures at c.in_ok-q.ensures) c.set.result _ c.set.ensures

pub returns-then-c-eq-OPEN_SQUARE : goal.returns-then-c-eq-OPEN_SQUARE
returns-then-c-eq-OPEN_SQUARE c =
    let args = c.args in
    included-set args.text.now args.p.0 args.m args.out.now args.at.0 (not-ch c.peek-c.ensures 0x7e c.if-c-eq-TILDE.false)
    (is-ch c.peek-c.ensures 0x5b c.if-c-eq-OPEN_SQUARE.true) c.set-then-c-eq-OPEN_SQUARE.result _ c.set-then-c-eq-OPEN_SQUARE.ensures

pub spaced-requires : goal.spaced-requires
spaced-requires c =
    let args = c.args in
    chars-step (4 + args.m) (8 + args.m) args.text.now args.p.0 _ _ c.read_chars.result _ c.read_chars.ensures

pub returns : goal.returns
returns c =
    let args = c.args in
    a-literal args.text.now args.p.0 args.m args.out.now args.at.0 (not-ch c.peek-c.ensures 0x7e c.if-c-eq-TILDE.false)
    (not-ch c.peek-c.ensures 0x5b c.if-c-eq-OPEN_SQUARE.false) c.read_chars.result _ c.spaced.result c.read_chars.ensures c.spaced.ensures
