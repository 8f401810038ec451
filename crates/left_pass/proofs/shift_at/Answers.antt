use native.Mathlib.Omega.{arith}
use Rattle.left_pass.proofs.Shifts.{all_fit, not_none, some-reached, shift-after, shift-within, shift-some}
use Rattle.left_pass.proofs.shift_at.Goals as goal

pub raise-requires-then-terminal_fits : goal.raise-requires-then-terminal_fits
raise-requires-then-terminal_fits c =
    let u = c.requires in
    let all = all_fit c.args.text.now c.args.i c.args.p c.wide-token.result
    c.wide-token.ensures c.terminal_fits.ensures
    c.if-terminal_fits.true in
    let some = not_none c.wide-width.ensures
    c.if-width-eq0.false in
    let s = shift-within u.0 u.1 u.2 c.if-code-p-ne-AT_TERMINAL.false some
    (some-reached c.if-marks-i-eq-UNREACHED.false) all in
    let a = shift-after u.0 u.1 u.2 c.if-code-p-ne-AT_TERMINAL.false some
    (some-reached c.if-marks-i-eq-UNREACHED.false) all in
    omega (
      arith,
      c.wide-width.ensures,
      u.0.short,
      u.0.shape.small,
      a,
      s,
      c.raise.ensures.long,
      u.0.marks-long,
    )

pub returns-then-terminal_fits : goal.returns-then-terminal_fits
returns-then-terminal_fits c =
    let u = c.requires in
    let all = all_fit c.args.text.now c.args.i c.args.p
    c.wide-token.result c.wide-token.ensures c.terminal_fits.ensures
    c.if-terminal_fits.true in
    let some = not_none c.wide-width.ensures
    c.if-width-eq0.false in
    shift-some u.0 u.1 u.2 c.if-code-p-ne-AT_TERMINAL.false some (some-reached c.if-marks-i-eq-UNREACHED.false) all
    c.raise.ensures (rw c.wide-width.ensures at c.raise-then-terminal_fits.ensures)
