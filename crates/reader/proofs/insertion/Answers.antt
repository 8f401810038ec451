use native.Mathlib.Omega.{arith}
use Rattle.reader.proofs.Terminals.{chars-step, room-past, insertion-in, insertion-bad, inserted}
use Rattle.reader.proofs.insertion.Goals as goal

pub skip-requires : goal.skip-requires
skip-requires c = omega (
  arith,
  insertion-in c.args.text.now c.args.p.0
      c.requires.1,
  c.after.ensures,
)

pub returns-in_err-q : goal.returns-in_err-q
returns-in_err-q c =
    let args = c.args in
    let pre = c.requires in
    rw c.from_residual.ensures (insertion-bad args.text.now args.p.0 pre.1 (rw c.after.ensures at c.in_err-q.ensures))

pub read_chars-requires : goal.read_chars-requires
read_chars-requires c =
    let args = c.args in
    let pre = c.requires in
    room-past args.text.now args.p.0 _ _ _ pre.0 (rw c.after.ensures at c.in_ok-q.ensures)

pub spaced-requires : goal.spaced-requires
spaced-requires c =
    let args = c.args in
    chars-step 29 30 args.text.now c.in_ok-q.q.0 _ _ c.read_chars.result _ c.read_chars.ensures

pub returns : goal.returns
returns c =
    let args = c.args in
    let pre = c.requires in
    inserted args.text.now args.p.0 pre.1 _ (rw c.after.ensures at c.in_ok-q.ensures) _ _
    c.read_chars.result _ c.spaced.result
    c.read_chars.ensures c.spaced.ensures
