use Rattle.sets.proofs.Sets.{rest-bad, rest-space, rest_none, rest_in, rest_read}
use native.Mathlib.Omega.{arith}
use Rattle.sets.proofs.range_rest.Goals as goal

pub skip-requires : goal.skip-requires
skip-requires c = omega (arith, c.after.ensures)

pub returns-in_err-u : goal.returns-in_err-u
returns-in_err-u c =
    let args = c.args in
    rw c.from_residual.ensures (rest-bad args.text.now args.p.0 (rw c.after.ensures at c.in_err-u.ensures))

pub chars-requires : goal.chars-requires
chars-requires c =
    let args = c.args in
    let pre = c.requires in
    rest-space args.text.now args.p.0 _ _ pre.0 pre.1 _ (rw c.after.ensures at c.in_ok-u.ensures)

pub returns-in_err-c : goal.returns-in_err-c
returns-in_err-c c =
    let args = c.args in
    let pre = c.requires in
    rw c.from_residual-in_err-c.ensures (rest_none args.text.now args.p.0 _ _ pre.0 pre.1 _ (rw c.after.ensures at c.in_ok-u.ensures) c.in_err-c.ensures)

pub spaced-requires : goal.spaced-requires
spaced-requires c =
    let args = c.args in
    let pre = c.requires in
    rest_in args.text.now args.p.0 _ _ pre.0 pre.1 _ (rw c.after.ensures at c.in_ok-u.ensures) _ c.chars.auto.out _ c.in_ok-c.ensures c.range_end.result _ c.range_end.ensures

pub returns : goal.returns
returns c =
    let args = c.args in
    let pre = c.requires in
    rest_read args.text.now args.p.0 _ _ pre.0 pre.1 _ (rw c.after.ensures at c.in_ok-u.ensures) _ c.chars.auto.out _ c.in_ok-c.ensures
    c.range_end.result _ c.range_end.ensures c.spaced.result c.spaced.ensures
