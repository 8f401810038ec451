use native.Mathlib.Omega.{arith}
use Rattle.encode.proofs.Puts.{wrote-text, wrote_none}
use Rattle.tidy_parts.proofs.Signs.{sign-past, sign-none, sign-some}
use Rattle.tidy_parts.proofs.put_sign_at.Goals as goal

pub returns-then-kind-s : goal.returns-then-kind-s
returns-then-kind-s c =
    wrote-text (sign-past c.args.s.now c.args.kind c.if-kind-s.true) wrote_none

pub returns-then-c-eq-NONE : goal.returns-then-c-eq-NONE
returns-then-c-eq-NONE c =
    wrote-text (sign-none c.args.s.now c.args.kind c.if-kind-s.false c.if-c-eq-NONE.true) wrote_none

pub overflow_cast-c : goal.overflow_cast-c
overflow_cast-c c =
    omega (arith, c.type_inv.s c.args.kind)

pub returns : goal.returns
returns c =
    wrote-text (sign-some c.args.s.now c.args.kind c.if-kind-s.false c.if-c-eq-NONE.false) c.put_char.ensures
