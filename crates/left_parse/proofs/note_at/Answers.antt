use mathlib.Core.Path.{refl, sym}
use lib.ListN.{get_or-eq_default}
use Rattle.left_parse.proofs.note_at.Goals as goal

pub returns-then-i-scratch : goal.returns-then-i-scratch
returns-then-i-scratch c = refl

pub returns : goal.returns
returns c = sym (get_or-eq_default c.args.scratch.now 0 {n = c.args.i} c.if-i-scratch.false)
