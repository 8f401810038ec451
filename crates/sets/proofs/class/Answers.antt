use mathlib.Core.Path.{sym, ◌∙◌}
use Rattle.sets.proofs.Sets.{class-in, class-room, class-one, class-two}
use native.Mathlib.Omega.{arith}
use Rattle.spacing.proofs.Places.{twice}
use Rattle.sets.proofs.class.Goals as goal

pub bounds-text-i : goal.bounds-text-i
bounds-text-i c =
    let args = c.args in
    let pre = c.requires in
    class-in args.text.now args.p.0 _ _ pre.0 pre.1

pub class_token-requires : goal.class_token-requires
class_token-requires c =
    let args = c.args in
    let pre = c.requires in
    class-room args.text.now args.p.0 _ _ pre.0 pre.1

pub after-requires : goal.after-requires
after-requires c =
    let args = c.args in
    let pre = c.requires in
    omega (arith, class-in args.text.now args.p.0 _ _ pre.0 pre.1, c.after-second.ensures)

pub returns-then-letter : goal.returns-then-letter
returns-then-letter c =
    let args = c.args in
    let pre = c.requires in
    rw (twice _ c.after-second.ensures c.after.ensures)
    (class-two args.text.now args.p.0 _ _ pre.0 pre.1 _ (rw
    c.after-second.ensures at c.peek-e.ensures) _ (sym c.letter.ensures ∙ c.if-letter.true)
    c.class_token.ensures)

pub class_token-requires-2 : goal.class_token-requires-2
class_token-requires-2 c =
    let args = c.args in
    let pre = c.requires in
    class-room args.text.now args.p.0 _ _ pre.0 pre.1

pub returns : goal.returns
returns c =
    let args = c.args in
    let pre = c.requires in
    rw c.after-second.ensures
    (class-one args.text.now args.p.0 _ _ pre.0 pre.1 _ (rw
    c.after-second.ensures at c.peek-e.ensures) _ (sym c.letter.ensures ∙ c.if-letter.false)
    c.class_token-2.ensures)
