use mathlib.Core.Path.{sym, ◌∙◌}
use Rattle.syntax.specs.Syntax.{capital}
use Rattle.spacing.proofs.Places.{tested}
use Rattle.sets.proofs.Sets.{class-step, class-member}
use Rattle.sets.proofs.member.Goals as goal

pub class-requires : goal.class-requires
class-requires c =
    let pre = c.requires in
    (pre, tested c.peek.ensures capital (sym c.capital.ensures ∙ c.if-capital.true))

pub spaced-requires : goal.spaced-requires
spaced-requires c =
    let args = c.args in
    class-step args.text.now args.p.0 _ _ c.class.result _ c.class.ensures

pub returns-then-capital : goal.returns-then-capital
returns-then-capital c =
    let args = c.args in
    class-member args.text.now args.p.0 _ _ (tested c.peek.ensures capital (sym c.capital.ensures ∙ c.if-capital.true)) c.class.result _
    c.spaced.result c.class.ensures c.spaced.ensures

pub chars_member-requires : goal.chars_member-requires
chars_member-requires c =
    let pre = c.requires in
    (pre, tested c.peek.ensures capital (sym c.capital.ensures ∙ c.if-capital.false))
