use mathlib.Core.Path.{sym, ◌∙◌}
use native.Mathlib.Omega.{arith}
use Rattle.text.proofs.Spans.{above_from, place-latin, place-combining, place-ties, place_none}
use Rattle.text.specs.Lists.{span}
use Rattle.text.proofs.alphabet.place.Goals as goal

pub returns-then-code-le-LATIN_LAST : goal.returns-then-code-le-LATIN_LAST
returns-then-code-le-LATIN_LAST c = c.wide.ensures ∙ sym (place-latin c.args.code c.if-code-le-LATIN_LAST.true)

pub returns-then-between : goal.returns-then-between
returns-then-between c =
    c.wide-then-between.ensures ∙ sym (place-combining c.args.code c.if-code-le-LATIN_LAST.false (sym c.between.ensures ∙ c.if-between.true))

pub overflow_sub-code-then-between-2 : goal.overflow_sub-code-then-between-2
overflow_sub-code-then-between-2 c =
    let l = above_from c.args.code (span 0x203f 0x2040) (sym c.between-2.ensures ∙ c.if-between-2.true) in
    omega arith

pub returns-then-between-2 : goal.returns-then-between-2
returns-then-between-2 c =
    c.wide-then-between-2.ensures ∙ sym (place-ties c.args.code c.if-code-le-LATIN_LAST.false (sym c.between.ensures ∙ c.if-between.false)
    (sym c.between-2.ensures ∙ c.if-between-2.true))

pub returns : goal.returns
returns c =
    sym (place_none c.args.code c.if-code-le-LATIN_LAST.false (sym c.between.ensures ∙ c.if-between.false)
    (sym c.between-2.ensures ∙ c.if-between-2.false))
