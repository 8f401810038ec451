use mathlib.Core.Path.{sym, ◌∙◌}
use native.Mathlib.Omega.{arith}
use Rattle.text.proofs.Known.{rank-latin, rank_between, rank-combining, rank-after, rank-ties, rank-all}
use Rattle.text.proofs.alphabet.rank.Goals as goal

pub returns-then-code-le-LATIN_LAST : goal.returns-then-code-le-LATIN_LAST
returns-then-code-le-LATIN_LAST c = c.wide.ensures ∙ sym (rank-latin c.args.code c.if-code-le-LATIN_LAST.true)

pub returns-then-code-lt-COMBINING_FIRST : goal.returns-then-code-lt-COMBINING_FIRST
returns-then-code-lt-COMBINING_FIRST c = sym (rank_between c.args.code c.if-code-le-LATIN_LAST.false c.if-code-lt-COMBINING_FIRST.true)

pub returns-then-code-le-COMBINING_LAST : goal.returns-then-code-le-COMBINING_LAST
returns-then-code-le-COMBINING_LAST c = omega (arith, c.wide-then-code-le-COMBINING_LAST.ensures, rank-combining c.args.code c.if-code-lt-COMBINING_FIRST.false c.if-code-le-COMBINING_LAST.true)

pub returns-then-code-lt-TIES_FIRST : goal.returns-then-code-lt-TIES_FIRST
returns-then-code-lt-TIES_FIRST c = sym (rank-after c.args.code c.if-code-le-COMBINING_LAST.false c.if-code-lt-TIES_FIRST.true)

pub returns-then-code-le-TIES_LAST : goal.returns-then-code-le-TIES_LAST
returns-then-code-le-TIES_LAST c = omega (arith, c.wide-then-code-le-TIES_LAST.ensures, rank-ties c.args.code c.if-code-lt-TIES_FIRST.false c.if-code-le-TIES_LAST.true)

pub returns : goal.returns
returns c = sym (rank-all c.args.code c.if-code-le-TIES_LAST.false)
