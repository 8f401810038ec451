use mathlib.Core.Path.{ap, ◌∙◌}
use lib.ListN.{drop}
use Rattle.text.specs.Lists.{Text}
use Rattle.category.specs.Category.{in_class}
use Rattle.terminals.specs.Places.{match_of}
use Rattle.terminals.proofs.Places.{class-at, match-class, match-counted, match-coded, match-ranged}
use Rattle.terminals.proofs.Marking.{code-placed, adds-places, adds-categories}
use Rattle.terminals.proofs.marks.mark_member.Goals as goal

pub returns-then-kind-eq-MEMBER_QUOTED : goal.returns-then-kind-eq-MEMBER_QUOTED
returns-then-kind-eq-MEMBER_QUOTED c =
    adds-places (match_of (drop c.args.at c.args.table.now)) c.requires.marks (λ c'. match-counted c.requires.here c' c.if-kind-eq-MEMBER_QUOTED.true)
    (rw c.wide.ensures at c.mark_quoted.ensures)

pub returns-then-kind-eq-MEMBER_CODED : goal.returns-then-kind-eq-MEMBER_CODED
returns-then-kind-eq-MEMBER_CODED c =
    adds-places (match_of (drop c.args.at c.args.table.now)) c.requires.marks (λ c'. match-coded c.requires.here c' c.if-kind-eq-MEMBER_CODED.true)
    (code-placed _ c.mark_range.ensures)

pub returns-then-kind-eq-MEMBER_RANGE : goal.returns-then-kind-eq-MEMBER_RANGE
returns-then-kind-eq-MEMBER_RANGE c =
    adds-places (match_of (drop c.args.at c.args.table.now)) c.requires.marks (λ c'. match-ranged c.requires.here c' c.if-kind-eq-MEMBER_RANGE.true)
    c.mark_range-then-kind-eq-MEMBER_RANGE.ensures

pub returns : goal.returns
returns c =
    adds-categories (match_of (drop c.args.at c.args.table.now)) c.requires.marks c.class_categories-span.ensures
    (λ c'. ap (λ (k : Text). in_class k c') (rw c.class_of-class.ensures (class-at c.requires.here c.if-kind-eq-MEMBER_QUOTED.false c.if-kind-eq-MEMBER_CODED.false c.if-kind-eq-MEMBER_RANGE.false))
    ∙ match-class c.requires.here c.if-kind-eq-MEMBER_QUOTED.false c.if-kind-eq-MEMBER_CODED.false c.if-kind-eq-MEMBER_RANGE.false c')
    c.mark.ensures
