use Rattle.terminals.proofs.Places.{class-at, match-class, match-counted, match-coded, match-ranged}
use mathlib.Core.Path.{◌∙◌, ap}
use Prim.Native.Nat.{ℕ, ◌+◌}
use lib.ListN.{take, drop}
use Rattle.text.specs.Lists.{Text, among}
use Rattle.category.specs.Category.{in_class}
use Rattle.terminals.proofs.member_matches.Goals as goal

pub returns-then-kind-eq-MEMBER_QUOTED : goal.returns-then-kind-eq-MEMBER_QUOTED
returns-then-kind-eq-MEMBER_QUOTED c =
    c.is_among.ensures ∙ ap (λ (n : ℕ). among c.args.c (take n (drop (c.args.at + 2) c.args.table.now)))
    c.wide.ensures ∙ match-counted c.requires c.args.c c.if-kind-eq-MEMBER_QUOTED.true

pub returns-then-kind-eq-MEMBER_CODED : goal.returns-then-kind-eq-MEMBER_CODED
returns-then-kind-eq-MEMBER_CODED c = match-coded c.requires c.args.c c.if-kind-eq-MEMBER_CODED.true

pub returns-then-kind-eq-MEMBER_RANGE : goal.returns-then-kind-eq-MEMBER_RANGE
returns-then-kind-eq-MEMBER_RANGE c =
    c.between.ensures ∙ match-ranged c.requires c.args.c c.if-kind-eq-MEMBER_RANGE.true

pub returns : goal.returns
returns c =
    c.in_class.ensures ∙ ap (λ (k : Text). in_class k c.args.c)
    (rw c.class_of.ensures (class-at c.requires c.if-kind-eq-MEMBER_QUOTED.false c.if-kind-eq-MEMBER_CODED.false c.if-kind-eq-MEMBER_RANGE.false))
    ∙ match-class c.requires c.if-kind-eq-MEMBER_QUOTED.false c.if-kind-eq-MEMBER_CODED.false c.if-kind-eq-MEMBER_RANGE.false c.args.c
