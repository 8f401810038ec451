use mathlib.Core.Path.{ap, ap₂, ◌∙◌}
use Prim.Native.Nat.{ℕ, ◌+◌}
use lib.Dec.{ltb}
use lib.ListN.{take, drop}
use Rattle.text.specs.Lists.{Text, any}
use Rattle.text.specs.Utf8.{known}
use Rattle.text.specs.Ranks.{some_known}
use Rattle.category.specs.Category.{in_class}
use Rattle.terminals.proofs.Places.{class-at}
use Rattle.terminals.proofs.LiveTerminals.{live-counted, live-coded, live-ranged, live-class}
use Rattle.terminals.proofs.live.member_is_live.Goals as goal

pub returns-then-kind-eq-MEMBER_QUOTED : goal.returns-then-kind-eq-MEMBER_QUOTED
returns-then-kind-eq-MEMBER_QUOTED c =
    c.some_known.ensures ∙ ap (λ (n : ℕ). any known (take n (drop (c.args.at + 2) c.args.table.now))) c.wide.ensures ∙ live-counted c.requires
    c.if-kind-eq-MEMBER_QUOTED.true

pub returns-then-kind-eq-MEMBER_CODED : goal.returns-then-kind-eq-MEMBER_CODED
returns-then-kind-eq-MEMBER_CODED c = c.known.ensures ∙ live-coded c.requires c.if-kind-eq-MEMBER_CODED.true

pub returns-then-kind-eq-MEMBER_RANGE : goal.returns-then-kind-eq-MEMBER_RANGE
returns-then-kind-eq-MEMBER_RANGE c =
    ap₂ ltb c.rank.ensures c.rank_past.ensures ∙ live-ranged c.requires c.if-kind-eq-MEMBER_RANGE.true

pub returns : goal.returns
returns c =
    c.class_is_known.ensures ∙ ap (λ (k : Text). some_known (in_class k))
    (rw c.class_of.ensures (class-at c.requires c.if-kind-eq-MEMBER_QUOTED.false c.if-kind-eq-MEMBER_CODED.false c.if-kind-eq-MEMBER_RANGE.false))
    ∙ live-class c.requires c.if-kind-eq-MEMBER_QUOTED.false
    c.if-kind-eq-MEMBER_CODED.false c.if-kind-eq-MEMBER_RANGE.false
