use mathlib.Core.Path.{sym, ◌∙◌}
use borrow.Author.Tests.{lt-leb}
use Rattle.syntax.specs.Syntax.{namefollower}
use Rattle.spacing.proofs.Tests.{is-nd, is-mn}
use Rattle.spacing.proofs.Ascii.{digit-follows, no_digit, no-mark}
use Rattle.spacing.proofs.characters.name_follower.Goals.{then-between-via-then-between, then-between-via-else-between+then-name_start}
use Rattle.spacing.proofs.characters.name_follower.Goals.{then-between-via-else-between+else-name_start+then-connector}
use Rattle.spacing.proofs.characters.name_follower.Goals as goal

pub returns-then-between : goal.returns-then-between
unfolding namefollower
returns-then-between c = elim c.then-between.branch [
  | then-between-via-then-between w ↦ sym (digit-follows _ (sym c.between.ensures ∙ w.if-between.true))
  | then-between-via-else-between+then-name_start w ↦ rw (sym w.name_start.ensures ∙ w.if-name_start.true)
  | then-between-via-else-between+else-name_start+then-connector w ↦
      rw (sym w.name_start.ensures ∙ w.if-name_start.false, sym w.connector.ensures ∙ w.if-connector.true)
]

pub returns-then-in_class : goal.returns-then-in_class
unfolding namefollower
returns-then-in_class c =
    rw (
      sym c.name_start.ensures ∙ c.if-name_start.false,
      sym c.connector.ensures ∙ c.if-connector.false,
      is-nd _ c.in_class.ensures,
      c.if-in_class.true,
    )

pub returns-else-in_class : goal.returns-else-in_class
unfolding namefollower
returns-else-in_class c =
    rw (
      sym c.name_start.ensures ∙ c.if-name_start.false,
      sym c.connector.ensures ∙ c.if-connector.false,
      is-nd _ c.in_class.ensures ∙ c.if-in_class.false,
      is-mn _ c.in_class-else-in_class.ensures,
    )

pub returns-else-c-ge-PAST_ASCII : goal.returns-else-c-ge-PAST_ASCII
unfolding namefollower
returns-else-c-ge-PAST_ASCII c =
    lt-leb _ _ c.if-c-ge-PAST_ASCII.false
    ∙ rw (
      sym c.name_start.ensures ∙ c.if-name_start.false,
      sym c.connector.ensures ∙ c.if-connector.false,
      no_digit _ c.if-c-ge-PAST_ASCII.false (sym c.between.ensures ∙ c.if-between.false),
      no-mark _ c.if-c-ge-PAST_ASCII.false,
    )
