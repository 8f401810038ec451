use Rattle.dynamic_errors.proofs.Roots.{standing-again, twice-deleted, twice-element}
use borrow.Author.Rules.{rules}
use Rattle.dynamic_errors.proofs.twice_around.Goals as goal

pub returns-then-deleted : goal.returns-then-deleted
returns-then-deleted c =
    twice-deleted c.if-deleted.true c.twice_within-within.ensures

pub repeats_attribute-again-requires : goal.repeats_attribute-again-requires
repeats_attribute-again-requires c =
    record { name_tokens_in_bounds = search rules; some_row = (_, standing-again c.twice_within-within.ensures.kept c.requires.1) }

pub returns : goal.returns
returns c =
    twice-element c.if-deleted.false c.twice_within-within.ensures c.repeats_attribute-again.ensures c.either.ensures
