use mathlib.Core.Path.{refl, ◌∙◌}
use Rattle.dynamic_errors.proofs.Roots.{standing-again, attributed-later, row-judged}
use Rattle.dynamic_errors.proofs.judge_row.Goals as goal

pub twice_in-twice-requires : goal.twice_in-twice-requires
twice_in-twice-requires c =
    record { attributed = attributed-later c.found_in-found.ensures; some_row = (c.args.«record».now, standing-again c.found_in-found.ensures.told.kept c.requires.1) }

pub not_one_in-beside-requires : goal.not_one_in-beside-requires
not_one_in-beside-requires c =
    (c.args.«record».now, standing-again (c.twice_in-twice.ensures.kept ∙ c.found_in-found.ensures.told.kept) c.requires.1)

pub with_element-extent-requires : goal.with_element-extent-requires
with_element-extent-requires c =
    c.requires.0

pub returns : goal.returns
returns c =
    row-judged c.look-mark.ensures.0 refl c.found_in-found.ensures c.twice_in-twice.ensures c.misnamed_in-misnamed.ensures c.not_one_in-beside.ensures
    c.top_line-verdict.ensures c.with_element-extent.ensures
