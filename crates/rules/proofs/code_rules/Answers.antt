use native.Mathlib.Omega.{arith}
use mathlib.Core.Path.{◌∙◌}
use Rattle.rules.proofs.Whole.{reach, first-inside, coded-rules}
use Rattle.rules.proofs.code_rules.Goals as goal

pub owners-requires : goal.owners-requires
owners-requires c =
    record { long = c.requires.long; small = c.requires.small; room = omega (arith, c.requires.room); reach = reach c.requires.ready }

pub code_items-requires : goal.code_items-requires
code_items-requires c =
    record { long = c.requires.long; small = c.requires.small; room = omega (arith, c.requires.room, c.owners.ensures.long); reach = reach c.requires.ready }

pub overflow_mul-root : goal.overflow_mul-root
overflow_mul-root c =
    omega (arith, c.requires.small, c.requires.room, first-inside c.requires.ready, c.code_items.ensures.long, c.owners.ensures.long)

pub overflow_add-root : goal.overflow_add-root
overflow_add-root c =
    omega (arith, c.requires.small, c.requires.room, first-inside c.requires.ready, c.code_items.ensures.long, c.owners.ensures.long)

pub offset_bounds-code-root : goal.offset_bounds-code-root
offset_bounds-code-root c =
    omega (arith, c.requires.small, c.requires.room, first-inside c.requires.ready, c.code_items.ensures.long, c.owners.ensures.long)

pub bounds-code-root : goal.bounds-code-root
bounds-code-root c =
    omega (arith, c.requires.small, c.requires.room, first-inside c.requires.ready, c.code_items.ensures.long, c.owners.ensures.long)

pub returns : goal.returns
returns c =
    λ g w. coded-rules w c.owners.ensures c.code_items.ensures c.wide.result (c.wide.ensures ∙ c.saturating_sub.ensures)
