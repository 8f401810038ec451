use mathlib.Core.Path.{◌∙◌}
use Rattle.terminals.proofs.Marking.{unmarked-left}
use Rattle.terminals.proofs.live.exclusion_is_live.Goals as goal

pub returns : goal.returns
returns c = λ ms w. c.some_unmarked.ensures ∙ unmarked-left ms _ _ (c.mark_members.ensures ms w)
