use mathlib.Core.Path.{◌∙◌}
use Rattle.terminals.proofs.Stretches.{begins_slices}
use Rattle.terminals.proofs.spells.Goals as goal

pub returns : goal.returns
returns c = c.starts_with.ensures.value ∙ begins_slices c.args.table.now c.args.at c.args.n c.args.text.now c.args.i.0
