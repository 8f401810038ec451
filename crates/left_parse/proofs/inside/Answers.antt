use mathlib.Core.Path.{refl}
use Rattle.left_parse.proofs.inside.Goals as goal

pub returns : goal.returns
returns c = record { spot = refl; found = rw (← c.look-a.ensures.0, ← c.target_at-x.ensures) c.alternative-item.ensures }
