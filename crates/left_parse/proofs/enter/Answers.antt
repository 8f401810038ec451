use mathlib.Core.Path.{refl}
use Rattle.left_parse.proofs.enter.Goals as goal

pub returns : goal.returns
returns c =
    record {
      scratch = refl;
      spot = refl;
      found = rw (← c.look-a.ensures.0, ← c.target_at-x.ensures) c.alternative-item.ensures;
    }
