use mathlib.Core.Path.{refl}
use Rattle.decode.proofs.Whole as law
use Rattle.decode.proofs.decode_from.Goals as goal

pub returns-in-Ok : goal.returns-in-Ok
returns-in-Ok c = law.at_once c.in-Ok.ensures _ refl

pub returns-in-Err : goal.returns-in-Err
returns-in-Err c = law.anew c.in-Err.ensures c.decode_in_turn.ensures
