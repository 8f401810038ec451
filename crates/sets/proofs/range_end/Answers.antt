use mathlib.Core.Path.{refl}
use Rattle.sets.proofs.range_end.Goals as goal

pub returns-then-b-j : goal.returns-then-b-j
returns-then-b-j c = rw c.in-Quoted.is c.if-b-j.true

pub returns-else-b-j : goal.returns-else-b-j
returns-else-b-j c = rw c.in-Quoted.is (record { place = refl; cell = refl; table = refl }, c.if-b-j.false)

pub returns-in-Coded : goal.returns-in-Coded
returns-in-Coded c = rw c.in-Coded.is (record { place = refl; cell = refl; table = refl })
