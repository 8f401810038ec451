use native.Mathlib.Omega.{arith}
use Rattle.empties.proofs.Noted.{noted_of}
use Rattle.empties.proofs.note_rules.Goals as goal

pub returns : goal.returns
returns c =
    let pre = c.requires in
    let found = c.empty_heights.ensures in
    (noted_of pre.0.small (omega (arith, c.list_uses.auto.uses, pre.1)) c.list_uses.ensures c.note_homes.ensures found, found.empties)
