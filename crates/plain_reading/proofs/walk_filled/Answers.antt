use native.Mathlib.Omega.{arith}
use Rattle.sparse.proofs.Coded.{shape_of}
use Rattle.plain_reading.proofs.Plain.{finished-filled}
use Rattle.plain_reading.proofs.walk_filled.Goals as goal

pub mark_all-requires : goal.mark_all-requires
mark_all-requires c =
    let room = c.requires.roomy in
    (record { small = room.small; room = room.code-room; fits-room = room.fits-room; short = omega (arith, room.short, c.requires.long) }, c.requires.marks)

pub note_rules-requires : goal.note_rules-requires
note_rules-requires c =
    (shape_of c.requires.ruled c.requires.roomy.small c.requires.roomy.code-room, c.requires.notes.0, c.requires.notes.1)

pub walk-requires : goal.walk-requires
walk-requires c =
    (finished-filled c.requires c.mark_all.ensures c.note_rules.ensures, c.requires.numbers)

pub returns : goal.returns
returns c =
    record { marked = c.mark_all.ensures; noted = c.note_rules.ensures; answers = c.walk.ensures }
