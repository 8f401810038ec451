use native.Mathlib.Omega.{arith}
use Rattle.convert.proofs.Conclusions.{room, annotated, parsed-some}
use Rattle.convert.proofs.convert_with.Goals as goal

pub note-requires : goal.note-requires
note-requires c =
    record { room = room c.requires.0 c.requires.1; parsed = parsed-some c.requires.0 }

pub conclude-requires : goal.conclude-requires
conclude-requires c =
    annotated c.requires.0 (omega (arith, c.requires.1, c.note.auto.scratch)) c.note.ensures
