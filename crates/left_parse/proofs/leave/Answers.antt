use native.Mathlib.Omega.{arith}
use mathlib.Core.Path.{refl}
use lib.ListN.{length-set}
use Rattle.left_parse.proofs.leave.Goals as goal

pub bounds-scratch-at-2 : goal.bounds-scratch-at-2
bounds-scratch-at-2 c =
    simp length-set (omega (arith, c.requires.room, c.requires.some))

pub returns : goal.returns
returns c = record { scratch = refl; spot = rw (c.note_at-link.ensures, c.note_at-item.ensures) }
