use Prim.Native.Nat.{ℕ}
use lib.ListN.{length-replicate}
use Rattle.chart.proofs.Users.{all-zero}
use Rattle.plain_reading.proofs.Plain.{finished-plain}
use Rattle.parser.proofs.Located.{is-long, refusal}
use Rattle.finish.proofs.Off.{settled-walkable, settled-finished, settled-placing, settled-fault}
use Rattle.finish.proofs.read_off.Goals as goal

pub walk_filled-requires : goal.walk_filled-requires
walk_filled-requires c =
    settled-walkable c.requires (length-replicate {A = ℕ} 308736 0) (length-replicate {A = ℕ} 2048 0, all-zero 2048)

pub place-place-requires : goal.place-place-requires
place-place-requires c =
    settled-placing c.requires c.walk_filled.ensures.marked c.walk_filled.ensures.noted c.requires.ruled

pub returns-in-Ok : goal.returns-in-Ok
unfolding settled-finished finished-plain
returns-in-Ok c = λ g k. c.in-Ok.ensures.answers (settled-finished c.requires c.walk_filled.ensures.marked c.walk_filled.ensures.noted k)

pub returns-in-Err-TooLong : goal.returns-in-Err-TooLong
unfolding settled-finished finished-plain
returns-in-Err-TooLong c =
    λ g k. is-long g _ (rw c.in-Err-TooLong.field-0-is at (c.in-Err-TooLong.ensures.answers
    (settled-finished c.requires c.walk_filled.ensures.marked c.walk_filled.ensures.noted k)))

pub returns-in-Err-NoReading : goal.returns-in-Err-NoReading
unfolding settled-finished finished-plain
returns-in-Err-NoReading c =
    λ g k. refusal g _ (rw c.in-Err-NoReading.field-0-is at (c.in-Err-NoReading.ensures.answers
    (settled-finished c.requires c.walk_filled.ensures.marked c.walk_filled.ensures.noted k)))
    (settled-fault c.requires c.walk_filled.ensures.marked c.walk_filled.ensures.noted k c.place-place.ensures)
