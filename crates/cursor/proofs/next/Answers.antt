use Rattle.cursor.proofs.Turns.{settled-came, settled-some, came-next}
use Rattle.cursor.proofs.next.Goals as goal

pub event_at-requires : goal.event_at-requires
event_at-requires c =
    (settled-some c.requires c.settle-c.ensures, c.settle-c.ensures.shown)

pub returns : goal.returns
returns c = came-next (settled-came c.settle-c.ensures) c.event_at.ensures
