use borrow.Author.Tests.{lt-ltb, le-ltb}
use Rattle.room.proofs.too_short.Goals as goal

pub returns-then-first-need : goal.returns-then-first-need
returns-then-first-need c = rw (lt-ltb _ _ c.if-first-need.true)

pub returns : goal.returns
returns c = rw (le-ltb _ _ c.if-first-need.false)
