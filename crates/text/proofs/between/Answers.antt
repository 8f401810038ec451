use borrow.Author.Tests.{lt-leb, le-leb}
use Rattle.text.proofs.between.Goals as goal

pub returns-then-c-first : goal.returns-then-c-first
returns-then-c-first c = rw (lt-leb _ _ c.if-c-first.true)

pub returns : goal.returns
returns c = rw (le-leb _ _ c.if-c-first.false)
