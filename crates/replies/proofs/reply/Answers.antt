-- The four things that may be written.
use Rattle.std.proofs.Common.{arith}
use Rattle.cli.proofs.Law.{unreadable-grammar, unreadable-record, record-too-long, computed-written, replies}
use Rattle.replies.proofs.reply.Goals as goal

pub returns-in_default : goal.returns-in_default
returns-in_default c = rw c.in_default.is (replies c.show_unreadable.ensures (unreadable-grammar _))

pub returns-in_default-input : goal.returns-in_default-input
returns-in_default-input c =
    rw (c.in-Some.is, c.in_default-input.is) (replies c.show_unreadable-in_default-input.ensures (unreadable-record c.in-Some.grammar.now))

pub returns-then-input-gt-FILE_BYTES : goal.returns-then-input-gt-FILE_BYTES
returns-then-input-gt-FILE_BYTES c =
    rw (c.in-Some.is, c.in-Some-input.is) (replies c.show_long.ensures
    (record-too-long c.in-Some.grammar.now c.in-Some-input.input.now (omega (arith, c.if-input-gt-FILE_BYTES.true))))

pub returns : goal.returns
returns c =
    rw (c.in-Some.is, c.in-Some-input.is) (replies c.convert.ensures
    (computed-written c.in-Some.grammar.now c.in-Some-input.input.now (omega (arith, c.if-input-gt-FILE_BYTES.false))))
