use Rattle.tidy.specs.Tidy.{quoted_char}
use Rattle.encode.proofs.Puts.{wrote_none}
use Rattle.encode.proofs.Texts.{text-on}
use Rattle.tidy_parts.proofs.Parts.{quotes-around}
use Rattle.tidy_parts.proofs.put_quoted.Goals as goal

pub loop-c-init : goal.loop-c-init
loop-c-init c = wrote_none

pub loop-c-preserved : goal.loop-c-preserved
loop-c-preserved c = text-on quoted_char c.args.text.now c.loop-c.c-index c.loop-c-test.true c.loop-c.invariant c.put_in_quotes-q.ensures

pub returns : goal.returns
returns c = quotes-around c.args.text.now c.loop-c.c-index c.loop-c-test.false c.put-q.ensures c.loop-c.invariant c.put.ensures
