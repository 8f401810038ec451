use Rattle.encode.specs.Out.{spelt}
use Rattle.encode.proofs.Puts.{wrote_none}
use Rattle.encode.proofs.Texts.{text-on}
use Rattle.encode.proofs.put_text.Goals as goal

pub loop-c-init : goal.loop-c-init
loop-c-init c = wrote_none

pub loop-c-preserved : goal.loop-c-preserved
loop-c-preserved c = text-on (spelt c.args.spelling) c.args.text.now c.loop-c.c-index c.loop-c-test.true c.loop-c.invariant c.put_escaped-q.ensures
