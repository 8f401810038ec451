use lib.ListN.{take}
use Rattle.text.specs.Lists.{concat_map}
use Rattle.encode.specs.Out.{spelt, Wrote}
use Rattle.encode.proofs.put_text.Given as goal

abbrev pub invariant-loop-c : goal.invariant-loop-c
invariant-loop-c l = Wrote l.limit.0 l.initial.q.0 l.initial.out l.q.0 l.out (concat_map (spelt l.spelling) (take l.c-index l.text))
