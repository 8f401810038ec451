use lib.ListN.{take}
use Rattle.text.specs.Lists.{concat_map}
use Rattle.tidy.specs.Tidy.{quoted_char}
use Rattle.encode.specs.Out.{Wrote}
use Rattle.tidy_parts.proofs.put_quoted.Given as goal

abbrev pub invariant-loop-c : goal.invariant-loop-c
invariant-loop-c l = Wrote l.limit.0 l.initial.q.0 l.initial.out l.q.0 l.out (concat_map quoted_char (take l.c-index l.text))
