use mathlib.Core.Path.{◌≡◌}
use mathlib.Core.Bool.{true}
use mathlib.Core.List.{List}
use Prim.Native.Nat.{◌-◌}
use lib.ListN.{length}
use Rattle.tree.specs.Tokens.{Token}
use Rattle.tokens.specs.Lengths.{Left}
use Rattle.encode.specs.Out.{state, puts, enc}
use Rattle.tidy.specs.Scan.{scan}
use Rattle.tidy_writer.specs.Walk.{SomeLeft}
use Rattle.tidy_text.specs.Whole.{AllFit}
use Rattle.tidy_text.proofs.Owed.{Owed}
use Rattle.tidy_text.proofs.put_grammar.Given as goal

abbrev pub invariant-loop-k : goal.invariant-loop-k
invariant-loop-k l =
    (length l.out ≡ length l.initial.out) × SomeLeft l.t l.end l.k × ((ts : List Token) → Left l.t l.end 0 ts → AllFit ts
    → Owed l.limit.0 l.t l.end l.k l.first l.pos.0 l.out (puts l.limit.0 (state 0 l.initial.out) (enc (scan true ts))))

abbrev pub decreases-loop-k : goal.decreases-loop-k
decreases-loop-k l = l.end - l.k
