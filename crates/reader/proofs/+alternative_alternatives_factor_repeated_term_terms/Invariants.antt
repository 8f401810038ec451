use Prim.Native.Nat.{◌-◌, ◌+◌, ◌*◌}
use lib.ListN.{length, drop}
use Rattle.syntax.specs.Parser.{Alts=, Terms=}
use Rattle.reader.specs.Answers.{body_code, alternative_code}
use Rattle.reader.proofs.Loops.{Looping}
use Rattle.reader.proofs.+alternative_alternatives_factor_repeated_term_terms.Given as goal

abbrev pub decreases-alternative : goal.decreases-alternative
decreases-alternative l = 8 * (length l.text.now - l.p.0) + 4

abbrev pub decreases-alternatives : goal.decreases-alternatives
decreases-alternatives l = 8 * (length l.text.now - l.p.0) + 5

abbrev pub decreases-factor : goal.decreases-factor
decreases-factor l = 8 * (length l.text.now - l.p.0) + 1

abbrev pub decreases-repeated : goal.decreases-repeated
decreases-repeated l = 8 * (length l.text.now - l.p.0) + 1

abbrev pub decreases-term : goal.decreases-term
decreases-term l = 8 * (length l.text.now - l.p.0) + 2

abbrev pub decreases-terms : goal.decreases-terms
decreases-terms l = 8 * (length l.text.now - l.p.0) + 3

abbrev pub invariant-alternatives-loop-q : goal.invariant-alternatives-loop-q
invariant-alternatives-loop-q l = Looping (λ n x. Alts= l.d (drop n l.text) x) body_code l.text l.initial.from.0 l.initial.out l.initial.to.0 l.from.0 l.out l.to.0

abbrev pub decreases-alternatives-loop-q : goal.decreases-alternatives-loop-q
decreases-alternatives-loop-q l = length l.text - l.from.0

abbrev pub invariant-terms-loop-q : goal.invariant-terms-loop-q
invariant-terms-loop-q l = Looping (λ n x. Terms= l.d (drop n l.text) x) alternative_code l.text l.initial.from.0 l.initial.out l.initial.to.0 l.from.0 l.out l.to.0

abbrev pub decreases-terms-loop-q : goal.decreases-terms-loop-q
decreases-terms-loop-q l = length l.text - l.from.0
