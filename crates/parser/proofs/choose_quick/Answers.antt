use native.Mathlib.Omega.{arith}
use mathlib.Core.Path.{refl}
use Rattle.parser.proofs.Located.{locatable-anew, coded}
use Rattle.parser.proofs.choose_quick.Goals as goal

pub code_rules-top-requires : goal.code_rules-top-requires
code_rules-top-requires c =
    record { grammar = c.requires.grammar; ready = c.requires.ready; long = c.requires.long; small = c.requires.small; room = omega (arith, c.requires.small) }

pub choose_flagged-requires : goal.choose_flagged-requires
choose_flagged-requires c = (
  coded (locatable-anew c.requires refl) (c.code_rules-top.ensures c.requires.grammar c.requires.ready) c.code_rules-top.auto.code,
  c.requires.numbers,
  omega (arith, c.if-n-le-SHORT.true),
  omega arith,
)

pub choose_flagged-requires-then-n-le-MIDDLE : goal.choose_flagged-requires-then-n-le-MIDDLE
choose_flagged-requires-then-n-le-MIDDLE c = (
  coded (locatable-anew c.requires refl) (c.code_rules-top.ensures c.requires.grammar c.requires.ready) c.code_rules-top.auto.code,
  c.requires.numbers,
  omega (arith, c.if-n-le-MIDDLE.true),
  omega arith,
)

pub choose_flagged-requires-2 : goal.choose_flagged-requires-2
choose_flagged-requires-2 c = (
  coded (locatable-anew c.requires refl) (c.code_rules-top.ensures c.requires.grammar c.requires.ready) c.code_rules-top.auto.code,
  c.requires.numbers,
  omega (arith, c.requires.short),
  omega arith,
)
