use native.Mathlib.Omega.{arith}
use mathlib.Core.Bool.{true}
use mathlib.Core.Path.{sym, ◌∙◌}
use Prim.Native.Nat.{ℕ}
use lib.ListN.{length-replicate}
use Rattle.chart.proofs.Users.{all-zero}
use Rattle.parser.proofs.Located.{coded_kept, coded-shape, flaggable, staged, refusal, as-answer, as-refused, as-tried}
use Rattle.parser.proofs.choose_coded.Goals as goal

pub note_rules-requires : goal.note_rules-requires
note_rules-requires c =
    (coded-shape c.requires.0, length-replicate {A = ℕ} 2048 0, all-zero 2048)

pub flag-requires : goal.flag-requires
flag-requires c =
    flaggable c.requires.0 c.requires.1

pub locate-requires : goal.locate-requires
locate-requires c =
    (c.requires.0, c.note_rules.ensures, c.flag.ensures.left)

pub returns-then-not-flag : goal.returns-then-not-flag
returns-then-not-flag c =
    λ g k. refusal g c.args.text.now (c.flag.ensures.none c.if-not-flag.true g k) (c.locate.ensures g k)

pub attempt-tried-requires : goal.attempt-tried-requires
attempt-tried-requires c =
    ((staged c.requires.0 c.note_rules.ensures c.requires.0.code (c.flag.ensures.both c.if-not-flag.false)), c.requires.0.room, c.requires.2)

pub returns-then-is_answer : goal.returns-then-is_answer
unfolding staged
returns-then-is_answer c =
    λ g k. as-answer g c.args.text.now c.attempt-tried.new.parse true c.attempt-tried.result (record { 0 = 0 }) c.of_tried.ensures
    (sym c.is_answer.ensures ∙ c.if-is_answer.true)
    (c.attempt-tried.ensures (staged c.requires.0 c.note_rules.ensures k (c.flag.ensures.both c.if-not-flag.false)))

pub locate-place-requires : goal.locate-place-requires
locate-place-requires c =
    (coded_kept c.requires.0 c.attempt-tried.auto.main, c.note_rules.ensures, c.flag.ensures.left)

pub shape_of-main-then-is_refused : goal.shape_of-main-then-is_refused
shape_of-main-then-is_refused c =
    c.locate-place.auto.main ∙ c.attempt-tried.auto.main

pub returns-then-is_refused : goal.returns-then-is_refused
unfolding staged
returns-then-is_refused c =
    λ g k. as-refused g c.args.text.now c.attempt-tried.new.parse c.attempt-tried.result c.locate-place.result
    (sym c.is_answer.ensures ∙ c.if-is_answer.false)
    (sym c.is_refused.ensures ∙ c.if-is_refused.true)
    (c.attempt-tried.ensures (staged c.requires.0 c.note_rules.ensures k (c.flag.ensures.both c.if-not-flag.false))) (c.locate-place.ensures g k)

pub attempt-again-requires : goal.attempt-again-requires
attempt-again-requires c = (
  (staged c.requires.0 c.note_rules.ensures c.requires.0.code (c.flag.ensures.both c.if-not-flag.false)),
  omega (arith, c.requires.0.room, c.attempt-tried.auto.main, c.locate-place.auto.main),
  omega (arith, c.requires.2, c.attempt-tried.auto.parse),
)

pub shape_of-marks : goal.shape_of-marks
shape_of-marks c =
    c.flag.auto.marks

pub shape_of-main : goal.shape_of-main
shape_of-main c =
    c.attempt-again.auto.main ∙ c.locate-place.auto.main ∙ c.attempt-tried.auto.main

pub shape_of-parse : goal.shape_of-parse
shape_of-parse c =
    c.attempt-again.auto.parse ∙ c.attempt-tried.auto.parse

pub returns : goal.returns
unfolding staged
returns c =
    λ g k. as-tried g c.args.text.now c.attempt-again.new.parse c.attempt-again.result c.locate-place.result c.of_tried-2.ensures
    (c.attempt-again.ensures (staged c.requires.0 c.note_rules.ensures k (c.flag.ensures.both c.if-not-flag.false))) (c.locate-place.ensures g k)
