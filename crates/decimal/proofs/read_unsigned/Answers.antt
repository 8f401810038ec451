use mathlib.Core.Path.{ap, sym, ◌∙◌}
use lib.Seq.{length-take-le}
use Prim.Native.Nat.{ℕ, ◌-◌}
use native.Mathlib.Omega.{arith}
use lib.ListN.{length, take, drop}
use Rattle.text.specs.Lists.{Text}
use Rattle.decimal.specs.Compute.{leading, after_whole, number_of}
use Rattle.decimal.proofs.Leading.{prefix-leading, leading-within}
use Rattle.decimal.proofs.Steps.{from_place, too_few, too_many, whole-digits}
use Rattle.decimal.proofs.read_unsigned.Goals.{then-n-lt1-via-then-n-lt1, then-n-lt1-via-else-n-lt1+then-n-gt-MOST_WHOLE_DIGITS}
use Rattle.decimal.proofs.read_unsigned.Goals as goal

pub returns-then-n-lt1 : goal.returns-then-n-lt1
returns-then-n-lt1 c =
    let t = c.args.text.now in
    let count = c.leading_digits-n.ensures ∙ prefix-leading t in
    elim c.then-n-lt1.branch [
      | then-n-lt1-via-then-n-lt1 w ↦ too_few _ t (omega (arith, w.if-n-lt1.true, count))
      | then-n-lt1-via-else-n-lt1+then-n-gt-MOST_WHOLE_DIGITS w ↦
          too_many _ t (omega (arith, w.if-n-lt1.false, count)) (omega (arith, w.if-n-gt-MOST_WHOLE_DIGITS.true, count))
    ]

pub slice_bounds-read_fraction-end : goal.slice_bounds-read_fraction-end
slice_bounds-read_fraction-end c =
    let t = c.args.text.now in
    sym (length-take-le _ t (omega (arith, c.leading_digits-n.ensures, prefix-leading t, leading-within t)))

pub slice_bounds-read_fraction-count : goal.slice_bounds-read_fraction-count
slice_bounds-read_fraction-count c = omega (arith, c.leading_digits-n.ensures, prefix-leading c.args.text.now, leading-within c.args.text.now)

pub slice_bounds-read_fraction-start : goal.slice_bounds-read_fraction-start
slice_bounds-read_fraction-start c = omega (arith, c.leading_digits-n.ensures, prefix-leading c.args.text.now, leading-within c.args.text.now)

pub returns : goal.returns
returns c =
    let args = c.args in
    let t = args.text.now in
    let count = c.leading_digits-n.ensures ∙ prefix-leading t in
    c.read_fraction.ensures
    ∙ ap (λ (n : ℕ). number_of (after_whole args.minus (take n t) (take (length t - n) (drop n t)))) count
    ∙ ap (λ (u : Text). number_of (after_whole args.minus (take (leading t) t) u)) (from_place (leading t) t)
    ∙ ap number_of (whole-digits args.minus t (omega (arith, c.if-n-lt1.false, count)) (omega (arith, c.if-n-gt-MOST_WHOLE_DIGITS.false, count)))
