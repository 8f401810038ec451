use borrow.Author.Tests.{le-leb}
use Rattle.decimal.proofs.Leading.{prefix-leading}
use Rattle.decimal.proofs.is_fraction.Goals as goal

pub returns-then-text-le-MOST_FRACTION_DIGITS : goal.returns-then-text-le-MOST_FRACTION_DIGITS
returns-then-text-le-MOST_FRACTION_DIGITS c =
    let h = c.if-text-le-MOST_FRACTION_DIGITS.true in
    rw (le-leb 1 _ h.0, le-leb _ 9 h.1, c.leading_digits.ensures, prefix-leading c.args.text.now)
