use Rattle.left_pass.proofs.Steps.{symbol-after, symbol-kept, symbol-done, symbol-none, symbol-over, symbol-over-done}
use Rattle.left_pass.proofs.at_symbol.Goals as goal

pub returns-then-marks-i-eq-UNREACHED : goal.returns-then-marks-i-eq-UNREACHED
returns-then-marks-i-eq-UNREACHED c =
    let w = rw c.wide-e.ensures at
    c.wake.ensures in (
      symbol-none c.requires c.if-code-p-ne-AT_SYMBOL.false w
          c.raise.ensures (rw c.wide-e.ensures at c.if-marks-i-eq-UNREACHED.true),
      symbol-done c.requires c.if-code-p-ne-AT_SYMBOL.false w c.raise.ensures,
    )

pub lift-requires : goal.lift-requires
lift-requires c =
    let w = rw c.wide-e.ensures at
    c.wake.ensures in (
      symbol-kept c.requires c.if-code-p-ne-AT_SYMBOL.false w c.raise.ensures,
      symbol-after c.requires
          c.if-code-p-ne-AT_SYMBOL.false,
    )

pub returns : goal.returns
returns c =
    let w = rw c.wide-e.ensures at c.wake.ensures in (
      symbol-over c.requires c.if-code-p-ne-AT_SYMBOL.false w c.raise.ensures c.lift.ensures,
      symbol-over-done c.requires
          c.if-code-p-ne-AT_SYMBOL.false w c.raise.ensures c.lift.ensures,
    )
