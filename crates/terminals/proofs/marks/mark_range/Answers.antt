use native.Mathlib.Omega.{arith}
use Prim.Native.Nat.{◌+◌}
use Rattle.text.proofs.Known.{rank_most}
use Rattle.terminals.proofs.Marking.{range-placed}
use Rattle.terminals.proofs.marks.mark_range.Goals as goal

pub mark-requires : goal.mark-requires
mark-requires c =
    omega (arith, c.rank_past.ensures, rank_most (c.args.to + 1), c.requires)

pub returns : goal.returns
returns c =
    range-placed c.args.from c.args.to (rw (c.rank.ensures, c.rank_past.ensures) at c.mark.ensures)
