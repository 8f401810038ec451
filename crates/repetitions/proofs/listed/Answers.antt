use native.Mathlib.Omega.{arith}
use mathlib.Core.Path.{ap, ◌∙◌}
use Prim.Native.Nat.{◌+◌}
use Rattle.repetitions.specs.Blocks.{Entry, entry_at, rest_block, once_block, laid}
use Rattle.repetitions.proofs.Stores.{laid_then, entry_kept}
use Rattle.repetitions.proofs.listed.Goals as goal

pub returns : goal.returns
returns c =
    laid_then c.args.table.now c.args.i (c.args.i + 5)
    (rest_block (entry_at c.args.table.now c.args.from) (entry_at c.args.table.now (c.args.from + 3))
    c.args.i) (once_block (entry_at c.args.table.now c.args.from) c.args.i) c.rest.ensures
    (omega arith) (c.once.ensures
    ∙ ap (λ (e : Entry). laid c.rest.new.table (c.args.i + 5) (once_block e c.args.i))
    (entry_kept c.args.table.now c.args.i
    (rest_block (entry_at c.args.table.now c.args.from) (entry_at c.args.table.now (c.args.from + 3))
    c.args.i) c.args.from c.rest.ensures (omega (arith, c.requires.low, c.requires.room.fits))))
