use native.Mathlib.Omega.{arith}
use mathlib.Core.List.{◌++◌}
use mathlib.Core.Path.{sym, ap, ◌∙◌}
use Prim.Native.Nat.{◌+◌}
use Rattle.repetitions.specs.Blocks.{Entry, entry, nums, entry_at, both_ends, list_block, laid}
use Rattle.repetitions.proofs.Stores.{laid_then, entry_kept}
use Rattle.repetitions.proofs.Operators.{is-list, is-maybe, least-two}
use Rattle.repetitions.proofs.two.Goals as goal

pub listed-requires : goal.listed-requires
listed-requires c =
    record { room = record { size = c.requires.room.size; fits = omega (arith, c.requires.room.fits, least-two c.args.k) }; low = c.requires.low; high = c.requires.high }

pub returns-then-k-eq-TO_REPEAT1SEP : goal.returns-then-k-eq-TO_REPEAT1SEP
returns-then-k-eq-TO_REPEAT1SEP c =
    let o = is-list c.args.k (entry_at c.args.table.now c.args.from)
    (entry_at c.args.table.now (c.args.from + 3)) c.args.i c.if-k-eq-TO_REPEAT1SEP.true in
    (c.listed.ensures ∙ ap (laid c.args.table.now c.args.i) (sym o.block), omega arith, omega arith)

pub refer-requires : goal.refer-requires
refer-requires c =
    let o = is-maybe c.args.k (entry_at c.args.table.now c.args.from)
    (entry_at c.args.table.now (c.args.from + 3)) c.args.i c.if-k-eq-TO_REPEAT1SEP.false in (
      record {
        room = record { size = c.listed.auto.table ∙ c.requires.room.size; fits = omega (arith, c.requires.room.fits, o.count) };
        low = c.requires.low;
        high = omega (arith, c.requires.high);
      },
      omega (arith, c.requires.room.fits),
    )

pub ends-requires : goal.ends-requires
ends-requires c =
    record {
      size = c.refer.auto.table ∙ c.listed.auto.table ∙ c.requires.room.size;
      fits = omega (
        arith,
        c.requires.room.fits,
        (is-maybe c.args.k (entry_at c.args.table.now c.args.from)
            (entry_at c.args.table.now (c.args.from + 3)) c.args.i c.if-k-eq-TO_REPEAT1SEP.false).count,
      );
    }

pub returns : goal.returns
returns c =
    let o = is-maybe c.args.k (entry_at c.args.table.now c.args.from) (entry_at c.args.table.now (c.args.from + 3)) c.args.i c.if-k-eq-TO_REPEAT1SEP.false in (
      laid_then c.args.table.now c.args.i (c.args.i + 9)
          (list_block (entry_at c.args.table.now c.args.from) (entry_at c.args.table.now (c.args.from + 3))
          c.args.i ++ nums (entry 4 (c.args.i + 5) (entry_at c.args.table.now c.args.from).token)) both_ends
          (laid_then c.args.table.now c.args.i (c.args.i + 8)
          (list_block (entry_at c.args.table.now c.args.from) (entry_at c.args.table.now (c.args.from + 3))
          c.args.i) (nums (entry 4 (c.args.i + 5) (entry_at c.args.table.now c.args.from).token)) c.listed.ensures (omega arith)
          (c.refer.ensures ∙ ap (λ (e : Entry). laid c.listed.new.table (c.args.i + 8) (nums (entry 4 (c.args.i + 5) e.token)))
          (entry_kept c.args.table.now c.args.i
          (list_block (entry_at c.args.table.now c.args.from) (entry_at c.args.table.now (c.args.from + 3)) c.args.i)
          c.args.from c.listed.ensures (omega (arith, c.requires.low, c.requires.room.fits, o.count)))))
          (omega arith) c.ends.ensures
          ∙ ap (laid c.args.table.now c.args.i) (sym o.block),
      omega arith,
      omega arith,
    )
