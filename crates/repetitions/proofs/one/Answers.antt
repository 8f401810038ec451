use native.Mathlib.Omega.{arith}
use mathlib.Core.Path.{sym, ap, ◌∙◌}
use Prim.Native.Nat.{◌+◌}
use Rattle.repetitions.specs.Blocks.{Entry, entry_at, star_block, once_block, laid}
use Rattle.repetitions.proofs.Stores.{laid_then, entry_kept}
use Rattle.repetitions.proofs.Operators.{is-option, is-star, is-plus, least-count}
use Rattle.repetitions.proofs.one.Goals as goal

pub option-requires : goal.option-requires
option-requires c =
    record {
      room = record {
        size = c.requires.room.size;
        fits = omega (
          arith,
          c.requires.room.fits,
          (is-option c.args.k (entry_at c.args.table.now c.args.from)
              c.args.i c.if-k-eq-TO_OPTION.true).count,
        );
      };
      low = c.requires.low;
      high = c.requires.high;
    }

pub returns-then-k-eq-TO_OPTION : goal.returns-then-k-eq-TO_OPTION
returns-then-k-eq-TO_OPTION c =
    let o = is-option c.args.k (entry_at c.args.table.now c.args.from) c.args.i c.if-k-eq-TO_OPTION.true in (
      c.option.ensures ∙ ap (laid c.args.table.now c.args.i) (sym o.block),
      omega arith,
      omega arith,
    )

pub star-requires : goal.star-requires
star-requires c =
    record {
      room = record {
        size = c.requires.room.size;
        fits = omega (arith, c.requires.room.fits, least-count c.args.k c.if-k-eq-TO_OPTION.false);
      };
      low = c.requires.low;
      high = c.requires.high;
    }

pub returns-then-k-eq-TO_REPEAT0 : goal.returns-then-k-eq-TO_REPEAT0
returns-then-k-eq-TO_REPEAT0 c =
    let o = is-star c.args.k (entry_at c.args.table.now c.args.from) c.args.i c.if-k-eq-TO_OPTION.false
    c.if-k-eq-TO_REPEAT0.true in (
      c.star.ensures ∙ ap (laid c.args.table.now c.args.i) (sym o.block),
      omega arith,
      omega arith,
    )

pub once-requires : goal.once-requires
once-requires c = (
  record {
    room = record {
      size = c.star.auto.table ∙ c.requires.room.size;
      fits = omega (
        arith,
        c.requires.room.fits,
        (is-plus c.args.k (entry_at c.args.table.now c.args.from)
            c.args.i c.if-k-eq-TO_OPTION.false c.if-k-eq-TO_REPEAT0.false).count,
      );
    };
    low = c.requires.low;
    high = c.requires.high;
  },
  omega (arith, c.requires.room.fits),
)

pub returns : goal.returns
returns c =
    let o = is-plus c.args.k (entry_at c.args.table.now c.args.from) c.args.i c.if-k-eq-TO_OPTION.false c.if-k-eq-TO_REPEAT0.false in (
      laid_then c.args.table.now c.args.i (c.args.i + 4)
          (star_block (entry_at c.args.table.now c.args.from) c.args.i)
          (once_block (entry_at c.args.table.now c.args.from) c.args.i) c.star.ensures (omega arith)
          (c.once.ensures ∙ ap (λ (e : Entry). laid c.star.new.table (c.args.i + 4)
          (once_block e c.args.i)) (entry_kept c.args.table.now c.args.i
          (star_block (entry_at c.args.table.now c.args.from) c.args.i) c.args.from c.star.ensures
          (omega (arith, c.requires.low, c.requires.room.fits, o.count))))
          ∙ ap (laid c.args.table.now c.args.i) (sym o.block),
      omega arith,
      omega arith,
    )
