use Prim.Native.Nat.{ℕ}
use lib.ListN.{length-replicate}
use Rattle.moves.proofs.Cells.{masks-of, word-adds}
use Rattle.bits.proofs.Laws.{adds_none, lit-zero}
use Rattle.moves.proofs.add_word.Goals as goal

pub returns-then-word-eq0 : goal.returns-then-word-eq0
returns-then-word-eq0 c = adds_none (λ x m. lit-zero c.if-word-eq0.true m.lit)

pub add_ends-requires : goal.add_ends-requires
add_ends-requires c =
    (c.requires.0, c.requires.1, masks-of (length-replicate {A = ℕ} 32 0) c.spread.ensures)

pub returns : goal.returns
returns c = word-adds (length-replicate {A = ℕ} 32 0) c.spread.ensures c.add_ends.ensures
