use native.Mathlib.Omega.{arith}
use Rattle.judge.proofs.Tracks.{small}
use Rattle.judge.proofs.Moves.{terminal-there, moved-leaf, refuted-leaf}
use Rattle.judge.proofs.on_terminal.Goals as goal

pub terminal_fits-requires : goal.terminal_fits-requires
terminal_fits-requires c =
    let w = c.requires.1 in
    record {
      small = omega (arith, w.lent.table);
      short = w.lent.short;
      here = terminal-there w c.requires.0 _ c.token_at-token.ensures.0;
      on = w.tracks.within;
    }

pub skip-requires : goal.skip-requires
skip-requires c = small c.requires.1

pub returns-then-terminal_fits : goal.returns-then-terminal_fits
returns-then-terminal_fits c =
    moved-leaf c.requires.0 c.token_at-token.ensures.0 c.terminal_fits.ensures c.skip.ensures c.requires.1 c.if-terminal_fits.true

pub returns : goal.returns
returns c =
    refuted-leaf c.requires.0 c.token_at-token.ensures.0 c.terminal_fits.ensures c.if-terminal_fits.false
