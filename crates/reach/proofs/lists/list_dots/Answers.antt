use native.Mathlib.Omega.{arith}
use Rattle.chart.proofs.Users.{all-zero}
use Rattle.reach.proofs.Keys.{members}
use Rattle.reach.proofs.lists.list_dots.Goals as goal

pub put_keys-requires : goal.put_keys-requires
put_keys-requires c = (c.requires.keying, omega (arith, c.requires.keying.shape.small), all-zero 2048)

pub returns : goal.returns
returns c = members c.list_uses.ensures (omega (
  arith,
  c.list_uses.auto.uses,
  c.requires.room,
)) c.put_keys.ensures
