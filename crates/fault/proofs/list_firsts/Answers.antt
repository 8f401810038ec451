use native.Mathlib.Omega.{arith}
use Prim.Native.Nat.{ℕ}
use lib.ListN.{length-replicate}
use Rattle.chart.proofs.Users.{all-zero}
use Rattle.fault.proofs.Keys.{key_below, firsts-of}
use Rattle.fault.proofs.list_firsts.Goals as goal

pub put_keys-requires : goal.put_keys-requires
put_keys-requires c = (c.requires.0, omega (arith, length-replicate {A = ℕ} 2048 0, c.requires.0.shape.small), all-zero 2048)

pub list_uses-requires : goal.list_uses-requires
list_uses-requires c =
    (c.requires.0.shape.small, c.put_keys.ensures.long, c.requires.1, key_below c.requires.0 c.put_keys.ensures, c.requires.2)

pub returns : goal.returns
returns c =
    firsts-of c.requires.0 c.put_keys.ensures c.list_uses.ensures (omega (arith, c.requires.1, c.list_uses.auto.uses))
