use mathlib.Core.List.{[], ◌∷◌}
use Prim.Native.Nat.{◌+◌, ◌/◌, ◌%◌}
use Rattle.encode.proofs.Puts.{then}
use Rattle.encode.proofs.put_last.Goals as goal

pub returns : goal.returns
returns c =
    let a = c.args in
    let x = a.c in
    then a.limit.0 _ ((0x80 + x / 64 % 64) ∷ []) ((0x80 + x % 64) ∷ []) c.put-q.ensures c.put.ensures
