use mathlib.Core.List.{[], ◌∷◌}
use Prim.Native.Nat.{◌+◌, ◌/◌, ◌%◌}
use Rattle.text.proofs.Step.{utf8-4}
use Rattle.encode.specs.Out.{last_two}
use Rattle.encode.proofs.Puts.{then}
use Rattle.encode.proofs.put_four.Goals as goal

pub returns : goal.returns
returns c =
    let x = c.args.c in
    let l = c.args.limit.0 in
    rw (utf8-4 x c.requires.1.0)
    (then l _ ((0xf0 + x / 262144) ∷ []) ((0x80 + x / 4096 % 64) ∷ last_two x) c.put-q.ensures
    (then l _ ((0x80 + x / 4096 % 64) ∷ []) (last_two x) c.put-q-2.ensures c.put_last.ensures))
