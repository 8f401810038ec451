use mathlib.Core.List.{[], ◌∷◌}
use Prim.Native.Nat.{◌+◌, ◌/◌}
use Rattle.text.proofs.Step.{utf8-3}
use Rattle.encode.specs.Out.{last_two}
use Rattle.encode.proofs.Puts.{then}
use Rattle.encode.proofs.put_three.Goals as goal

pub returns : goal.returns
returns c =
    let x = c.args.c in
    rw (utf8-3 x c.requires.1.0 c.requires.1.1)
    (then c.args.limit.0 _ ((0xe0 + x / 4096) ∷ []) (last_two x) c.put-q.ensures c.put_last.ensures)
