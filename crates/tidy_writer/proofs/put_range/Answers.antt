use native.Mathlib.Omega.{arith}
use Prim.Native.Nat.{◌+◌}
use mathlib.Core.List.{◌++◌}
use Rattle.text.specs.Lists.{chars}
use Rattle.encode.proofs.Puts.{and_then, wrote-bytes}
use Rattle.tidy_writer.specs.Parts.{end_at}
use Rattle.tidy_parts.proofs.Parts.{enc-low}
use Rattle.tidy_writer.proofs.put_range.Goals as goal

pub returns : goal.returns
returns c =
    let T = c.args.t.now in
    let k = c.args.k in
    and_then {xs = end_at T k ++ chars "-"} {ys = end_at T (k + 2)}
    (and_then {xs = end_at T k} {ys = chars "-"} c.put_end-q.ensures (wrote-bytes _ c.put-q.ensures (enc-low 0x2d (omega arith)))) c.put_end.ensures
