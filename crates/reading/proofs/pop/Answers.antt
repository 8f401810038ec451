use Prim.Native.Nat.{◌+◌, ◌*◌, ◌-◌}
use lib.ListN.{get_or}
use Rattle.reading.proofs.pop.Goals as goal

pub returns : goal.returns
returns c =
    let h = c.args.h in
    let st = c.args.stack.now in
    let first = c.number_at-p.ensures.0 in
    let second = c.number_at.ensures.0 in
    λ ι. record {
      size = h.size;
      n = h.n;
      p = first ι;
      i = h.j;
      j = record { 0 = second ι };
      k = get_or st (3 * (h.depth - 1) + 2) 0;
      at = h.at;
      depth = h.depth - 1;
      mark = h.mark;
    }
