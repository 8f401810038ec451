use mathlib.Core.Path.{◌∙◌}
use Prim.Native.Nat.{◌+◌}
use native.Mathlib.Omega.{arith}
use lib.ListN.{set, length-set}
use lib.Seq.{get_or-set_same, get_or-set_other}
use Rattle.chart.proofs.Fills.{fills}
use Rattle.quick.proofs.untouch.Goals as goal

pub returns : goal.returns
returns c =
    let C = c.args.column.now in
    let D = set C 3788 0 in
    let f = fills 2563 (2563 + c.args.j) 0 D (omega arith) (omega (arith, length-set C 3788 0, c.requires.0, c.requires.1)) (c.fill.ensures.after (λ _ e. e)) in
    record {
      long = f.long ∙ length-set C 3788 0;
      before = λ z h. f.below z h ∙ get_or-set_other C 3788 z 0 0 (λ o. omega arith);
      flags = λ i h. f.inside (2563 + i) (omega arith) (omega arith);
      none-full = f.above 3788 (omega (arith, c.requires.1)) ∙ get_or-set_same C 3788 0 0 (omega (arith, c.requires.0));
    }
