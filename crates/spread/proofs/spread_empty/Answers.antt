use mathlib.Core.Path.{◌∙◌}
use Prim.Native.Nat.{ℕ, ◌<◌}
use native.Mathlib.Omega.{arith}
use lib.ListN.{get_or}
use Rattle.spread.proofs.Handing.{done_next, spread_join, all-on}
use Rattle.spread.proofs.spread_empty.Goals as goal

pub loop-k-preserved : goal.loop-k-preserved
loop-k-preserved c =
    let a = c.args in
    let q = c.requires in
    let k : c.loop-k.k < get_or a.column.now 512 0 = omega (arith, c.loop-k-test.true, c.wide-k-end.ensures, c.loop-k.invariant.1.before 512 (omega arith)) in
    let d = c.spread_dot.ensures in (
      omega (arith, k),
      spread_join _ _ _ _ _ _ _ c.loop-k.invariant.1 d.0,
      done_next _ _ _ _ _ _ _ q.2 q.3 (λ (z : ℕ). get_or a.column.now z 0) d.0 c.loop-k.invariant.2
          (c.wide-x.ensures ∙ c.loop-k.invariant.1.before c.loop-k.k (omega (arith, k, q.1.count))) d.1,
    )

pub returns : goal.returns
returns c =
    let q = c.requires in
    record {
      spread = c.loop-k.invariant.1;
      on = all-on _ _ _ _ _ _ _ q.0.shape q.1
          (λ k h. c.loop-k.invariant.2 k (omega (arith, c.loop-k-test.false, c.wide-k-end.ensures, c.loop-k.invariant.1.before 512 (omega arith))));
    }
