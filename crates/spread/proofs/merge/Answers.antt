use mathlib.Core.List.{List}
use mathlib.Core.Path.{subst, ◌∙◌}
use Prim.Native.Nat.{ℕ, ◌+◌}
use native.Mathlib.Omega.{arith}
use lib.ListN.{length-set}
use Rattle.spread.specs.Spread.{Merged}
use Rattle.spread.proofs.Merging.{merged-next}
use Rattle.spread.proofs.merge.Goals as goal

pub loop-i-preserved : goal.loop-i-preserved
loop-i-preserved c = (
  omega (arith, c.loop-i-test.true),
  length-set c.loop-i.main (c.args.y + c.loop-i.i) c.better.result ∙ c.loop-i.invariant.1,
  λ (o M F : List ℕ) (size n m j p : ℕ) a. merged-next o M F size n m j a c.loop-i.i c.better.result c.loop-i-test.true (c.loop-i.invariant.2 o M F size n m j p a) c.better.ensures,
)

pub returns : goal.returns
returns c =
    λ (o M F : List ℕ) (size n m j p : ℕ) a. subst (λ (i : ℕ). Merged o M F size n m j c.args.main.now p i c.loop-i.main)
    (omega (arith, c.loop-i.invariant.0, c.loop-i-test.false, a.count)) (c.loop-i.invariant.2 o M F size n m j p a)
