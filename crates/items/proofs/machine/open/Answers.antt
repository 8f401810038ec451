use native.Mathlib.Omega.{arith}
use mathlib.Core.Path.{ap, ◌∙◌, refl}
use Prim.Native.Nat.{ℕ, ◌+◌, ◌*◌}
use lib.Seq.{sets}
use Rattle.repetitions.specs.Blocks.{entry, nums}
use Rattle.items.specs.Machine.{Abs}
use Rattle.items.proofs.Reps.{rep-pushed}
use Rattle.items.proofs.machine.open.Goals as goal

pub put-requires : goal.put-requires
put-requires c =
    omega (arith, c.requires.rep.has.size, c.requires.rep.depth, ap (λ (z : Abs). z.depth) c.requires.act, c.requires.fit.depth)

pub returns : goal.returns
returns c =
    λ a b rep act fit. rep-pushed rep fit (entry 0 a.base c.args.at) a.depth act
    (c.put.ensures ∙ ap (λ (n : ℕ). sets c.args.table.now (14848 + 3 * c.args.s.depth)
    (nums (entry 0 n c.args.at))) rep.base) refl refl refl rep.depth
