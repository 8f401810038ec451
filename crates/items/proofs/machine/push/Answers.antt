use native.Mathlib.Omega.{arith}
use mathlib.Core.Path.{ap, refl}
use Rattle.repetitions.specs.Blocks.{entry}
use Rattle.items.specs.Machine.{Abs}
use Rattle.items.proofs.Reps.{rep-pushed}
use Rattle.items.proofs.machine.push.Goals as goal

pub put-requires : goal.put-requires
put-requires c =
    omega (arith, c.requires.rep.has.size, c.requires.rep.depth, ap (λ (z : Abs). z.depth) c.requires.act, c.requires.fit.depth)

pub returns : goal.returns
returns c =
    λ a b rep act fit. rep-pushed rep fit (entry c.args.kind 0 c.args.at) a.base act c.put.ensures refl refl refl rep.base
