use native.Mathlib.Omega.{arith}
use mathlib.Core.Path.{◌∙◌}
use Prim.Native.Nat.{ℕ}
use lib.ListN.{length-replicate}
use Rattle.moves.proofs.Cells.{none_has}
use Rattle.standing.proofs.Closing.{stand-exact}
use Rattle.standing.proofs.stand.Goals as goal

pub overflow_add-t : goal.overflow_add-t
overflow_add-t c =
    omega (arith, c.requires.0.inside, c.requires.0.ground.shape.small)

pub join_row-requires : goal.join_row-requires
join_row-requires c =
    omega (arith, c.requires.0.inside, c.requires.0.ground.shape.small)

pub push-requires : goal.push-requires
push-requires c =
    omega (arith, c.requires.0.inside, c.requires.0.ground.shape.small)

pub run-requires : goal.run-requires
run-requires c =
    c.requires.0.ground

pub overflow_add-t-2 : goal.overflow_add-t-2
overflow_add-t-2 c =
    omega (arith, c.requires.0.inside, c.requires.0.ground.shape.small)

pub join_row-requires-2 : goal.join_row-requires-2
join_row-requires-2 c =
    omega (arith, c.requires.0.inside, c.requires.0.ground.shape.small)

pub close-requires : goal.close-requires
close-requires c =
    (c.requires.0.ground, c.join_row-2.ensures.grown.long ∙ c.run.ensures.long ∙ c.join_row.ensures.grown.long ∙ c.requires.2)

pub returns : goal.returns
returns c =
    stand-exact c.requires.0 c.requires.1 c.requires.2 none_has (length-replicate {A = ℕ} 8 0)
    c.put.ensures c.join_row.ensures c.run.ensures c.join_row-2.ensures c.close.ensures
