use mathlib.Core.Path.{◌∙◌}
use Rattle.state.proofs.Cells.{begun}
use native.Mathlib.Omega.{arith}
use Rattle.state.proofs.begin.Goals as goal

pub keep-requires : goal.keep-requires
keep-requires c =
    (omega (arith, c.requires.0, c.requires.1), c.requires.0)

pub keep-requires-2 : goal.keep-requires-2
keep-requires-2 c =
    (omega (arith, c.keep.ensures.long, c.requires.0, c.requires.2), c.keep.ensures.long ∙ c.requires.0)

pub overflow_cast-grammar : goal.overflow_cast-grammar
overflow_cast-grammar c =
    omega (arith, c.requires.1)

pub overflow_cast-record : goal.overflow_cast-record
overflow_cast-record c =
    omega (arith, c.requires.2)

pub put_head-requires : goal.put_head-requires
put_head-requires c =
    c.keep-2.ensures.long ∙ c.keep.ensures.long ∙ c.requires.0

pub shape_of-state : goal.shape_of-state
shape_of-state c =
    c.put_head.auto.state ∙ c.keep-2.ensures.long ∙ c.keep.ensures.long

pub returns : goal.returns
returns c =
    rw c.put_head.ensures (begun _ (c.keep-2.ensures.long ∙ c.keep.ensures.long ∙ c.requires.0) c.requires.1 c.requires.2 c.keep.ensures
    c.keep-2.ensures)
