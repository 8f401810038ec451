use mathlib.Core.Path.{◌≡◌, subst, ◌∙◌}
use Prim.Native.Nat.{ℕ}
use native.Mathlib.Omega.{arith}
use lib.Seq.{get_or-set_other}
use Rattle.sparse.specs.Steps.{Listed}
use Rattle.quick.specs.Quick.{ClearedTo}
use Rattle.quick.proofs.Columns.{cleared-next}
use Rattle.quick.proofs.list_column.Goals as goal

pub loop-x-preserved : goal.loop-x-preserved
loop-x-preserved c =
    let d = c.list_dot.ensures in
    (omega (arith, c.loop-x-test.true), d.0, cleared-next _ _ _ _ c.requires.1 c.loop-x.invariant.2 d.1, λ z h. d.2 z h ∙ c.loop-x.invariant.3 z h)

pub returns : goal.returns
returns c =
    let a = c.args in
    let e : c.loop-x.x ≡ a.s.size = omega (arith, c.loop-x.invariant.0, c.loop-x-test.false) in (
      subst (λ (x : ℕ). Listed a.code.now a.marks.now x a.s.j.0 c.loop-x.column) e c.loop-x.invariant.1.listed,
      subst (λ (x : ℕ). ClearedTo a.code.now a.marks.now a.s.n.0 a.s.j.0 x a.main.now c.loop-x.main) e c.loop-x.invariant.2,
      λ z h. c.loop-x.invariant.3 z h ∙ get_or-set_other a.column.now 512 z 0 0 (λ d. omega arith),
    )
