use mathlib.Core.Path.{◌≡◌, refl, subst, ◌∙◌}
use Prim.Native.Nat.{ℕ, ◌+◌}
use native.Mathlib.Omega.{arith}
use lib.ListN.{length-replicate}
use Rattle.quick.specs.Quick.{Before}
use Rattle.quick.proofs.Columns.{before-none, filled}
use Rattle.quick.proofs.Started.{no-count, no-queue}
use Rattle.quick.proofs.fill.Goals as goal

pub loop-end-init : goal.loop-end-init
loop-end-init c =
    let a = c.args in
    let g = c.requires in (
      refl,
      before-none _ _ _ _ _ a.main.now g.0 g.1,
      c.note_units.auto.column ∙ length-replicate {A = ℕ} 3789 0,
      c.note_units.ensures,
      no-queue a.size g.0.shape.small,
      no-count,
    )

pub returns : goal.returns
returns c =
    let a = c.args in
    let e : c.loop-end.end ≡ a.n.0 + 1 = omega (arith, c.loop-end.auto.end-end, c.loop-end-test.false) in (
      λ _. filled _ _ _ _ _
          (subst (λ (x : ℕ). Before a.code.now a.marks.now a.notes.now a.size a.n.0 x c.loop-end.main) e c.loop-end.invariant.1),
      λ _. refl,
    )
