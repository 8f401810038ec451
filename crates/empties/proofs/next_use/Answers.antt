use native.Mathlib.Omega.{arith}
use Rattle.sparse.proofs.Rows.{owner-size}
use Rattle.empties.proofs.next_use.Goals as goal

pub bounds-notes-owner : goal.bounds-notes-owner
bounds-notes-owner c =
    let a = c.args in
    let p = c.requires in omega (arith, c.wide-owner.ensures, owner-size p.0 a.p p.2, p.0.small, p.1, c.if-owner-eq0.false)
