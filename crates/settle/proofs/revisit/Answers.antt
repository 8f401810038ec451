use mathlib.Core.Path.{subst}
use Prim.Native.Nat.{◌-◌}
use native.Mathlib.Omega.{arith}
use Rattle.settle.proofs.Using.{Revisiting, link, revisit-again, revisit-end}
use Rattle.settle.proofs.revisit.Goals as goal

-- src/lib.rt:164:5
pub loop-u-smaller : goal.loop-u-smaller
loop-u-smaller c =
    let a = c.args in let s = a.s in let p = c.requires in let x = p.0.tables in let v = c.loop-u.invariant in let k = v.is-use (c.loop-u.u - 1)
    (omega (arith, c.loop-u-test.true)) in omega (
      arith,
      c.loop-u-test.true,
      (link a.code.now a.marks.now a.notes.now s.size s.n.0 s.i.0 s.j.0 p.0.tables.shape p.0.wide
          p.0.stop x.noted.uses c.loop-u-test.true v.below k.0 c.wide-u-in-loop-u.ensures).below,
    )

-- src/lib.rt:164:5
pub loop-u-preserved : goal.loop-u-preserved
loop-u-preserved c =
    let a = c.args in let s = a.s in let p = c.requires in let x = p.0.tables in let v = c.loop-u.invariant in let k = v.is-use (c.loop-u.u - 1)
    (omega (arith, c.loop-u-test.true)) in revisit-again a.code.now a.marks.now a.notes.now s.size s.n.0 s.i.0 s.j.0 p.0.tables.shape
    p.0.wide p.0.stop x.noted.uses c.loop-u-test.true v.below k.0 c.wide-u-in-loop-u.ensures v c.use_rule.ensures

-- src/lib.rt:151:1
pub returns : goal.returns
returns c =
    let a = c.args in let s = a.s in let p = c.requires in let x = p.0.tables in revisit-end a.code.now a.marks.now a.notes.now s.size s.n.0 s.i.0
    s.j.0 p.0.tables.shape p.0.wide p.0.stop
    (subst (Revisiting a.code.now a.marks.now a.notes.now s.size s.n.0 s.i.0 s.j.0 a.main.now a.queue.now c.loop-u.main
    c.loop-u.queue a.rule) (omega (arith, c.loop-u-test.false)) c.loop-u.invariant)
