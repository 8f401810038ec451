use Rattle.sweeps.proofs.Visits.{held-dot, free-dot, took-dot}
use Rattle.sweeps.proofs.add_dot.Goals as goal

pub returns-then-main-x : goal.returns-then-main-x
returns-then-main-x c =
    let a = c.args in
    held-dot a.code.now a.fits.now a.layer.size a.layer.n a.layer.height a.main.now a.p a.i a.j
    c.cell-x.result c.cell-x.ensures c.if-main-x.true

pub returns-then-derived : goal.returns-then-derived
returns-then-derived c =
    let a = c.args in
    took-dot a.code.now a.fits.now a.layer.size a.layer.n a.layer.height a.main.now a.p a.i a.j
    c.cell-x.result c.cell-x.ensures c.if-main-x.false
    c.derived.result c.derived.ensures c.if-derived.true

pub returns-else-derived : goal.returns-else-derived
returns-else-derived c =
    let a = c.args in
    free-dot a.code.now a.fits.now a.layer.size a.layer.n a.layer.height a.main.now a.p a.i a.j c.cell-x.result c.cell-x.ensures
    c.derived.result c.derived.ensures c.if-derived.false
