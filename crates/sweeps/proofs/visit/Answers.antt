use Rattle.sweeps.proofs.Visits.{visited}
use Rattle.sweeps.proofs.visit.Goals as goal

pub returns : goal.returns
returns c =
    let a = c.args in
    λ run. visited a.code.now a.fits.now a.layer.size a.layer.n a.layer.height _ c.requires.0.shape a.i a.j a.p c.requires.1
    run c.add_dot.ensures c.add_rule.ensures
