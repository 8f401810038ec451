use native.Mathlib.Omega.{arith}
use Rattle.spread.proofs.Handing.{offering, before-next}
use Rattle.spread.proofs.spread_dot.Goals as goal

pub returns : goal.returns
returns c =
    let p = c.requires in
    let a = c.args in
    let d = c.hand_on.ensures a.notes.now
    (offering _ _ _ _ _ _ _ p.0 p.3 p.4 p.2 a.column.now p.1 p.6 p.5 c.if-x-eq0.false c.rest_height-b.ensures c.if-b.false (omega arith)) in
    (d.spread, before-next _ _ _ _ _ _ _ d.on)
