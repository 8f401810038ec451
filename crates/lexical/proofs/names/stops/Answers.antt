use Rattle.lexical.proofs.Uses.{stops-short, stops-no-dot, stops-open, stops_then}
use Rattle.lexical.proofs.names.stops.Goals.{then-n-i-via-then-n-i, then-n-i-via-else-n-i+then-text-n-ne-FULL_STOP}
use Rattle.lexical.proofs.names.stops.Goals as goal

pub returns-then-n-i : goal.returns-then-n-i
returns-then-n-i c =
    let a = c.args in
    let pre = c.requires in
    elim c.then-n-i.branch [
      | then-n-i-via-then-n-i w ↦ stops-short a.text.now a.p.0 a.q.0 pre.0 pre.1 w.if-n-i.true
      | then-n-i-via-else-n-i+then-text-n-ne-FULL_STOP w ↦ stops-no-dot a.text.now a.p.0 a.q.0 pre.0 pre.1 w.if-n-i.false w.if-text-n-ne-FULL_STOP.true
    ]

pub returns-in-Some : goal.returns-in-Some
returns-in-Some c =
    let a = c.args in
    let pre = c.requires in
    stops_then a.text.now a.p.0 a.q.0 pre.0 pre.1 c.if-n-i.false c.if-text-n-ne-FULL_STOP.false _ c.ended.result c.in-Some.ensures c.ended.ensures

pub returns-in-None : goal.returns-in-None
returns-in-None c =
    let a = c.args in
    let pre = c.requires in
    stops-open a.text.now a.p.0 a.q.0 pre.0 pre.1 c.if-n-i.false c.if-text-n-ne-FULL_STOP.false c.in-None.ensures
