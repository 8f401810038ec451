use mathlib.Core.Bool.{◌||◌}
use mathlib.Core.Path.{refl}
use native.Mathlib.Omega.{arith}
use Rattle.reading.proofs.Steps.{can-enter, stepped}
use Rattle.reading.proofs.descend.Goals as goal

pub find_end-m-requires : goal.find_end-m-requires
find_end-m-requires c =
    let pre = c.requires in
    (pre.0.ready, ((pre.0.position.inside, pre.1), (pre.0.on pre.1).ends))

pub other_end-elsewhere-requires : goal.other_end-elsewhere-requires
other_end-elsewhere-requires c =
    let pre = c.requires in
    (pre.0.ready, (pre.0.position.inside, pre.1))

pub overflow_add-inner : goal.overflow_add-inner
overflow_add-inner c =
    let pre = c.requires in
    omega (arith, pre.0.written, pre.0.most)

pub enter-requires : goal.enter-requires
enter-requires c =
    let pre = c.requires in
    can-enter pre.0 pre.1 c.number_at.result c.number_at-2.result c.number_at.ensures.0 c.number_at-2.ensures.0 c.find_end-m.result.0 (c.args.h.mark || c.other_end-elsewhere.result) c.find_end-m.ensures

pub returns : goal.returns
returns c =
    let pre = c.requires in
    stepped pre.0 pre.1 c.number_at.result c.number_at-2.result c.number_at.ensures.0 c.number_at-2.ensures.0 c.find_end-m.result.0 c.other_end-elsewhere.result (c.args.h.mark || c.other_end-elsewhere.result) c.find_end-m.ensures
    c.other_end-elsewhere.ensures c.push.ensures refl c.enter.ensures
