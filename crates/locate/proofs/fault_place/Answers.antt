use Rattle.static_errors.specs.Held.{rule_number}
use Rattle.locate.proofs.Found as law
use Rattle.locate.proofs.fault_place.Goals as goal

pub returns : goal.returns
returns c =
    law.place_at c.args.text.now c.args.table.now c.args.end (rule_number c.args.rule) c.requires _ c.first_fault-spot.result
    c.look.result c.locate.ensures
    (c.first_fault-spot.ensures c.requires.grammar c.requires.holds
    (law.rated c.args.text.now c.args.table.now c.args.end (rule_number c.args.rule) c.requires))
    c.look.ensures.0
