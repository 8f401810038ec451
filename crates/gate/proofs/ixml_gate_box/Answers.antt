use mathlib.Core.Path.{ap, ◌∙◌}
use Rattle.gate.specs.Calls.{shown}
use Rattle.gate.proofs.Answers.{ruled}
use Rattle.gate.proofs.ixml_gate_box.Goals as goal

pub returns : goal.returns
returns c =
    let args = c.args in
    ruled _ args.lat.now args.lon.now (c.shown.ensures ∙ ap shown c.rule.ensures)
