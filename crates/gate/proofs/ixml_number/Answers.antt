use mathlib.Core.Path.{sym, ap, ◌∙◌}
use Rattle.gate.specs.Calls.{number_shown}
use Rattle.decimal.proofs.Constants.{nought}
use Rattle.gate.proofs.Answers.{read_as}
use Rattle.gate.proofs.ixml_number.Goals as goal

pub returns-in-Some : goal.returns-in-Some
returns-in-Some c = read_as c.args.text.now (ap number_shown (sym c.in-Some.is ∙ c.read_number.ensures))

pub returns-in-None : goal.returns-in-None
returns-in-None c = read_as c.args.text.now (rw nought (ap number_shown (sym c.in-None.is ∙ c.read_number.ensures)))
