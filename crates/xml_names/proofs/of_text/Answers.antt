use mathlib.Core.Path.{ap, ◌∙◌}
use mathlib.Core.Bool.{Bool, false}
use Rattle.xml_names.specs.Flags.{flags, bad}
use Rattle.xml_names.proofs.Names.{bad-capped}
use Rattle.xml_names.proofs.of_text.Goals as goal

pub returns : goal.returns
returns c = λ t s. ap (λ (b : Bool). flags false b false) (c.bad_piece-unwritable.ensures ∙ s.tests bad bad-capped)
