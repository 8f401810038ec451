use mathlib.Core.Path.{ap}
use mathlib.Core.Bool.{Bool, false}
use Rattle.xml_names.specs.Flags.{flags}
use Rattle.xml_names.proofs.of_name.Goals as goal

pub returns : goal.returns
returns c = λ k n N. ap (λ (b : Bool). flags b false false) (c.bad_name-misnamed.ensures k n N)
