use mathlib.Core.Bool.{not}
use mathlib.Core.Path.{ap, ◌∙◌}
use Rattle.xml.specs.Names.{xml_name}
use Rattle.xml_names.proofs.bad_name.Goals as goal

pub returns : goal.returns
returns c = λ k n N. ap not (c.is_xml_name.ensures ∙ ap xml_name (c.name_of.ensures k n N))
