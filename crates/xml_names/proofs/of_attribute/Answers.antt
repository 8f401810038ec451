use mathlib.Core.Path.{ap, ap₂, ◌∙◌}
use mathlib.Core.Bool.{Bool, false}
use Rattle.text.specs.Lists.{Text, chars, same}
use Rattle.xml_names.specs.Flags.{flags}
use Rattle.xml_names.proofs.of_attribute.Goals as goal

pub returns : goal.returns
returns c =
    λ k n N. ap₂ (λ (a b : Bool). flags a false b) (c.bad_name-misnamed.ensures k n N)
    (c.is_xmlns-namespaced.ensures ∙ ap (λ (t : Text). same t (chars "xmlns")) (c.name_of.ensures k n N))
