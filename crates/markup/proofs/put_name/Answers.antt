use mathlib.Core.Path.{sym, ap, ◌∙◌}
use Rattle.text.specs.Lists.{concat_map}
use Rattle.encode.specs.Out.{spelt}
use Rattle.encode.specs.declared.Spelling.TheVariants.{Plain}
use Rattle.encode.proofs.Puts.{wrote-text}
use Rattle.encode.proofs.Texts.{spelt-plain}
use Rattle.markup.proofs.put_name.Goals as goal

pub returns : goal.returns
returns c =
    λ k n N. wrote-text (sym (spelt-plain n) ∙ ap (concat_map (spelt Plain)) (sym (c.name_of.ensures k n N))) c.put_text.ensures
