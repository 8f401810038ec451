-- The head, the digits and the end make the document.
use Rattle.std.proofs.Common.{◌≡◌, ℕ, Bool, ◌++◌, ap, ◌∙◌, arith, append_assoc}
use Rattle.text.specs.Lists.{chars}
use Rattle.answer.specs.Program.{decimal, fail_document}
use Rattle.cli.specs.Output.{fail_head}
use Rattle.cli.proofs.output.put_fail.Goals as goal

document : (v : Bool) (k : ℕ) → (fail_head v ++ decimal k) ++ chars "'/>" ≡ fail_document v k
unfolding fail_document
document v k = simp append_assoc

pub returns : goal.returns
returns c = (
  omega arith,
  λ h. c.put.ensures.holds ∙ ap (λ l. l ++ chars "'/>") (c.put_decimal-end.ensures.1 h ∙ ap (λ l. l ++ decimal c.args.place) c.put_head-at.ensures.1) ∙ document c.args.version c.args.place,
)
