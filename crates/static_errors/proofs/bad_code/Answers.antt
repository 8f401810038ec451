use borrow.Author.Tests.{ne_eqb}
use Rattle.static_errors.specs.Parts.{bad_code}
use Rattle.static_errors.specs.declared.StaticError.TheVariants.{HexTooLarge}
use Rattle.static_errors.specs.Held.{rule_number}
use Rattle.static_errors.proofs.Rulings.{rule_one}
use Rattle.static_errors.proofs.bad_code.Goals as goal

pub returns-in-HexTooLarge : goal.returns-in-HexTooLarge
unfolding bad_code
returns-in-HexTooLarge c = rw c.in-HexTooLarge.is

pub returns-in_default : goal.returns-in_default
unfolding bad_code
returns-in_default c = rw (ne_eqb (rule_number c.args.rule) 7 (λ z. c.in_default.not-HexTooLarge (rule_one c.args.rule HexTooLarge z))) c.unassignable.ensures
