use mathlib.Core.Path.{sym, ◌∙◌}
use native.Mathlib.Omega.{arith}
use Rattle.markup.proofs.Pieces.{head_plain, head-version}
use Rattle.markup.proofs.head_at.Goals as goal

pub returns-then-look-eq-VERSION : goal.returns-then-look-eq-VERSION
returns-then-look-eq-VERSION c =
    record {
      named = λ g R. head-version c.args.table.now g R c.look-then-look-eq-VERSION.result
          (sym c.look.ensures.0 ∙ c.if-look-eq-VERSION.true) c.look-then-look-eq-VERSION.ensures.0;
      fits = omega (arith, c.look-then-look-eq-VERSION.ensures.1);
    }

pub returns : goal.returns
returns c = record { named = λ g R. head_plain c.args.table.now g R (λ e. c.if-look-eq-VERSION.false (c.look.ensures.0 ∙ e)); fits = omega arith }
