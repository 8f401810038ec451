use native.Mathlib.Omega.{arith}
use mathlib.Core.Path.{refl, ap, ◌∙◌}
use Prim.Native.Nat.{ℕ, ◌+◌}
use Rattle.text.proofs.Tests.{clash}
use Rattle.standing.specs.Stood.{entering}
use Rattle.standing.proofs.Laws.{told-dot, told-rule}
use Rattle.standing.proofs.visit.Goals as goal

pub fresh-requires : goal.fresh-requires
fresh-requires c = omega (arith, c.requires.inside, c.requires.shape.small)

pub returns-then-none : goal.returns-then-none
returns-then-none c =
    record {
      told = λ L M n top s a. told-dot s (omega (arith, c.requires.inside, c.requires.shape.small)) c.fresh.ensures.0 a;
      long = c.fresh.ensures.0.long;
      less = c.fresh.ensures.1;
      more = λ e. absurd (clash refl e);
    }

pub overflow_mul-kind : goal.overflow_mul-kind
overflow_mul-kind c = omega (arith, c.requires.inside, c.requires.shape.small)

pub offset_bounds-code-p : goal.offset_bounds-code-p
offset_bounds-code-p c = omega (arith, c.requires.inside, c.requires.shape.small)

pub bounds-code-p : goal.bounds-code-p
bounds-code-p c =
    omega (arith, c.requires.inside, c.requires.shape.room)

pub returns-then-kind-eq-AT_END : goal.returns-then-kind-eq-AT_END
returns-then-kind-eq-AT_END c =
    record {
      told = λ L M n top s a. told-dot s (omega (arith, c.requires.inside, c.requires.shape.small)) c.fresh.ensures.0 a;
      long = c.fresh.ensures.0.long;
      less = c.fresh.ensures.1;
      more = λ e. absurd (clash refl e);
    }

pub overflow_mul-p : goal.overflow_mul-p
overflow_mul-p c =
    omega (arith, c.requires.inside, c.requires.shape.small)

pub overflow_add-p : goal.overflow_add-p
overflow_add-p c =
    omega (arith, c.requires.inside, c.requires.shape.small)

pub offset_bounds-code-p-then-kind-eq-AT_SYMBOL : goal.offset_bounds-code-p-then-kind-eq-AT_SYMBOL
offset_bounds-code-p-then-kind-eq-AT_SYMBOL c =
    omega (arith, c.requires.inside, c.requires.shape.small)

pub bounds-code-p-then-kind-eq-AT_SYMBOL : goal.bounds-code-p-then-kind-eq-AT_SYMBOL
bounds-code-p-then-kind-eq-AT_SYMBOL c =
    omega (arith, c.requires.inside, c.requires.shape.room)

pub overflow_add-rule : goal.overflow_add-rule
overflow_add-rule c =
    omega (arith, c.wide-rule.ensures, c.requires.shape.small, (c.requires.shape.names _ c.requires.inside c.if-kind-eq-AT_SYMBOL.true).0)

pub join_row-requires : goal.join_row-requires
join_row-requires c =
    omega (arith, c.wide-rule.ensures, c.requires.shape.small, (c.requires.shape.names _ c.requires.inside c.if-kind-eq-AT_SYMBOL.true).0)

pub push-requires : goal.push-requires
push-requires c =
    omega (arith, c.wide-rule.ensures, c.requires.shape.small, (c.requires.shape.names _ c.requires.inside c.if-kind-eq-AT_SYMBOL.true).0)

pub returns-then-join_row : goal.returns-then-join_row
returns-then-join_row c =
    record {
      told = λ L M n top s a. told-rule (told-dot s (omega (arith, c.requires.inside, c.requires.shape.small)) c.fresh.ensures.0 a) _
          (ap (λ (y : ℕ). 512 + y) c.wide-rule.ensures) c.join_row.ensures.joined (λ x h y q o. entering (a x h (c.fresh.ensures.1 x y)) c.if-kind-eq-AT_SYMBOL.true o);
      long = c.join_row.ensures.joined.long ∙ c.fresh.ensures.0.long;
      less = c.fresh.ensures.1;
      more = λ _ e. c.if-kind-eq-AT_END.false e;
    }

pub returns-else-join_row : goal.returns-else-join_row
returns-else-join_row c =
    record {
      told = λ L M n top s a. told-rule (told-dot s (omega (arith, c.requires.inside, c.requires.shape.small)) c.fresh.ensures.0 a) _
          (ap (λ (y : ℕ). 512 + y) c.wide-rule.ensures) c.join_row.ensures.joined (λ x h y q o. entering (a x h (c.fresh.ensures.1 x y)) c.if-kind-eq-AT_SYMBOL.true o);
      long = c.join_row.ensures.joined.long ∙ c.fresh.ensures.0.long;
      less = c.fresh.ensures.1;
      more = λ _ e. c.if-kind-eq-AT_END.false e;
    }

pub returns-else-kind-eq-AT_SYMBOL : goal.returns-else-kind-eq-AT_SYMBOL
returns-else-kind-eq-AT_SYMBOL c =
    record {
      told = λ L M n top s a. told-dot s (omega (arith, c.requires.inside, c.requires.shape.small)) c.fresh.ensures.0 a;
      long = c.fresh.ensures.0.long;
      less = c.fresh.ensures.1;
      more = λ _ e. c.if-kind-eq-AT_END.false e;
    }
