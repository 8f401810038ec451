use mathlib.Core.Path.{◌≡◌, sym, ◌∙◌}
use Prim.Native.Nat.{ℕ}
use native.Mathlib.Omega.{arith}
use Rattle.reading.proofs.more.Goals as goal

pub returns-then-h-gt-READING_NUMBERS : goal.returns-then-h-gt-READING_NUMBERS
returns-then-h-gt-READING_NUMBERS c = (λ e. absurd (let z : ◌≡◌ {A = ℕ} 0 1 = cc in omega arith), λ e l. absurd (omega arith))

pub overflow_mul-p : goal.overflow_mul-p
overflow_mul-p c = omega (arith, c.requires (omega arith))

pub number_at-requires : goal.number_at-requires
number_at-requires c = c.requires (omega arith)

pub returns-then-number_at-ne-AFTER_ALTERNATIVE : goal.returns-then-number_at-ne-AFTER_ALTERNATIVE
returns-then-number_at-ne-AFTER_ALTERNATIVE c = (
  λ e. (omega arith, λ o. c.if-number_at-ne-AFTER_ALTERNATIVE.true (c.number_at.ensures.0 ∙ (o (omega arith)).0)),
  λ e. absurd (let z : ◌≡◌ {A = ℕ} 0 1 = cc in omega arith),
)

pub returns-then-h-eq0 : goal.returns-then-h-eq0
returns-then-h-eq0 c =
    (λ e. absurd (let z : ◌≡◌ {A = ℕ} 0 1 = cc in omega arith), λ e l. (sym c.number_at.ensures.0 ∙ c.if-number_at-ne-AFTER_ALTERNATIVE.false, c.if-h-eq0.true))

pub returns : goal.returns
returns c = (λ e. (omega arith, λ o. c.if-h-eq0.false (o (omega arith)).1), λ e. absurd (let z : ◌≡◌ {A = ℕ} 0 1 = cc in omega arith))
