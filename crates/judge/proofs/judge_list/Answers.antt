use native.Mathlib.Omega.{arith}
use mathlib.Core.Path.{refl}
use Rattle.judge.proofs.Ends.{none-empty, none-there, some-begun, judged, refused}
use Rattle.judge.proofs.judge_list.Goals as goal

pub returns-then-list-eq0 : goal.returns-then-list-eq0
returns-then-list-eq0 c = refused refl (λ g G. none-empty c.if-list-eq0.true)

pub walk-requires : goal.walk-requires
walk-requires c = (
  omega (arith, c.if-list-eq0.false),
  some-begun c.look-a.ensures.0 (omega (
    arith,
    c.if-list-eq0.false,
  )) c.has_alternative.ensures c.if-has_alternative.true _ c.alternative-item.ensures
      c.requires,
)

pub returns-then-has_alternative : goal.returns-then-has_alternative
returns-then-has_alternative c =
    judged c.look-a.ensures.0 (omega (
      arith,
      c.if-list-eq0.false,
    )) c.has_alternative.ensures c.if-has_alternative.true _ c.alternative-item.ensures c.requires c.walk.ensures

pub returns : goal.returns
returns c = refused refl (none-there c.look-a.ensures.0 (omega (arith, c.if-list-eq0.false)) c.has_alternative.ensures c.if-has_alternative.false)
