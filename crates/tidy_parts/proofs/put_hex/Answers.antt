use mathlib.Core.Path.{refl, sym, ap}
use Prim.Native.Nat.{ℕ, ◌/◌}
use native.Mathlib.Omega.{arith}
use Rattle.encode.proofs.Puts.{wrote_none, wrote-text}
use Rattle.tidy_parts.proofs.Parts.{leading, leading-none, still-none, power-some, power-down, power-low, leading-next, next-digit, last-digit}
use Rattle.tidy_parts.proofs.put_hex.Goals as goal

pub loop-unit-init : goal.loop-unit-init
loop-unit-init c = (refl, record { exponent = 5; is = refl }, wrote-text (leading-none _ (omega (arith, c.requires.1))) wrote_none)

pub nonzero_div-top : goal.nonzero_div-top
nonzero_div-top c = power-some c.loop-unit.invariant.1

pub put_digit-q-requires : goal.put_digit-q-requires
put_digit-q-requires c =
    (omega (arith, c.requires.0, c.loop-unit.invariant.0), omega arith)

pub loop-unit-smaller-then-top-gt0 : goal.loop-unit-smaller-then-top-gt0
loop-unit-smaller-then-top-gt0 c =
    omega (arith, c.loop-unit-test.true)

pub loop-unit-preserved-then-top-gt0 : goal.loop-unit-preserved-then-top-gt0
loop-unit-preserved-then-top-gt0 c = (
  omega arith,
  power-down c.loop-unit.invariant.1 c.loop-unit-test.true,
  next-digit _ (leading-next _ _ c.loop-unit.invariant.1 c.loop-unit.invariant.2) c.put_digit-q.ensures c.if-top-gt0.true,
)

pub loop-unit-smaller : goal.loop-unit-smaller
loop-unit-smaller c = omega (arith, c.loop-unit-test.true)

pub loop-unit-preserved : goal.loop-unit-preserved
loop-unit-preserved c = (
  c.loop-unit.invariant.0,
  power-down c.loop-unit.invariant.1 c.loop-unit-test.true,
  still-none _ c.if-top-gt0.false (leading-next _ _ c.loop-unit.invariant.1 c.loop-unit.invariant.2),
)

pub put_digit-requires : goal.put_digit-requires
put_digit-requires c =
    (omega (arith, c.requires.0, c.loop-unit.invariant.0), omega arith)

pub shape_of-out : goal.shape_of-out
shape_of-out c = omega arith

pub returns : goal.returns
returns c =
    let n = c.args.n in
    last-digit n
    (wrote-text (ap (λ (u : ℕ). leading (n / u)) (sym (power-low c.loop-unit.invariant.1 c.loop-unit-test.false))) c.loop-unit.invariant.2)
    c.put_digit.ensures
