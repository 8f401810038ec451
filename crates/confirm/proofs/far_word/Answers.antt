use native.Mathlib.Omega.{arith}
use mathlib.Core.Path.{ap}
use Prim.Native.Nat.{ℕ, ◌+◌, ◌*◌}
use Rattle.confirm.proofs.Reaches.{words-start, words-none, words-next, words-end}
use Rattle.confirm.proofs.far_word.Goals as goal

pub returns-then-word-eq0 : goal.returns-then-word-eq0
returns-then-word-eq0 c = words-none c.if-word-eq0.true

pub loop-b-init : goal.loop-b-init
loop-b-init c = words-start

pub overflow_mul-x : goal.overflow_mul-x
overflow_mul-x c = omega (arith, c.requires.2)

pub overflow_add-x : goal.overflow_add-x
overflow_add-x c = omega (arith, c.requires.2, c.wide.ensures, c.loop-b-test.true)

pub far_one-far-requires : goal.far_one-far-requires
far_one-far-requires c = (c.requires.0, c.requires.1)

pub loop-b-preserved : goal.loop-b-preserved
loop-b-preserved c =
    words-next c.loop-b-test.true (ap (λ (y : ℕ). 32 * c.args.s.x + y) c.wide.ensures) c.lit.ensures.0
    c.lit.ensures.1 c.loop-b.invariant c.far_one-far.ensures

pub returns : goal.returns
returns c = words-end c.loop-b-test.false c.loop-b.invariant
