use mathlib.Core.Path.{refl}
use native.Mathlib.Omega.{arith}
use Rattle.tidy_text.proofs.Owed.{owed-next, owed_none, some_next, some-within, some-forward}
use Rattle.tidy_text.proofs.put_grammar.Goals as goal

pub loop-k-init : goal.loop-k-init
loop-k-init c =
    (refl, c.requires.1, λ ts w f. record { tokens = ts; left = w; fit = f; owed = refl })

pub put_between-pos-requires : goal.put_between-pos-requires
put_between-pos-requires c =
    (omega (arith, c.requires.0, c.loop-k.invariant.0), c.loop-k.invariant.1, c.loop-k-test.true)

pub put_token-pos-requires : goal.put_token-pos-requires
put_token-pos-requires c =
    (omega (arith, c.requires.0, c.loop-k.invariant.0), some-within c.loop-k-test.true c.loop-k.invariant.1)

pub bounds-t-k : goal.bounds-t-k
bounds-t-k c =
    omega (arith, c.loop-k-test.true, c.loop-k.invariant.1.inside)

pub begins_list-first-requires : goal.begins_list-first-requires
begins_list-first-requires c = tt

pub token_end-k-requires : goal.token_end-k-requires
token_end-k-requires c =
    some-within c.loop-k-test.true c.loop-k.invariant.1

pub loop-k-smaller : goal.loop-k-smaller
loop-k-smaller c =
    omega (arith, c.loop-k-test.true, some-forward c.loop-k-test.true c.loop-k.invariant.1, c.token_end-k.ensures)

pub loop-k-preserved : goal.loop-k-preserved
loop-k-preserved c = (
  omega arith,
  rw c.token_end-k.ensures (some_next c.loop-k-test.true c.loop-k.invariant.1),
  λ ts w f. owed-next c.loop-k.invariant.1.inside c.loop-k-test.true (c.loop-k.invariant.2 ts w f)
      c.put_between-pos.ensures c.put_token-pos.ensures c.begins_list-first.ensures c.token_end-k.ensures,
)

pub shape_of-out : goal.shape_of-out
shape_of-out c = omega (arith, c.loop-k.invariant.0)

pub returns : goal.returns
returns c = λ ts w f. record { is = owed_none c.loop-k.invariant.1.inside c.loop-k-test.false (c.loop-k.invariant.2 ts w f) }
