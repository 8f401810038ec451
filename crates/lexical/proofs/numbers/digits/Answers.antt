use mathlib.Core.Path.{◌≡◌, sym, ◌∙◌}
use lib.ListN.{length}
use native.Mathlib.Omega.{arith}
use Rattle.lexical.proofs.Copies.{counting-start, counting-small, counting-end, counting-stop, counting-on}
use Rattle.lexical.proofs.numbers.digits.Goals as goal

pub loop-i-init : goal.loop-i-init
loop-i-init c = counting-start _ _ c.requires

pub returns-then-not-digit : goal.returns-then-not-digit
returns-then-not-digit c =
    counting-stop _ _ _ _ c.loop-i.invariant c.loop-i-test.true (sym c.digit.ensures ∙ c.if-not-digit.true)

pub next_value-v-requires : goal.next_value-v-requires
next_value-v-requires c =
    (counting-small _ _ _ _ c.loop-i.invariant, sym c.digit.ensures ∙ c.if-not-digit.false)

pub loop-i-preserved : goal.loop-i-preserved
loop-i-preserved c =
    counting-on _ _ _ _ c.loop-i.invariant c.loop-i-test.true (sym c.digit.ensures ∙ c.if-not-digit.false) _ c.next_value-v.ensures

pub returns : goal.returns
returns c =
    let end : c.loop-i.i ≡ length c.args.text.now = omega arith in
    rw (← end) (counting-end _ _ _ _ c.loop-i.invariant c.loop-i-test.false)
