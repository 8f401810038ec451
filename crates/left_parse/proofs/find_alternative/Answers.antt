use native.Mathlib.Omega.{arith}
use mathlib.Core.Path.{◌≡◌, refl, sym, ◌∙◌}
use Prim.Native.Nat.{ℕ, suc, ◌+◌, ◌-◌, ◌<◌, ◌≤◌}
use Rattle.left_parse.proofs.Items.{in_table, rest-on, rest_end, counting-on, counting-end}
use Rattle.left_parse.proofs.find_alternative.Goals as goal

none : (n k : ℕ) → n ≤ k → n - k ≡ 0
none n k h = omega arith

all : (n : ℕ) → n - 0 ≡ n
all n = omega arith

one-less : (n k : ℕ) → k < n → suc (n - (k + 1)) ≡ n - k
one-less n k h = omega arith

pub loop-init : goal.loop-init
loop-init c = λ g starts ts al. rw (all c.args.number) (λ l. record { left = ts; stands = al; number = l; same = refl }, record { left = ts; stands = al; sum = refl })

pub returns-then-kind_at-ne-ALTERNATIVE_END : goal.returns-then-kind_at-ne-ALTERNATIVE_END
returns-then-kind_at-ne-ALTERNATIVE_END c = (
  tt,
  record {
    some = λ e. absurd (let z : ◌≡◌ {A = ℕ} 0 1 = cc in omega arith);
    none = λ e g starts ts al.
        (counting-on (c.loop.invariant g starts ts al).1 (one-less c.args.number c.loop.counter c.loop-test.true) c.pass-e.result
        (λ us sp. c.pass-e.ensures.ends g starts us sp)).1 (λ k. c.if-kind_at-ne-ALTERNATIVE_END.true (c.kind_at.ensures ∙ k));
  },
)

pub overflow_add-x : goal.overflow_add-x
overflow_add-x c =
    let h = in_table c.args.table.now c.pass-e.result (λ e. omega (arith, c.if-kind_at-ne-ALTERNATIVE_END.false, c.kind_at.ensures)) in omega (arith, h)

pub loop-preserved : goal.loop-preserved
loop-preserved c =
    let fewer = one-less c.args.number c.loop.counter c.loop-test.true in
    λ g starts ts al. (
      λ l. (rest-on ((c.loop.invariant g starts ts al).0 l) fewer c.pass-e.result (λ us sp. c.pass-e.ensures.ends g starts us sp)).1,
      (counting-on (c.loop.invariant g starts ts al).1 fewer c.pass-e.result
          (λ us sp. c.pass-e.ensures.ends g starts us sp)).0 (sym c.kind_at.ensures ∙ c.if-kind_at-ne-ALTERNATIVE_END.false),
    )

pub returns : goal.returns
returns c =
    let last = none c.args.number c.loop.counter c.loop-test.false in (
      record { spells = λ g starts ts al l. rest_end (rw last at ((c.loop.invariant g starts ts al).0 l)) },
      record {
        some = λ e g starts ts al. counting-end (rw last at (c.loop.invariant g starts ts al).1);
        none = λ e. absurd (let z : ◌≡◌ {A = ℕ} 0 1 = cc in omega arith);
      },
    )
