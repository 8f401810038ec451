use mathlib.Core.Path.{refl, sym, ◌∙◌}
use Prim.Native.Nat.{◌+◌}
use native.Mathlib.Omega.{arith}
use Rattle.reading.specs.Walk.{at-end, at-terminal}
use Rattle.reading.proofs.step.Goals as goal

pub pop-requires : goal.pop-requires
pop-requires c =
    let pre = c.requires in
    (pre.back (sym c.number_at-kind.ensures.0 ∙ c.if-kind-eq-AFTER_ALTERNATIVE.true), omega (arith, pre.written, pre.most, pre.stack))

pub returns-then-kind-eq-AFTER_ALTERNATIVE : goal.returns-then-kind-eq-AFTER_ALTERNATIVE
returns-then-kind-eq-AFTER_ALTERNATIVE c =
    at-end (sym c.number_at-kind.ensures.0 ∙ c.if-kind-eq-AFTER_ALTERNATIVE.true) refl refl c.pop.ensures

pub returns-then-kind-eq-BEFORE_TERMINAL : goal.returns-then-kind-eq-BEFORE_TERMINAL
returns-then-kind-eq-BEFORE_TERMINAL c =
    let h = c.args.h in
    let wide = c.number_at-wide.ensures.0 in
    at-terminal (sym c.number_at-kind.ensures.0 ∙ c.if-kind-eq-BEFORE_TERMINAL.true) refl refl
    (λ ι. record {
      size = h.size;
      n = h.n;
      p = h.p + 1;
      i = record { 0 = h.i.0 + wide ι };
      j = h.j;
      k = h.k;
      at = h.at;
      depth = h.depth;
      mark = h.mark;
    })
