use Prim.Native.Nat.{◌-◌, ◌+◌}
use mathlib.Core.Path.{sym, ◌∙◌}
use native.Mathlib.Omega.{arith}
use lib.ListN.{length, drop}
use Rattle.syntax.specs.Syntax.{bar}
use Rattle.syntax.specs.Parser.{starts, Alts=, Terms=}
use Rattle.syntax.proofs.Classes.{bar-end}
use Rattle.spacing.proofs.Places.{tested, in-text, is-ch, not-ch, twice}
use Rattle.reader.specs.Answers.{body_code, alternative_code}
use Rattle.reader.proofs.Loops.{loop-start, loop-fail, loop-read, room-read, room-cell, falls_at, falls-read, seen-in, less_one}
use Rattle.reader.proofs.Cycle.{alts-none, alts-stop, alts-no-space, alts-less, alts-again, alt-nothing, alt-of-terms, mark-in, marks-in, sep-room}
use Rattle.reader.proofs.Cycle.{sep-falls, repeat-alone, repeat-no-space, repeat-no-factor, repeat-cell, repeat-sep, factor-of-plain, factor-deep}
use Rattle.reader.proofs.Cycle.{factor-no-space, factor-no-alts, factor-open, factor-shut, terms-none, terms-stop, terms-no-space, terms-less}
use Rattle.reader.proofs.Cycle.{terms-again, term-none, term-stop, term-option, term-star, term-plus}
use Rattle.reader.proofs.+alternative_alternatives_factor_repeated_term_terms.Goals as goal

pub alternative-terms-requires : goal.alternative-terms-requires
alternative-terms-requires t c =
    let args = c.args in
    let pre = c.requires in
    (falls_at t (length args.text.now) args.p.0 args.p.0 4 3 (omega arith) pre.place c.decreases (omega arith), pre)

pub alternative-returns-then-starts : goal.alternative-returns-then-starts
alternative-returns-then-starts t c =
    let args = c.args in
    alt-of-terms args.text.now args.p.0 args.d args.out.now args.at.0
    (tested c.peek.ensures starts (sym c.starts.ensures ∙ c.if-starts.true)) c.terms.result c.terms.new.out c.terms.ensures

pub alternative-returns : goal.alternative-returns
alternative-returns t c =
    let args = c.args in
    let pre = c.requires in
    alt-nothing args.text.now args.p.0 args.d args.out.now args.at.0 pre.place
    (tested c.peek.ensures starts (sym c.starts.ensures ∙ c.if-starts.false))

pub alternatives-loop-q-init : goal.alternatives-loop-q-init
alternatives-loop-q-init t c =
    let args = c.args in
    let pre = c.requires in
    loop-start (λ n x. Alts= args.d (drop n args.text.now) x) body_code args.text.now args.p.0 args.out.now args.at.0 pre

pub alternatives-alternative-requires : goal.alternatives-alternative-requires
alternatives-alternative-requires t c =
    let args = c.args in
    let pre = c.requires in (
      falls_at t (length args.text.now) args.p.0 c.loop-q.from.0 5 4 c.loop-q.invariant.context.on c.loop-q.invariant.room.place c.decreases (omega arith),
      c.loop-q.invariant.room,
    )

pub alternatives-returns-in_err-q : goal.alternatives-returns-in_err-q
alternatives-returns-in_err-q t c =
    let args = c.args in
    rw c.from_residual.ensures (loop-fail c.loop-q.invariant (alts-none args.d (drop c.loop-q.from.0 args.text.now) c.in_err-q.ensures))

pub alternatives-returns-then-not-bar : goal.alternatives-returns-then-not-bar
alternatives-returns-then-not-bar t c =
    let args = c.args in
    loop-read c.loop-q.invariant args.p.0 c.loop-q.from.0 c.alternative.new.out c.in_ok-q.q.0 c.in_ok-q.b.0
    c.loop-q.invariant.context.on
    (alts-stop args.text.now c.loop-q.from.0 args.d c.loop-q.out c.loop-q.to.0 c.alternative.new.out c.in_ok-q.q.0
    c.in_ok-q.b.0 c.in_ok-q.ensures
    (tested c.peek.ensures bar (sym c.bar.ensures ∙ c.if-not-bar.true)))

pub alternatives-token-requires : goal.alternatives-token-requires
alternatives-token-requires t c =
    let args = c.args in
    let i =
    (in-text args.text.now c.in_ok-q.q.0 bar bar-end
    (tested c.peek.ensures bar (sym c.bar.ensures ∙ c.if-not-bar.false)))
    in
    (i, room-cell (room-read c.loop-q.invariant.room c.in_ok-q.ensures c.alternative.auto.out) i)

pub alternatives-returns-in_err-w : goal.alternatives-returns-in_err-w
alternatives-returns-in_err-w t c =
    let args = c.args in
    rw c.from_residual-in_err-w.ensures (loop-fail c.loop-q.invariant
    (alts-no-space args.text.now c.loop-q.from.0 args.d c.loop-q.out c.loop-q.to.0 c.alternative.new.out c.in_ok-q.q.0
    c.in_ok-q.b.0 c.in_ok-q.ensures
    (tested c.peek.ensures bar (sym c.bar.ensures ∙ c.if-not-bar.false)) c.in_err-w.ensures))

pub alternatives-loop-q-smaller : goal.alternatives-loop-q-smaller
alternatives-loop-q-smaller t c =
    let args = c.args in
    alts-less args.text.now c.loop-q.from.0 args.d c.loop-q.out c.loop-q.to.0 c.alternative.new.out c.in_ok-q.q.0
    c.in_ok-q.b.0 c.in_ok-q.ensures
    (tested c.peek.ensures bar (sym c.bar.ensures ∙ c.if-not-bar.false)) c.token.new.out c.in_ok-w.w.0
    c.in_ok-w.e.0 c.in_ok-w.ensures

pub alternatives-loop-q-preserved : goal.alternatives-loop-q-preserved
alternatives-loop-q-preserved t c =
    let args = c.args in
    alts-again args.text.now c.loop-q.from.0 args.d c.loop-q.out c.loop-q.to.0 c.alternative.new.out c.in_ok-q.q.0
    c.in_ok-q.b.0 c.in_ok-q.ensures
    (tested c.peek.ensures bar (sym c.bar.ensures ∙ c.if-not-bar.false)) c.token.new.out c.in_ok-w.w.0
    c.in_ok-w.e.0 c.in_ok-w.ensures c.loop-q.invariant c.alternative.auto.out c.token.auto.out

pub factor-plain_factor-requires : goal.factor-plain_factor-requires
factor-plain_factor-requires t c =
    let pre = c.requires in
    pre

pub factor-returns-then-peek-ne-OPEN_ROUND : goal.factor-returns-then-peek-ne-OPEN_ROUND
factor-returns-then-peek-ne-OPEN_ROUND t c =
    let args = c.args in
    factor-of-plain args.text.now args.p.0 args.d args.out.now args.at.0 (not-ch c.peek.ensures 40 c.if-peek-ne-OPEN_ROUND.true)
    c.plain_factor.result c.plain_factor.new.out c.plain_factor.ensures

pub factor-returns-then-d-eq0 : goal.factor-returns-then-d-eq0
factor-returns-then-d-eq0 t c =
    let args = c.args in
    factor-deep args.text.now args.p.0 args.d args.out.now args.at.0 (is-ch c.peek.ensures 40 c.if-peek-ne-OPEN_ROUND.false)
    c.if-d-eq0.true

pub factor-token-requires : goal.factor-token-requires
factor-token-requires t c =
    let args = c.args in
    let pre = c.requires in
    let i = (seen-in args.text.now args.p.0 c.peek.result 40 c.peek.ensures c.if-peek-ne-OPEN_ROUND.false (omega arith)) in
    (i, room-cell pre i)

pub factor-returns-in_err-w : goal.factor-returns-in_err-w
factor-returns-in_err-w t c =
    let args = c.args in
    rw c.from_residual.ensures (factor-no-space args.text.now args.p.0 args.d args.out.now args.at.0 (is-ch c.peek.ensures 40 c.if-peek-ne-OPEN_ROUND.false) (args.d - 1)
    (less_one args.d c.if-d-eq0.false) c.in_err-w.ensures)

pub factor-alternatives-requires : goal.factor-alternatives-requires
factor-alternatives-requires t c =
    let pre = c.requires in (
      falls-read t 1 5 c.in_ok-w.ensures c.decreases (omega arith),
      room-read pre c.in_ok-w.ensures c.token.auto.out,
    )

pub factor-returns-in_err-q : goal.factor-returns-in_err-q
factor-returns-in_err-q t c =
    let args = c.args in
    rw c.from_residual-in_err-q.ensures (factor-no-alts args.text.now args.p.0 args.d args.out.now args.at.0 (is-ch c.peek.ensures 40 c.if-peek-ne-OPEN_ROUND.false) (args.d - 1)
    (less_one args.d c.if-d-eq0.false) c.token.new.out c.in_ok-w.w.0 c.in_ok-w.e.0 c.in_ok-w.ensures
    c.in_err-q.ensures)

pub factor-returns-then-peek-ne-CLOSE_ROUND : goal.factor-returns-then-peek-ne-CLOSE_ROUND
factor-returns-then-peek-ne-CLOSE_ROUND t c =
    let args = c.args in
    factor-open args.text.now args.p.0 args.d args.out.now args.at.0 (is-ch c.peek.ensures 40 c.if-peek-ne-OPEN_ROUND.false) (args.d - 1)
    (less_one args.d c.if-d-eq0.false) c.token.new.out c.in_ok-w.w.0 c.in_ok-w.e.0 c.in_ok-w.ensures
    c.alternatives.new.out c.in_ok-q.q.0 c.in_ok-q.b.0 c.in_ok-q.ensures
    (not-ch c.peek-2.ensures 41 c.if-peek-ne-CLOSE_ROUND.true)

pub factor-token-requires-2 : goal.factor-token-requires-2
factor-token-requires-2 t c =
    let args = c.args in
    let pre = c.requires in
    let i = seen-in args.text.now c.in_ok-q.q.0 c.peek-2.result 41 c.peek-2.ensures c.if-peek-ne-CLOSE_ROUND.false (omega arith) in (
      i,
      room-cell
          (room-read (room-read pre c.in_ok-w.ensures c.token.auto.out)
          c.in_ok-q.ensures c.alternatives.auto.out)
          i,
    )

pub factor-returns : goal.factor-returns
factor-returns t c =
    let args = c.args in
    factor-shut args.text.now args.p.0 args.d args.out.now args.at.0 (is-ch c.peek.ensures 40 c.if-peek-ne-OPEN_ROUND.false) (args.d - 1)
    (less_one args.d c.if-d-eq0.false) c.token.new.out c.in_ok-w.w.0 c.in_ok-w.e.0 c.in_ok-w.ensures
    c.alternatives.new.out c.in_ok-q.q.0 c.in_ok-q.b.0 c.in_ok-q.ensures
    (is-ch c.peek-2.ensures 41 c.if-peek-ne-CLOSE_ROUND.false) c.token-2.result c.token-2.new.out c.token-2.ensures

pub repeated-after-second-requires : goal.repeated-after-second-requires
repeated-after-second-requires t c =
    let args = c.args in
    let pre = c.requires in
    omega (arith, (mark-in args.text.now args.p.0 args.k pre.1 pre.2))

pub repeated-token-requires : goal.repeated-token-requires
repeated-token-requires t c =
    let args = c.args in
    let pre = c.requires in
    let i = (mark-in args.text.now args.p.0 args.k pre.1 pre.2) in
    (i, room-cell pre.0 i)

pub repeated-returns-then-peek-k : goal.repeated-returns-then-peek-k
repeated-returns-then-peek-k t c =
    let args = c.args in
    repeat-alone args.text.now args.p.0 args.k args.d args.out.now args.at.0
    (not-ch (rw c.after-second.ensures at c.peek.ensures) (42 + args.k) c.if-peek-k.true) c.token.result c.token.new.out c.token.ensures

pub repeated-after-requires : goal.repeated-after-requires
repeated-after-requires t c =
    let args = c.args in
    let pre = c.requires in
    omega (
      arith,
      c.after-second.ensures,
      (marks-in args.text.now args.p.0 args.k c.peek.result pre.1 (rw
          c.after-second.ensures at c.peek.ensures) c.if-peek-k.false),
    )

pub repeated-skip-requires : goal.repeated-skip-requires
repeated-skip-requires t c =
    let args = c.args in
    let pre = c.requires in
    rw (twice _ c.after-second.ensures c.after.ensures) (marks-in args.text.now args.p.0 args.k c.peek.result pre.1
    (rw c.after-second.ensures at c.peek.ensures) c.if-peek-k.false)

pub repeated-returns-in_err-w : goal.repeated-returns-in_err-w
repeated-returns-in_err-w t c =
    let args = c.args in
    rw c.from_residual.ensures (repeat-no-space args.text.now args.p.0 args.k args.d args.out.now args.at.0
    (is-ch (rw c.after-second.ensures at c.peek.ensures) (42 + args.k) c.if-peek-k.false) (rw (twice _ c.after-second.ensures c.after.ensures) at c.in_err-w.ensures))

pub repeated-factor-requires : goal.repeated-factor-requires
repeated-factor-requires t c =
    let args = c.args in
    let pre = c.requires in (
      sep-falls t 1 1 args.text.now args.p.0 c.in_ok-w.w.0 (rw (twice _ c.after-second.ensures c.after.ensures) at c.in_ok-w.ensures) c.decreases (omega arith),
      sep-room c.in_ok-w.w.0 pre.0 (rw (twice _ c.after-second.ensures c.after.ensures) at c.in_ok-w.ensures),
    )

pub repeated-returns-in_err-q : goal.repeated-returns-in_err-q
repeated-returns-in_err-q t c =
    let args = c.args in
    rw c.from_residual-in_err-q.ensures (repeat-no-factor args.text.now args.p.0 args.k args.d args.out.now args.at.0
    (is-ch (rw c.after-second.ensures at c.peek.ensures) (42 + args.k) c.if-peek-k.false) c.in_ok-w.w.0 (rw (twice _ c.after-second.ensures c.after.ensures) at c.in_ok-w.ensures)
    c.in_err-q.ensures)

pub repeated-put-end-requires : goal.repeated-put-end-requires
repeated-put-end-requires t c =
    let args = c.args in
    let pre = c.requires in
    omega (
      arith,
      repeat-cell args.text.now args.p.0 args.k args.d args.out.now args.at.0
          (is-ch (rw c.after-second.ensures at c.peek.ensures) (42 + args.k) c.if-peek-k.false) c.in_ok-w.w.0 (rw (twice _ c.after-second.ensures c.after.ensures) at c.in_ok-w.ensures)
          c.factor.new.out c.in_ok-q.q.0 c.in_ok-q.b.0 c.in_ok-q.ensures pre.0
          c.factor.auto.out,
    )

pub repeated-returns : goal.repeated-returns
repeated-returns t c =
    let args = c.args in
    let pre = c.requires in
    rw (c.put-end.ensures.0, c.put-end.ensures.1)
    (repeat-sep args.text.now args.p.0 args.k args.d args.out.now args.at.0
    (is-ch (rw c.after-second.ensures at c.peek.ensures) (42 + args.k) c.if-peek-k.false) c.in_ok-w.w.0 (rw (twice _ c.after-second.ensures c.after.ensures) at c.in_ok-w.ensures) c.factor.new.out
    c.in_ok-q.q.0 c.in_ok-q.b.0 c.in_ok-q.ensures pre.0 c.factor.auto.out)

pub term-factor-requires : goal.term-factor-requires
term-factor-requires t c =
    let args = c.args in
    let pre = c.requires in
    (falls_at t (length args.text.now) args.p.0 args.p.0 2 1 (omega arith) pre.place c.decreases (omega arith), pre)

pub term-returns-in_err-q : goal.term-returns-in_err-q
term-returns-in_err-q t c =
    let args = c.args in
    rw c.from_residual.ensures (term-none args.d (drop args.p.0 args.text.now) c.in_err-q.ensures)

pub term-token-requires : goal.term-token-requires
term-token-requires t c =
    let args = c.args in
    let pre = c.requires in
    let i = seen-in args.text.now c.in_ok-q.q.0 c.peek-c.result 63 c.peek-c.ensures c.if-c-eq-QUESTION_MARK.true (omega arith) in
    (i, room-cell (room-read pre c.in_ok-q.ensures c.factor.auto.out) i)

pub term-returns-then-c-eq-QUESTION_MARK : goal.term-returns-then-c-eq-QUESTION_MARK
term-returns-then-c-eq-QUESTION_MARK t c =
    let args = c.args in
    term-option args.text.now args.p.0 args.d args.out.now args.at.0 c.factor.new.out c.in_ok-q.q.0
    c.in_ok-q.b.0 c.in_ok-q.ensures (is-ch c.peek-c.ensures 63 c.if-c-eq-QUESTION_MARK.true) c.token.result
    c.token.new.out c.token.ensures

pub term-repeated-requires : goal.term-repeated-requires
term-repeated-requires t c =
    let pre = c.requires in (
      falls-read t 2 1 c.in_ok-q.ensures c.decreases (omega arith),
      (
        (room-read pre c.in_ok-q.ensures c.factor.auto.out),
        omega arith,
        is-ch c.peek-c.ensures 42 c.if-c-eq-STAR.true,
      ),
    )

pub term-returns-then-c-eq-STAR : goal.term-returns-then-c-eq-STAR
term-returns-then-c-eq-STAR t c =
    let args = c.args in
    term-star args.text.now args.p.0 args.d args.out.now args.at.0 c.factor.new.out c.in_ok-q.q.0
    c.in_ok-q.b.0 c.in_ok-q.ensures (is-ch c.peek-c.ensures 42 c.if-c-eq-STAR.true) c.repeated.result
    c.repeated.new.out c.repeated.ensures

pub term-repeated-requires-then-c-eq-PLUS : goal.term-repeated-requires-then-c-eq-PLUS
term-repeated-requires-then-c-eq-PLUS t c =
    let pre = c.requires in (
      falls-read t 2 1 c.in_ok-q.ensures c.decreases (omega arith),
      (
        (room-read pre c.in_ok-q.ensures c.factor.auto.out),
        omega arith,
        is-ch c.peek-c.ensures 43 c.if-c-eq-PLUS.true,
      ),
    )

pub term-returns-then-c-eq-PLUS : goal.term-returns-then-c-eq-PLUS
term-returns-then-c-eq-PLUS t c =
    let args = c.args in
    term-plus args.text.now args.p.0 args.d args.out.now args.at.0 c.factor.new.out c.in_ok-q.q.0
    c.in_ok-q.b.0 c.in_ok-q.ensures (is-ch c.peek-c.ensures 43 c.if-c-eq-PLUS.true) c.repeated-then-c-eq-PLUS.result
    c.repeated-then-c-eq-PLUS.new.out c.repeated-then-c-eq-PLUS.ensures

pub term-returns : goal.term-returns
term-returns t c =
    let args = c.args in
    term-stop args.text.now args.p.0 args.d args.out.now args.at.0 c.factor.new.out c.in_ok-q.q.0
    c.in_ok-q.b.0 c.in_ok-q.ensures (not-ch c.peek-c.ensures 63 c.if-c-eq-QUESTION_MARK.false)
    (not-ch c.peek-c.ensures 42 c.if-c-eq-STAR.false) (not-ch c.peek-c.ensures 43 c.if-c-eq-PLUS.false)

pub terms-loop-q-init : goal.terms-loop-q-init
terms-loop-q-init t c =
    let args = c.args in
    let pre = c.requires in
    loop-start (λ n x. Terms= args.d (drop n args.text.now) x) alternative_code args.text.now args.p.0 args.out.now
    args.at.0 pre

pub terms-term-requires : goal.terms-term-requires
terms-term-requires t c =
    let args = c.args in
    let pre = c.requires in (
      falls_at t (length args.text.now) args.p.0 c.loop-q.from.0 3 2 c.loop-q.invariant.context.on c.loop-q.invariant.room.place c.decreases (omega arith),
      c.loop-q.invariant.room,
    )

pub terms-returns-in_err-q : goal.terms-returns-in_err-q
terms-returns-in_err-q t c =
    let args = c.args in
    rw c.from_residual.ensures (loop-fail c.loop-q.invariant (terms-none args.d (drop c.loop-q.from.0 args.text.now) c.in_err-q.ensures))

pub terms-returns-then-peek-ne-COMMA : goal.terms-returns-then-peek-ne-COMMA
terms-returns-then-peek-ne-COMMA t c =
    let args = c.args in
    let h = c.loop-q.invariant.context.on in
    loop-read c.loop-q.invariant (args.p.0 + 1) (c.loop-q.from.0 + 1) c.term.new.out c.in_ok-q.q.0 c.in_ok-q.b.0 (omega arith)
    (terms-stop args.text.now c.loop-q.from.0 args.d c.loop-q.out c.loop-q.to.0 c.term.new.out c.in_ok-q.q.0
    c.in_ok-q.b.0 c.in_ok-q.ensures (not-ch c.peek.ensures 44 c.if-peek-ne-COMMA.true))

pub terms-after-requires : goal.terms-after-requires
terms-after-requires t c =
    let args = c.args in
    omega (arith, (seen-in args.text.now c.in_ok-q.q.0 c.peek.result 44 c.peek.ensures c.if-peek-ne-COMMA.false (omega arith)))

pub terms-skip-requires : goal.terms-skip-requires
terms-skip-requires t c =
    let args = c.args in
    omega (arith, c.after.ensures, (seen-in args.text.now c.in_ok-q.q.0 c.peek.result 44 c.peek.ensures c.if-peek-ne-COMMA.false (omega arith)))

pub terms-returns-in_err-w : goal.terms-returns-in_err-w
terms-returns-in_err-w t c =
    let args = c.args in
    rw c.from_residual-in_err-w.ensures (loop-fail c.loop-q.invariant
    (terms-no-space args.text.now c.loop-q.from.0 args.d c.loop-q.out c.loop-q.to.0 c.term.new.out c.in_ok-q.q.0
    c.in_ok-q.b.0 c.in_ok-q.ensures (is-ch c.peek.ensures 44 c.if-peek-ne-COMMA.false)
    (rw c.after.ensures at c.in_err-w.ensures)))

pub terms-loop-q-smaller : goal.terms-loop-q-smaller
terms-loop-q-smaller t c =
    let args = c.args in
    terms-less args.text.now c.loop-q.from.0 args.d c.loop-q.out c.loop-q.to.0 c.term.new.out c.in_ok-q.q.0 c.in_ok-q.b.0
    c.in_ok-q.ensures (is-ch c.peek.ensures 44 c.if-peek-ne-COMMA.false) c.in_ok-w.w.0
    (rw c.after.ensures at c.in_ok-w.ensures)

pub terms-loop-q-preserved : goal.terms-loop-q-preserved
terms-loop-q-preserved t c =
    let args = c.args in
    terms-again args.text.now c.loop-q.from.0 args.d c.loop-q.out c.loop-q.to.0 c.term.new.out c.in_ok-q.q.0 c.in_ok-q.b.0
    c.in_ok-q.ensures (is-ch c.peek.ensures 44 c.if-peek-ne-COMMA.false) c.in_ok-w.w.0
    (rw c.after.ensures at c.in_ok-w.ensures) c.loop-q.invariant c.term.auto.out
