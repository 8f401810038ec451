use mathlib.Core.Path.{sym, ◌∙◌}
use native.Mathlib.Omega.{arith}
use Rattle.lexical.proofs.Copies.{copy_start, copy-on, copy-no, copy-end, copy-room, quoted-by, chars-end, chars-plain, chars-no, chars-last, chars-quote, quote-small, second-in}
use Rattle.spacing.proofs.Places.{twice}
use Rattle.lexical.proofs.strings.copy_quoted.Goals as goal

pub loop-from-init : goal.loop-from-init
loop-from-init c = copy_start (quoted-by c.args.q) _ _ _ _ c.requires.0.place

pub after-next-requires : goal.after-next-requires
after-next-requires c = omega arith

pub returns-then-peek-q : goal.returns-then-peek-q
returns-then-peek-q c =
    let args = c.args in
    rw c.after-next.ensures (copy-end (quoted-by args.q) _ _ _ _ _ _ _ c.loop-from.invariant 1 _ (omega arith) (omega arith)
    (chars-last _ _ _ c.loop-from-test.true c.if-c-q.true (λ e. c.if-peek-q.true ((rw c.after-next.ensures at c.peek.ensures) ∙ e))))

pub after-from-requires : goal.after-from-requires
after-from-requires c = omega (arith, c.after-next.ensures)

pub loop-from-smaller-then-c-q : goal.loop-from-smaller-then-c-q
loop-from-smaller-then-c-q c =
    omega (arith, c.after-next.ensures, c.after-from.ensures)

pub loop-from-preserved-then-c-q : goal.loop-from-preserved-then-c-q
loop-from-preserved-then-c-q c =
    let args = c.args in
    let pre = c.requires in
    rw (twice _ c.after-next.ensures c.after-from.ensures) (copy-on (quoted-by args.q) _ _ _ _ _ _ _ c.loop-from.invariant args.q _
    (second-in _ _ _ (sym (rw c.after-next.ensures at c.peek.ensures) ∙ c.if-peek-q.false)
    (quote-small _ pre.1)) (omega arith)
    (copy-room (quoted-by args.q) _ _ _ _ _ _ _ c.loop-from.invariant pre.0 c.loop-from-test.true)
    (chars-quote _ _ _ c.loop-from-test.true c.if-c-q.true (sym (rw c.after-next.ensures at
    c.peek.ensures) ∙ c.if-peek-q.false) (quote-small _ pre.1)))

pub returns-then-not-plain : goal.returns-then-not-plain
returns-then-not-plain c =
    let args = c.args in
    copy-no (quoted-by args.q) _ _ _ _ _ _ _ c.loop-from.invariant
    (chars-no _ _ _ c.loop-from-test.true c.if-c-q.false (sym c.plain.ensures ∙ c.if-not-plain.true))

pub loop-from-smaller : goal.loop-from-smaller
loop-from-smaller c = omega (arith, c.after-next.ensures)

pub loop-from-preserved : goal.loop-from-preserved
loop-from-preserved c =
    let args = c.args in
    let pre = c.requires in
    rw c.after-next.ensures (copy-on (quoted-by args.q) _ _ _ _ _ _ _ c.loop-from.invariant _ _ (omega arith) (omega arith)
    (copy-room (quoted-by args.q) _ _ _ _ _ _ _ c.loop-from.invariant pre.0 c.loop-from-test.true)
    (chars-plain _ _ _ c.loop-from-test.true c.if-c-q.false (sym c.plain.ensures ∙ c.if-not-plain.false)))

pub returns : goal.returns
returns c =
    let args = c.args in
    copy-no (quoted-by args.q) _ _ _ _ _ _ _ c.loop-from.invariant (chars-end _ _ _ c.loop-from-test.false)
