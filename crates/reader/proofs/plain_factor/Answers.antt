use mathlib.Core.Path.{sym, ◌∙◌}
use Rattle.syntax.specs.Syntax.{namestart}
use Rattle.spacing.proofs.Places.{is-ch, not-ch, tested}
use Rattle.reader.proofs.Terminals.{name-step, room-mark, plain-insertion, plain-bad, mark-small, plain-name, plain-attribute, plain-terminal}
use Rattle.reader.proofs.plain_factor.Goals as goal

pub insertion-requires : goal.insertion-requires
insertion-requires c =
    let pre = c.requires in
    (pre, (is-ch c.peek.ensures 0x2b c.if-peek-eq-PLUS.true))

pub returns-then-peek-eq-PLUS : goal.returns-then-peek-eq-PLUS
returns-then-peek-eq-PLUS c =
    let args = c.args in
    plain-insertion args.text.now args.p.0 _ _ (is-ch c.peek.ensures 0x2b c.if-peek-eq-PLUS.true) c.insertion.result _ c.insertion.ensures

pub returns-in_err-q : goal.returns-in_err-q
returns-in_err-q c =
    let args = c.args in
    rw c.from_residual.ensures (plain-bad args.text.now args.p.0 (not-ch c.peek.ensures 0x2b c.if-peek-eq-PLUS.false) c.in_err-q.ensures)

pub used_name-requires : goal.used_name-requires
used_name-requires c =
    let args = c.args in
    let pre = c.requires in
    room-mark args.text.now args.p.0 _ _ _ _ (pre) c.in_ok-q.ensures

pub spaced-requires : goal.spaced-requires
spaced-requires c =
    let args = c.args in
    name-step c.in_ok-q.m args.text.now c.in_ok-q.q.0 _ _ c.used_name.result _ c.used_name.ensures

pub returns-then-name_start : goal.returns-then-name_start
returns-then-name_start c =
    let args = c.args in
    plain-name args.text.now args.p.0 (not-ch c.peek.ensures 0x2b c.if-peek-eq-PLUS.false) _ _ c.in_ok-q.ensures
    (tested c.peek-2.ensures namestart (sym c.name_start.ensures ∙ c.if-name_start.true)) _ _ c.used_name.result _ c.spaced.result
    c.used_name.ensures c.spaced.ensures

pub returns-then-m-eq-ATTRIBUTE : goal.returns-then-m-eq-ATTRIBUTE
returns-then-m-eq-ATTRIBUTE c =
    let args = c.args in
    plain-attribute args.text.now args.p.0 (not-ch c.peek.ensures 0x2b c.if-peek-eq-PLUS.false) _ _ c.in_ok-q.ensures
    (tested c.peek-2.ensures namestart (sym c.name_start.ensures ∙ c.if-name_start.false)) c.if-m-eq-ATTRIBUTE.true

pub terminal-requires : goal.terminal-requires
terminal-requires c =
    let args = c.args in
    let pre = c.requires in (
      room-mark args.text.now args.p.0 _ _ _ _ (pre) c.in_ok-q.ensures,
      mark-small args.text.now args.p.0 (not-ch c.peek.ensures 0x2b c.if-peek-eq-PLUS.false) _ _ c.in_ok-q.ensures,
    )

pub returns : goal.returns
returns c =
    let args = c.args in
    plain-terminal args.text.now args.p.0 (not-ch c.peek.ensures 0x2b c.if-peek-eq-PLUS.false) _ _ c.in_ok-q.ensures
    (tested c.peek-2.ensures namestart (sym c.name_start.ensures ∙ c.if-name_start.false)) c.if-m-eq-ATTRIBUTE.false _ _ c.terminal.result _ c.terminal.ensures
