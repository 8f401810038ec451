use mathlib.Core.Path.{sym, ◌∙◌}
use Rattle.sparse.proofs.Rows.{flagged, unflagged, rest-empty, rest_end, rest-away, rest-wide}
use Rattle.sparse.proofs.rest_height.Goals as goal

pub returns-then-s : goal.returns-then-s
returns-then-s c =
    let a = c.args in
    c.empty_rest.ensures ∙ sym (rest-empty a.code.now a.marks.now a.notes.now a.s.n.0 a.main.now a.p a.s.i.0 a.s.j.0 c.if-s.true)

pub returns-then-code-p-eq-AT_END : goal.returns-then-code-p-eq-AT_END
returns-then-code-p-eq-AT_END c =
    let a = c.args in
    sym (rest_end a.code.now a.marks.now a.notes.now a.s.n.0 a.main.now a.p a.s.i.0 a.s.j.0 c.if-s.false c.if-code-p-eq-AT_END.true)

pub returns-then-not-reached : goal.returns-then-not-reached
returns-then-not-reached c =
    let a = c.args in
    let w = unflagged _ _ c.reached.ensures c.if-not-reached.true in
    sym (rest-away a.code.now a.marks.now a.notes.now a.s.n.0 a.main.now a.p a.s.i.0 a.s.j.0 c.if-s.false c.if-code-p-eq-AT_END.false w)

pub returns : goal.returns
returns c =
    let a = c.args in
    let w = flagged _ _ c.reached.ensures c.if-not-reached.false in
    c.wide_rest.ensures
    ∙ sym (rest-wide a.code.now a.marks.now a.notes.now a.s.n.0 a.main.now a.p a.s.i.0 a.s.j.0 c.if-s.false c.if-code-p-eq-AT_END.false w)
