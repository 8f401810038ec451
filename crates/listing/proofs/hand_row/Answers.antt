use mathlib.Core.Path.{sym, ap, ◌∙◌}
use Prim.Native.Nat.{ℕ}
use native.Mathlib.Omega.{arith}
use lib.Dec.{leb}
use Rattle.reach.specs.Flags.{end_at}
use Rattle.sparse.proofs.Rows.{last-is, flagged}
use Rattle.listing.proofs.Dots.{hand-last}
use Rattle.listing.proofs.hand_row.Goals as goal

pub wanted-requires : goal.wanted-requires
wanted-requires c =
    let p = c.requires in
    let b = last-is c.args.code.now c.args.x (sym c.is_last.ensures ∙ c.if-not-is_last.false) in
    (p.1, omega (arith, c.wide-rule.ensures, (p.0.names c.args.x p.3 b.symbol).0, p.0.small), p.2)

pub returns-then-wanted : goal.returns-then-wanted
returns-then-wanted c =
    let a = c.args in
    let p = c.requires in
    let t = sym c.is_last.ensures ∙ c.if-not-is_last.false in
    let b = last-is a.code.now a.x t in
    let w = c.wanted.ensures ∙ ap (λ (z : ℕ). leb 2 (end_at a.marks.now z a.s.j.0)) c.wide-rule.ensures in
    hand-last a.code.now a.marks.now a.s.size a.s.j.0 a.x c.if-x-eq0.false c.if-code-x-eq-AT_END.false c.wide-rule.result (p.0.names a.x p.3 b.symbol).0 t
    c.wide-rule.ensures (flagged _ _ w c.if-wanted.true)
