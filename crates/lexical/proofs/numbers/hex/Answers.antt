use mathlib.Core.Path.{refl, sym, ◌∙◌}
use native.Mathlib.Omega.{arith}
use Rattle.syntax.specs.Syntax.{ch, digit}
use Rattle.syntax.proofs.Classes.{ch-end}
use Rattle.spacing.proofs.Places.{in-text, tested}
use Rattle.lexical.proofs.Words.{hex-none, hex-some}
use Rattle.lexical.proofs.numbers.hex.Goals as goal

pub after-first-requires : goal.after-first-requires
after-first-requires c =
    let h = in-text c.args.text.now c.args.p.0 (ch 0x23) (ch-end 0x23 refl) c.requires in
    omega arith

pub returns-then-not-digit : goal.returns-then-not-digit
returns-then-not-digit c =
    let args = c.args in
    let pre = c.requires in
    hex-none args.text.now args.p.0 (pre) (tested (rw c.after-first.ensures at c.peek.ensures) digit (sym
    c.digit.ensures ∙ c.if-not-digit.true))

pub digits-requires : goal.digits-requires
digits-requires c =
    let args = c.args in
    let pre = c.requires in
    let h = in-text args.text.now args.p.0 (ch 0x23) (ch-end 0x23 refl) (pre) in
    omega (arith, c.after-first.ensures)

pub returns : goal.returns
returns c =
    let args = c.args in
    hex-some args.text.now args.p.0 c.requires (tested (rw c.after-first.ensures at c.peek.ensures) digit (sym c.digit.ensures ∙ c.if-not-digit.false))
    _ _ (rw c.after-first.ensures at c.digits.ensures)
