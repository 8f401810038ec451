use mathlib.Core.Path.{sym}
use Rattle.spacing.proofs.Places.{hd-char, hd-end}
use Rattle.spacing.proofs.characters.peek.Goals as goal

pub returns-then-at-text : goal.returns-then-at-text
returns-then-at-text c = let a = c.args in sym (hd-char a.text.now a.p.0 c.if-at-text.true)

pub returns : goal.returns
returns c = let a = c.args in sym (hd-end a.text.now a.p.0 c.if-at-text.false)
