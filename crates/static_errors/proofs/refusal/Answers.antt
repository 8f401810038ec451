use mathlib.Core.Path.{sym, ◌∙◌}
use Rattle.static_errors.specs.Scan.{name_refusal, code_refusal, refusal_of}
use Rattle.static_errors.proofs.Scans.{clear}
use Rattle.static_errors.proofs.refusal.Goals as goal

pub returns-then-repeated : goal.returns-then-repeated
unfolding refusal_of name_refusal code_refusal
returns-then-repeated c =
    λ ts h. let C = clear _ ts (sym (c.broken.ensures ts h) ∙ c.if-broken.false) in rw (C.names, ← c.repeated.ensures, c.if-repeated.true)

pub returns : goal.returns
unfolding refusal_of name_refusal code_refusal
returns c =
    λ ts h.
    let C = clear _ ts (sym (c.broken.ensures ts h) ∙ c.if-broken.false) in
    rw (C.names, ← c.repeated.ensures, c.if-repeated.false, C.large, C.banned, C.back, C.classes)
