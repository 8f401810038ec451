use Rattle.static_errors.specs.Scan.{name_refusal}
use Rattle.static_errors.proofs.name_refusal.Goals as goal

pub returns-then-broken : goal.returns-then-broken
unfolding name_refusal
returns-then-broken c = λ ts h. rw (← c.broken.ensures ts h, c.if-broken.true)

pub returns-then-repeated : goal.returns-then-repeated
unfolding name_refusal
returns-then-repeated c = λ ts h. rw (← c.broken.ensures ts h, c.if-broken.false, ← c.repeated.ensures, c.if-repeated.true)

pub returns : goal.returns
unfolding name_refusal
returns c = λ ts h. rw (← c.broken.ensures ts h, c.if-broken.false, ← c.repeated.ensures, c.if-repeated.false)
