use Rattle.static_errors.specs.Scan.{code_refusal}
use Rattle.static_errors.proofs.code_refusal.Goals as goal

pub returns-then-broken : goal.returns-then-broken
unfolding code_refusal
returns-then-broken c = λ ts h. rw (← c.broken.ensures ts h, c.if-broken.true)

pub returns-then-broken-2 : goal.returns-then-broken-2
unfolding code_refusal
returns-then-broken-2 c = λ ts h. rw (← c.broken.ensures ts h, c.if-broken.false, ← c.broken-2.ensures ts h, c.if-broken-2.true)

pub returns-then-broken-3 : goal.returns-then-broken-3
unfolding code_refusal
returns-then-broken-3 c =
    λ ts h. rw (← c.broken.ensures ts h, c.if-broken.false, ← c.broken-2.ensures ts h, c.if-broken-2.false, ← c.broken-3.ensures ts h, c.if-broken-3.true)

pub returns-then-broken-4 : goal.returns-then-broken-4
unfolding code_refusal
returns-then-broken-4 c =
    λ ts h. rw (
      ← c.broken.ensures ts h,
      c.if-broken.false,
      ← c.broken-2.ensures ts h,
      c.if-broken-2.false,
      ←
          c.broken-3.ensures ts h,
      c.if-broken-3.false,
      ← c.broken-4.ensures ts h,
      c.if-broken-4.true,
    )

pub returns : goal.returns
unfolding code_refusal
returns c =
    λ ts h. rw (
      ← c.broken.ensures ts h,
      c.if-broken.false,
      ← c.broken-2.ensures ts h,
      c.if-broken-2.false,
      ←
          c.broken-3.ensures ts h,
      c.if-broken-3.false,
      ← c.broken-4.ensures ts h,
      c.if-broken-4.false,
    )
