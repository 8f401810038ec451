use mathlib.Core.Path.{sym, ap, subst, ◌∙◌}
use Prim.Native.Nat.{ℕ, ◌<◌, ◌≤◌}
use Rattle.text.specs.Utf8.{alphabet, place_in}
use lib.ListN.{get_or}
use borrow.Author.Rules.{rules}
use borrow.Author.Tests.{lt-ltb, le-ltb}
use Rattle.text.proofs.Spans.{known-place}
use Rattle.category.proofs.Agree.{table, agrees, not_known}
use Rattle.category.proofs.category_of.Goals as goal

pub returns-then-place-lt-KNOWN : goal.returns-then-place-lt-KNOWN
unfolding table
returns-then-place-lt-KNOWN c =
    let code = c.args.code in
    let p = c.place-place.ensures in
    ap (λ (k : ℕ). get_or table k 0) p ∙ agrees code (sym (known-place code) ∙ lt-ltb (place_in alphabet code) 498 (subst (λ (k : ℕ). k < 498) p (search rules)))

pub returns : goal.returns
returns c =
    let code = c.args.code in
    sym (not_known code (sym (known-place code) ∙ le-ltb (place_in alphabet code) 498 (subst (λ (k : ℕ). 498 ≤ k) c.place-place.ensures (search rules))))
