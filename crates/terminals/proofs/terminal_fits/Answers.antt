use mathlib.Core.Path.{sym, ◌∙◌, ap}
use Prim.Native.Nat.{ℕ, suc, ◌+◌}
use lib.ListN.{take, drop, get_or}
use lib.Seq.{drop-cons}
use Rattle.text.specs.Lists.{begins}
use Rattle.plain.specs.Plain.{fits}
use Rattle.plain.specs.Written.{members_in}
use Rattle.terminals.proofs.Places.{term-members, fit-quoted, fit-coded, fit-inclusion, fit-exclusion}
use Rattle.terminals.proofs.terminal_fits.Goals as goal

pub returns-then-kind-lt-CODED : goal.returns-then-kind-lt-CODED
returns-then-kind-lt-CODED c =
    λ x w. c.spells.ensures ∙ ap (λ (n : ℕ). begins (take n (drop (c.args.at + 2) c.args.table.now))
    (drop c.args.i.0 c.args.text.now)) c.wide.ensures
    ∙ fit-quoted w (drop c.args.i.0 c.args.text.now) c.if-kind-lt-CODED.true

pub returns-then-kind-lt-INCLUDE : goal.returns-then-kind-lt-INCLUDE
returns-then-kind-lt-INCLUDE c =
    λ x w. fit-coded w c.if-kind-lt-CODED.false c.if-kind-ge-RULE_HEAD.false (get_or c.args.text.now c.args.i.0 0)
    (drop (suc c.args.i.0) c.args.text.now) c.if-kind-lt-INCLUDE.true
    ∙ ap (fits x) (sym (drop-cons c.args.text.now c.args.i.0 0 c.if-text-place.false))

pub returns-then-kind-lt-EXCLUDE : goal.returns-then-kind-lt-EXCLUDE
returns-then-kind-lt-EXCLUDE c =
    λ x w. fit-inclusion w c.if-kind-lt-CODED.false c.if-kind-ge-RULE_HEAD.false (get_or c.args.text.now c.args.i.0 0)
    (drop (suc c.args.i.0) c.args.text.now) c.any_member-found.result c.if-kind-lt-INCLUDE.false c.if-kind-lt-EXCLUDE.true
    (c.any_member-found.ensures (members_in x) (term-members w c.if-kind-lt-INCLUDE.false c.if-kind-ge-RULE_HEAD.false))
    ∙ ap (fits x) (sym (drop-cons c.args.text.now c.args.i.0 0 c.if-text-place.false))

pub returns : goal.returns
returns c =
    λ x w. fit-exclusion w c.if-kind-lt-CODED.false c.if-kind-ge-RULE_HEAD.false (get_or c.args.text.now c.args.i.0 0)
    (drop (suc c.args.i.0) c.args.text.now) c.any_member-found.result c.if-kind-lt-EXCLUDE.false
    (c.any_member-found.ensures (members_in x) (term-members w c.if-kind-lt-INCLUDE.false c.if-kind-ge-RULE_HEAD.false))
    ∙ ap (fits x) (sym (drop-cons c.args.text.now c.args.i.0 0 c.if-text-place.false))
