use native.Mathlib.Omega.{arith}
use mathlib.Core.Path.{ap, ◌∙◌}
use Prim.Native.Nat.{ℕ, ◌+◌}
use lib.ListN.{take, drop}
use Rattle.text.specs.Lists.{all}
use Rattle.text.specs.Utf8.{known}
use Rattle.plain.specs.Written.{members_in}
use Rattle.terminals.proofs.Places.{term-members}
use Rattle.terminals.proofs.LiveTerminals.{live-quoted, live-insertion, live-hex, live-inclusion, live-exclusion}
use Rattle.terminals.proofs.live.is_live.Goals as goal

pub returns-then-kind-lt-CODED : goal.returns-then-kind-lt-CODED
returns-then-kind-lt-CODED c =
    λ x w. c.all_known.ensures ∙ ap (λ (n : ℕ). all known (take n (drop (c.args.at + 2) c.args.table.now))) c.wide.ensures ∙ live-quoted w
    c.if-kind-lt-CODED.true

pub returns-then-kind-lt-INCLUDE : goal.returns-then-kind-lt-INCLUDE
returns-then-kind-lt-INCLUDE c = λ x w. c.known.ensures ∙ live-hex w c.if-kind-lt-CODED.false (omega (arith, c.if-kind-lt-INCLUDE.true)) c.if-kind-lt-INCLUDE.true

pub returns-then-kind-lt-EXCLUDE : goal.returns-then-kind-lt-EXCLUDE
returns-then-kind-lt-EXCLUDE c =
    λ x w. c.some_member_is_live.ensures (members_in x) (term-members w c.if-kind-lt-INCLUDE.false (omega (arith, c.if-kind-lt-EXCLUDE.true))) ∙ live-inclusion w c.if-kind-lt-CODED.false
    (omega (arith, c.if-kind-lt-EXCLUDE.true)) c.if-kind-lt-INCLUDE.false c.if-kind-lt-EXCLUDE.true

pub returns-then-kind-lt-RULE_HEAD : goal.returns-then-kind-lt-RULE_HEAD
returns-then-kind-lt-RULE_HEAD c =
    λ x w. c.exclusion_is_live.ensures (members_in x) (term-members w c.if-kind-lt-INCLUDE.false c.if-kind-lt-RULE_HEAD.true) ∙ live-exclusion w c.if-kind-lt-CODED.false
    c.if-kind-lt-RULE_HEAD.true c.if-kind-lt-EXCLUDE.false

pub returns : goal.returns
returns c = λ x w. live-insertion w c.if-kind-lt-RULE_HEAD.false
