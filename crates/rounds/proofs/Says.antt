-- What a table after h rounds says.
use mathlib.Core.List.{List}
use Prim.Native.Nat.{ℕ, ◌<◌, ◌≤◌}
use native.Mathlib.Omega.{arith}
use Rattle.text.specs.Lists.{Text}
use Rattle.tree.specs.Tree.{Grammar}
use Rattle.chart.specs.Heights.{none}
use Rattle.rounds.specs.After.{rule_symbol, Within, TableSays, RuleAfter, rule-low, rule-none, After}

pub after-says : {g : Grammar} {r : Text} {h : ℕ} {t : List ℕ} → h ≤ none → After g r h t → TableSays g r h t
after-says {g} {r} {h} few a q i j hq hi hj = (λ l. has (a.rule q i j hq hi hj) l, λ w. entered (a.rule q i j hq hi hj) w)
  where
    has : {v : ℕ} → RuleAfter g r (rule_symbol g q) i j h v → v < none → Within g r h (rule_symbol g q) i j
    has (rule-low w l) b = record { tree = w.tree; derives = w.derives; low = omega (arith, w.attained) }
    has (rule-none w) b = absurd (omega arith)

    entered : {v : ℕ} → RuleAfter g r (rule_symbol g q) i j h v → Within g r h (rule_symbol g q) i j → v < none
    entered (rule-low w l) b = omega arith
    entered (rule-none w) b = absurd (omega (arith, w b.tree b.derives, b.low))
