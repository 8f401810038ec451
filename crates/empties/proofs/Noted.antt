-- The notes of a grammar's rules, after each stage that puts some.
use mathlib.Core.Path.{◌≡◌, sym, subst, ◌∙◌}
use mathlib.Core.List.{List}
use Prim.Native.Nat.{ℕ, ◌+◌, ◌*◌, ◌<◌, ◌≤◌}
use native.Mathlib.Omega.{arith}
use lib.ListN.{length, get_or}
use Rattle.chart.specs.Code.{rule_at}
use Rattle.chart.specs.Uses.{LastUse, Uses}
use Rattle.reach.specs.Lists.{HomesFrom}
use Rattle.sparse.specs.Cells.{Noted}
use Rattle.empties.specs.Empty.{Found}

pub noted_of : {c F F₁ F₂ : List ℕ} {size : ℕ} → size ≤ 512 → length F ≡ 2048 → Uses c size size F → HomesFrom c size 1024 F F₁ → Found c size F₁ F₂ → Noted c size F₂
noted_of {c} {F} {F₂ = F₂} {size} s l u h e = record {
  long = e.long ∙ h.long ∙ l;
  uses = record {
    last = λ x b. subst (LastUse c x size) (sym (same (2 * x) (omega arith))) (u.last x b);
    next = λ x b z. subst (LastUse c (rule_at c x) x) (sym (same (2 * x + 1) (omega arith))) (u.next x b z);
  };
  homes = λ p b. e.below (1024 + p) (omega arith) ∙ h.homes p b;
}
  where
    same : (x : ℕ) → x < 1024 → get_or F₂ x 0 ≡ get_or F x 0
    same x b = e.below x (omega arith) ∙ h.below x b
