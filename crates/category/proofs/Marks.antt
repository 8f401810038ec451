-- Places that are not marked.
use mathlib.Core.Path.{◌≡◌, sym, ap}
use mathlib.Core.Bool.{Bool, true, false, not}
use mathlib.Core.List.{List}
use Prim.Native.Nat.{ℕ, ◌<◌}
use Rattle.text.specs.Ranks.{some_from}
use Rattle.text.proofs.Tests.{is_t, not_t, T_true, T_false}
use Rattle.text.proofs.Known.{some_below, below-some}
use Rattle.category.specs.Marks.{marked}

-- a search for a place that is not marked
pub unmarked-here : (P K : List Bool) (k : ℕ) → k < 498 → marked P K k ≡ false → true ≡ some_from (λ j. not (marked P K j)) 0 498
unmarked-here P K k h e = sym (T_true (some_from (λ j. not (marked P K j)) 0 498) (some_below (λ j. not (marked P K j)) 498 k h (is_t (ap not e))))

pub unmarked-none : (P K : List Bool) → ((k : ℕ) → k < 498 → marked P K k ≡ true) → false ≡ some_from (λ j. not (marked P K j)) 0 498
unmarked-none P K h =
    sym (T_false (some_from (λ j. not (marked P K j)) 0 498)
    (λ t. let r = below-some (λ j. not (marked P K j)) 498 t in not_t (ap not (h r.0 r.1.0)) r.1.1))
