-- A record that is derived is all of it the beginning of an accepted text, so its fault is not before its end.
use mathlib.Core.List.{[], append-nil}
use mathlib.Core.Path.{sym, subst, ◌∙◌}
use Prim.Native.Nat.{ℕ, ◌<◌}
use native.Mathlib.Omega.{arith}
use lib.ListN.{length, take}
use lib.Seq.{take_all}
use Rattle.text.specs.Lists.{Text}
use Rattle.tree.specs.Tree.{Grammar}
use Rattle.derive.specs.Derive.{Row, Derivation}
use Rattle.viable.specs.Fault.{Begins, FaultAt}

pub derived-begins : {g : Grammar} {r : Text} {t : Row} → Derivation g r t → Begins g (take (length r) r)
derived-begins {g} {r} {t} d = record {
  rest = [];
  held = tt;
  tree = t;
  derives = subst (λ (w : Text). Derivation g w t) (sym (append-nil (take (length r) r) ∙ take_all (length r) r (omega arith))) d;
}

-- "the first k characters … begin some text that the grammar accepts", for no greater k: before the end, there is no derivation
pub early-underived : {g : Grammar} {r : Text} {k : ℕ} → FaultAt g r k → k < length r → (t : Row) → Derivation g r t → ⊥
early-underived {r = r} f l t d = omega (arith, f.greatest (length r) (omega arith) (derived-begins d))
