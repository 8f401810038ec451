-- The place of the fault in a record that has no derivation.
use Rattle.std.specs.Prelude.{◌++◌, ℕ, ◌≤◌, T, length, take}
use Rattle.text.specs.Lists.{Text, all}
use Rattle.text.specs.Utf8.{known}
use Rattle.tree.specs.Tree.{Grammar}
use Rattle.derive.specs.Derive.{Row, Derivation}

-- the characters "begin some text that the grammar accepts, however long that text is"; text "means characters that a record may hold"
pub record Begins (g : Grammar) (w : Text) : Type 0 where
  pub rest : Text
  pub held : T (all known rest)
  pub tree : Row
  pub derives : Derivation g (w ++ rest) tree

-- "the greatest number k for which the first k characters of the record begin some text that the grammar accepts"
pub record FaultAt (g : Grammar) (r : Text) (k : ℕ) : Type 0 where
  pub inside : k ≤ length r
  pub begins : Begins g (take k r)
  pub greatest : (m : ℕ) → m ≤ length r → Begins g (take m r) → m ≤ k
