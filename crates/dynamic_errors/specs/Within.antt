-- An element's own attributes, and what is found in a row.
use Rattle.std.specs.Prelude.{◌≡◌, Bool, false, List, ℕ}
use Rattle.text.specs.Lists.{Text}
use Rattle.xml.specs.Document.{Xml}
use Rattle.cursor.specs.Rest.{Rest}
use Rattle.cursor.specs.Ahead.{AtNode, AtRow}
use Rattle.cursor.specs.declared.Cursor.{Cursor}
use Rattle.xml_shape.specs.Names.{repeated}
use Rattle.extent.specs.Extent.{attributes_of, Covers}
use Rattle.xml_names.specs.Told.{Told}
use Rattle.dynamic_errors.specs.declared.Findings.{Findings}

-- whether the element at c has one twice
pub record Repeats (T P S S' : List ℕ) (c : Cursor) (b : Bool) : Type 0 where
  pub kept : S' ≡ S
  pub is : (r : Text) (S₀ : List ℕ) (n : Text) (x : Xml) (k : Rest) → AtNode T P r S₀ S c n x k → b ≡ repeated x

-- what is found in the row at c are the faults, and what its XML takes; and nothing is noted otherwise than before
pub record RowFound (T P : List ℕ) (r : Text) (S S' : List ℕ) (c : Cursor) (f : Findings) : Type 0 where
  pub told : Told T P r S S' c f.faults
  pub covers : (r : Text) (x : Xml) → AtRow T P r S c x → Covers f.extent x

-- the row at c has attributes only if a says so
pub record Attributed (T P S : List ℕ) (c : Cursor) (a : Bool) : Type 0 where
  pub bare : a ≡ false → (r : Text) (x : Xml) → AtRow T P r S c x → attributes_of x ≡ 0
