-- The answer of the walk that gathers faults.
use Rattle.std.specs.Prelude.{◌≡◌, List, ℕ}
use Rattle.text.specs.Lists.{Text}
use Rattle.xml.specs.Document.{Xml}
use Rattle.cursor.specs.Ahead.{AtRow}
use Rattle.cursor.specs.declared.Cursor.{Cursor}
use Rattle.xml_names.specs.Flags.{Finds}
use Rattle.xml_names.specs.declared.Faults.{Faults}

-- what the row at c writes was judged, and nothing is noted otherwise than before
pub record Told (T P : List ℕ) (r : Text) (S S' : List ℕ) (c : Cursor) (q : Faults) : Type 0 where
  pub kept : S' ≡ S
  pub finds : (x : Xml) → AtRow T P r S c x → Finds x q
