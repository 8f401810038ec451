-- What a judge of a row promises.
use Rattle.std.specs.Prelude.{◌≡◌, Bool, List, ℕ}
use Rattle.text.specs.Lists.{Text}
use Rattle.xml.specs.Document.{Xml}
use Rattle.cursor.specs.Ahead.{AtRow}
use Rattle.cursor.specs.declared.Cursor.{Cursor}

-- b is the judgment of what the row at c comes to, and nothing is noted otherwise than before
pub record Judges (f : Xml → Bool) (T P S S' : List ℕ) (c : Cursor) (b : Bool) : Type 0 where
  pub kept : S' ≡ S
  pub is : (r : Text) (x : Xml) → AtRow T P r S c x → b ≡ f x
