-- What is written of rows.
use Rattle.std.specs.Prelude.{◌≡◌, true, false, List, ◌++◌, ℕ}
use Rattle.text.specs.Lists.{Text}
use Rattle.xml.specs.Document.{Xml}
use Rattle.xml.specs.Bytes.{attributes}
use Rattle.encode.specs.Out.{state, puts, enc, Wrote}
use Rattle.markup.specs.Tags.{lead_of, end_of, state_of, no_words}
use Rattle.cursor.specs.Rest.{Rest}
use Rattle.cursor.specs.Ahead.{AtNode, AtRow}
use Rattle.cursor.specs.declared.Cursor.{Cursor}
use Rattle.extent.specs.Extent.{attributes_of}
use Rattle.tags.specs.declared.Output.{Output}
use Rattle.tags.specs.Stated.{late, start_of, stated, turned}
use Rattle.writer.specs.declared.Plan.{Plan}

-- at the beginning, with room up to a place
abbrev pub fresh_at : ℕ → Plan → Output
fresh_at limit plan = record { limit = record { 0 = limit }; pos = record { 0 = 0 }; unclosed = false; attributed = plan.extent.attributed; due = plan.due }

-- a row has attributes only where start tags may have some
pub record May (o : Output) (x : Xml) : Type 0 where
  pub bare : o.attributed ≡ false → attributes_of x ≡ 0

pub record Attributed (T P : List ℕ) (r : Text) (S S' out out' : List ℕ) (o : Output) (c : Cursor) (q : Output) : Type 0 where
  pub kept : S' ≡ S
  pub is : q ≡ turned o q.pos o.unclosed o.due
  pub wrote : (x : Xml) → AtRow T P r S c x → Wrote o.limit.0 o.pos.0 out q.pos.0 out' (attributes x)

pub record Opened (T P : List ℕ) (r : Text) (S S' out out' : List ℕ) (o : Output) (c : Cursor) (q : Output) : Type 0 where
  pub kept : S' ≡ S
  pub is : q ≡ turned o q.pos true no_words
  pub wrote : (S₀ : List ℕ) (n : Text) (x : Xml) (k : Rest) → AtNode T P r S₀ S c n x k → May o x
      → Wrote o.limit.0 o.pos.0 out q.pos.0 out' (lead_of o.unclosed ++ start_of n (state_of o.due) x)

-- the row was written, but for the end that the place of the walk asks for
pub record Came (T P : List ℕ) (r : Text) (S S' out out' : List ℕ) (o : Output) (c : Cursor) (q : Output) : Type 0 where
  pub kept : S' ≡ S
  pub limit : q.limit ≡ o.limit
  pub wrote : (x : Xml) → AtRow T P r S c x → May o x → (e f : Text)
      → puts o.limit.0 (state q.pos.0 out') (enc (end_of q.unclosed e f)) ≡ puts o.limit.0 (state o.pos.0 out)
      (enc (late o.unclosed (stated (state_of o.due) x) e f))
