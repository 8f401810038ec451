-- The document as a whole.
use Rattle.std.specs.Prelude.{◌≡◌, false, List, ◌++◌, ℕ, ◌<◌, ◌≤◌, length, drop, Option, Some, None}
use Rattle.text.specs.Lists.{Text}
use Rattle.tree.specs.Tree.{Grammar}
use Rattle.tree.specs.Tokens.{grammar_tokens}
use Rattle.derive.specs.Derive.{Row}
use Rattle.items.specs.Items.{Reads}
use Rattle.xml.specs.Document.{document, misnamed, unwritable, not_one}
use Rattle.xml.specs.Bytes.{bytes}
use Rattle.left_parse.specs.Noted.{Noted, Parsed}
use Rattle.encode.specs.Out.{Wrote}
use Rattle.markup.specs.Tags.{state_of}
use Rattle.extent.specs.Extent.{Covers}
use Rattle.tags.specs.Stated.{stated}
use Rattle.writer.specs.Markup.{May}
use Rattle.tags.specs.declared.Output.{Output}
use Rattle.writer.specs.declared.Plan.{Plan}

-- a derivation that the list names, with its notes and the grammar's tokens
pub record Job (T : List ℕ) (root : ℕ) (P : List ℕ) (r : Text) (S : List ℕ) (g : Grammar) (t : Row) : Type 0 where
  pub parsed : Parsed T root P g r t
  pub noted : Noted S 0 t
  pub tokens : Reads T 0 (grammar_tokens g)

pub record SomeJob (T : List ℕ) (root : ℕ) (P : List ℕ) (r : Text) (S : List ℕ) : Type 0 where
  pub g : Grammar
  pub t : Row
  pub job : Job T root P r S g t

-- 18, 19 and 21 forbid nothing of it
pub record Writable (g : Grammar) (r : Text) (t : Row) : Type 0 where
  pub names : misnamed (document g r t) ≡ false
  pub chars : unwritable (document g r t) ≡ false
  pub one : not_one (document g r t) ≡ false

-- the bytes, if they fit; else nothing
pub record Answered (bs old new : List ℕ) (a : Option ℕ) : Type 0 where
  pub fits : length bs ≤ length old → (a ≡ Some (length bs)) × (new ≡ bs ++ drop (length bs) old)
  pub long : length old < length bs → (a ≡ None) × (new ≡ old)

pub record Documented (T : List ℕ) (root : ℕ) (P : List ℕ) (r : Text) (S S' out out' : List ℕ) (o : Output) (q : ℕ) : Type 0 where
  pub kept : S' ≡ S
  pub wrote : (g : Grammar) (t : Row) → Job T root P r S g t → May o (document g r t)
      → Wrote o.limit.0 o.pos.0 out q out' (stated (state_of o.due) (document g r t))

-- the answer to a document, if what was known of it is so
pub record Wrotes (T : List ℕ) (root : ℕ) (P : List ℕ) (r : Text) (S old new : List ℕ) (p : Plan) (a : Option ℕ) : Type 0 where
  pub answered : (g : Grammar) (t : Row) → Job T root P r S g t → Writable g r t → Covers p.extent (document g r t)
      → Answered (bytes p.due.ambiguous p.due.mismatch (document g r t)) old new a
