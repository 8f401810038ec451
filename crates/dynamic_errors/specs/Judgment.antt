-- The refusal of what a left parse writes: the topmost of lines 17 to 22 of the table that applies, or 0.
use Rattle.std.specs.Prelude.{◌≡◌, Bool, false, not, ◌||◌, List, ℕ, eqb, Result, Ok, Err, ⊤}
use Rattle.text.specs.Lists.{Text, pick}
use Rattle.tree.specs.Tree.{Grammar}
use Rattle.derive.specs.Derive.{Row, root}
use Rattle.xml.specs.Names.{xml_name}
use Rattle.xml.specs.Document.{Xml, none, elem, mark_of, document, twice, misnamed, unwritable, is_attribute, not_one, namespaced}
use Rattle.cursor.specs.Ahead.{AtRow}
use Rattle.cursor.specs.declared.Cursor.{Cursor}
use Rattle.left_parse.specs.Steps.{Named}
use Rattle.writer.specs.Whole.{Job}
use Rattle.xml_shape.specs.Names.{repeated}
use Rattle.extent.specs.Extent.{Covers}
use Rattle.dynamic_errors.specs.declared.Review.{Review}
use Rattle.dynamic_errors.specs.declared.DynamicError.{DynamicError}
use Rattle.dynamic_errors.specs.declared.DynamicError.TheVariants.{RepeatedAttribute, NotXmlName, NotXmlCharacter, AttributeRoot, DeletedRoot, AttributeXmlns}

-- the number of the first test that holds
abbrev pub topmost : Bool → Bool → Bool → Bool → Bool → Bool → ℕ
topmost t m u a b n = pick t 17 (pick m 18 (pick u 19 (pick a 20 (pick b 21 (pick n 22 0)))))

-- of a document, whose root is marked @ or not
abbrev pub judgment : Bool → Xml → ℕ
judgment a d = topmost (twice d) (misnamed d) (unwritable d) a (not_one d) (namespaced d)

-- of a derivation
abbrev pub judgment_of : Grammar → Text → Row → ℕ
judgment_of g r t = judgment (is_attribute (mark_of g (root g))) (document g r t)

abbrev pub error_number : DynamicError → ℕ
error_number RepeatedAttribute = 17
error_number NotXmlName = 18
error_number NotXmlCharacter = 19
error_number AttributeRoot = 20
error_number DeletedRoot = 21
error_number AttributeXmlns = 22

-- the number of a verdict: 0 forbids nothing
abbrev pub verdict_number : Result ⊤ DynamicError → ℕ
verdict_number (Ok u) = 0
verdict_number (Err e) = error_number e

-- the document of what stands in the root: just that, if the root is deleted; else an element
abbrev pub around : Bool → Text → Xml → Xml
around deleted n x = pick deleted x (elem n x none)

-- 17 of it, by what stands in the root
abbrev pub twice_in : Bool → Xml → Bool
twice_in deleted x = pick deleted (twice x) (repeated x || twice x)

-- 18 of it, from whether what stands in the root is misnamed
abbrev pub misnamed_in : Bool → Text → Bool → Bool
misnamed_in deleted n found = pick deleted found (not (xml_name n) || found)

-- 21 of it, by what stands in the root
abbrev pub not_one_in : Bool → Xml → Bool
not_one_in deleted x = pick deleted (not_one x) false

-- w is the review of the row at c, in a root whose token stands at `head` and has the number k (22: @, 23: deleted)
pub record RowJudged (T P : List ℕ) (r : Text) (S S' : List ℕ) (head : ℕ) (c : Cursor) (w : Review) : Type 0 where
  pub kept : S' ≡ S
  pub is : (k : ℕ) (n : Text) → Named T head k n → (x : Xml) → AtRow T P r S c x → verdict_number w.verdict ≡ judgment (eqb k 22) (around (eqb k 23) n x)
  pub covers : (k : ℕ) (n : Text) → Named T head k n → (x : Xml) → AtRow T P r S c x → Covers w.extent (around (eqb k 23) n x)

-- w is the review of the derivation that the list names, and nothing is noted otherwise than before
pub record Judged (T : List ℕ) (root : ℕ) (P : List ℕ) (r : Text) (S S' : List ℕ) (w : Review) : Type 0 where
  pub kept : S' ≡ S
  pub is : (g : Grammar) (t : Row) → Job T root P r S g t → verdict_number w.verdict ≡ judgment_of g r t
  pub covers : (g : Grammar) (t : Row) → Job T root P r S g t → Covers w.extent (document g r t)
