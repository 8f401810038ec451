-- The three faults that forbid to write a tree, and how they add up.
use Rattle.std.specs.Prelude.{◌≡◌, Bool, false, not, ◌||◌, ℕ}
use Rattle.text.specs.Lists.{Text, chars, any, same}
use Rattle.xml.specs.Document.{Xml, misnamed, unwritable, namespaced}
use Rattle.xml.specs.Names.{xml_char, xml_name}
use Rattle.xml_names.specs.declared.Faults.{Faults}

-- the three, in the order of the table
abbrev pub flags : Bool → Bool → Bool → Faults
flags m u n = record { misnamed = m; unwritable = u; namespaced = n }

-- no fault
abbrev pub sound : Faults
sound = flags false false false

-- the faults of either
abbrev pub both : Faults → Faults → Faults
both a b = flags (a.misnamed || b.misnamed) (a.unwritable || b.unwritable) (a.namespaced || b.namespaced)

-- a number that is no XML character
abbrev pub bad : ℕ → Bool
bad c = not (xml_char c)

-- of text
abbrev pub of_text : Text → Faults
of_text t = flags false (any bad t) false

-- of an element's name
abbrev pub of_name : Text → Faults
of_name n = flags (not (xml_name n)) false false

-- of an attribute's name
abbrev pub of_attribute_name : Text → Faults
of_attribute_name n = flags (not (xml_name n)) false (same n (chars "xmlns"))

-- of a tree: lines 18, 19 and 22
abbrev pub of_xml : Xml → Faults
of_xml x = flags (misnamed x) (unwritable x) (namespaced x)

-- the faults are exactly those of a tree
pub record Finds (x : Xml) (q : Faults) : Type 0 where
  pub misnamed : q.misnamed ≡ misnamed x
  pub unwritable : q.unwritable ≡ unwritable x
  pub namespaced : q.namespaced ≡ namespaced x
