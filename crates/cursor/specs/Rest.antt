-- All that is still ahead of a cursor: what is left of the row at hand, and of each row around it.
use Rattle.text.specs.Lists.{Text}
use Rattle.xml.specs.Document.{Xml, join}

-- the last row; or a row that stands in an element or an attribute of the name, and what follows that
pub data Rest : Type 0 where
  row : Xml → Rest
  within : Text → Xml → Rest → Rest

-- nodes before all that
abbrev pub before : Xml → Rest → Rest
before x (row y) = row (join x y)
before x (within n y k) = within n (join x y) k
