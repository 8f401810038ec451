-- Whether a row comes to one element.
use Rattle.std.specs.Prelude.{Bool, true, false}
use Rattle.xml.specs.Document.{Xml, none, char, attr, elem}
use Rattle.xml_shape.specs.declared.Shape.{Shape}
use Rattle.xml_shape.specs.declared.Shape.TheVariants.{Nothing, OneElement, Other}

-- a row with one element more
abbrev pub more : Shape → Shape
more Nothing = OneElement
more OneElement = Other
more Other = Other

-- with a row after it
abbrev pub shape : Shape → Xml → Shape
shape s none = s
shape s (char c x) = shape Other x
shape s (attr m v x) = shape Other x
shape s (elem m i x) = shape (more s) x

abbrev pub is_one : Shape → Bool
is_one Nothing = false
is_one OneElement = true
is_one Other = false
