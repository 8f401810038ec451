-- What is written of an element: its start tag, shut late, with a state; and where writing stands.
use Rattle.std.specs.Prelude.{Bool, true, false, [], ◌∷◌, ◌++◌}
use Rattle.text.specs.Lists.{Text, chars}
use Rattle.text.specs.declared.BytePlace.{BytePlace}
use Rattle.xml.specs.Document.{Xml, none, char, attr, elem}
use Rattle.xml.specs.Bytes.{escape, attributes, content}
use Rattle.markup.specs.Tags.{closing}
use Rattle.markup.specs.declared.StateWords.{StateWords}
use Rattle.tags.specs.declared.Output.{Output}

-- what shuts a start tag late: where nothing came, the one end; else `>`, what came, and the other end
abbrev pub late : Bool → Text → Text → Text → Text
late true [] e c = e
late true (x ∷ xs) e c = chars ">" ++ (x ∷ xs) ++ c
late false xs e c = xs ++ c

-- a start tag that is not shut yet
abbrev pub start_of : Text → Text → Xml → Text
start_of n st i = chars "<" ++ n ++ st ++ attributes i

-- what stands in a row, with a state in its first element
abbrev pub stated : Text → Xml → Text
stated st none = []
stated st (char c x) = escape false c ++ stated st x
stated st (attr n v x) = stated st x
stated st (elem n i x) = start_of n st i ++ (late true (content i) (chars "/>") (closing n) ++ content x)

-- the output at another place, with a start tag open or not, and another state due
abbrev pub turned : Output → BytePlace → Bool → StateWords → Output
turned o p unclosed due = record { limit = o.limit; pos = p; unclosed = unclosed; attributed = o.attributed; due = due }
