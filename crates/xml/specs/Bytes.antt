-- The bytes of a document: "no added spacing, no declaration, single quotes, UTF-8, `<a/>` when nothing lies inside".
use Rattle.std.specs.Prelude.{Bool, true, false, ◌&&◌, ◌||◌, List, [], ◌∷◌, ◌++◌, ℕ, eqb}
use Rattle.text.specs.Lists.{Text, chars, pick, concat_map}
use Rattle.text.specs.Utf8.{utf8s}
use Rattle.xml.specs.Document.{Xml, none, char, attr, elem}

-- "In text and values `&` `<` `>` become … and CR becomes `&#xD;`. In values also `'` becomes `&apos;` and LF becomes `&#xA;`"; and, of tabs,
-- "a tab in a value is written `&#x9;`; in text it still stands"
unfoldable pub escape : Bool → ℕ → Text
escape in_value c =
    pick (eqb c 0x26) (chars "&amp;")
    (pick (eqb c 0x3c) (chars "&lt;")
    (pick (eqb c 0x3e) (chars "&gt;")
    (pick (eqb c 0xd) (chars "&#xD;")
    (pick (in_value && eqb c 0x27) (chars "&apos;")
    (pick (in_value && eqb c 0xa) (chars "&#xA;")
    (pick (in_value && eqb c 0x9) (chars "&#x9;")
    (c ∷ [])))))))

-- "An element writes its name, exposed attributes in tree order, then its other children."
abbrev pub attributes : Xml → Text
attributes none = []
attributes (char c x) = attributes x
attributes (attr n v x) = chars " " ++ n ++ chars "='" ++ concat_map (escape true) v ++ chars "'" ++ attributes x
attributes (elem n i x) = attributes x

abbrev pub closed : Text → Text → Text
closed n [] = chars "/>"
closed n (c ∷ cs) = chars ">" ++ (c ∷ cs) ++ chars "</" ++ n ++ chars ">"

abbrev pub content : Xml → Text
content none = []
content (char c x) = escape false c ++ content x
content (attr n v x) = content x
content (elem n i x) = chars "<" ++ n ++ attributes i ++ closed n (content i) ++ content x

-- "If a state is due, … follows the document element's name, before other attributes; the words are `ambiguous`, then
-- `version-mismatch`, one space between"
abbrev pub state_with : Text → Text
state_with words = chars " xmlns:ixml='http://invisiblexml.org/NS' ixml:state='" ++ words ++ chars "'"

abbrev pub state : Bool → Bool → Text
state false false = []
state true false = state_with (chars "ambiguous")
state false true = state_with (chars "version-mismatch")
state true true = state_with (chars "ambiguous version-mismatch")

-- the document element with its state
unfoldable pub bytes : Bool → Bool → Xml → List ℕ
bytes ambiguous mismatch none = []
bytes ambiguous mismatch (char c x) = []
bytes ambiguous mismatch (attr n v x) = []
bytes ambiguous mismatch (elem n i x) = utf8s (chars "<" ++ n ++ state ambiguous mismatch ++ attributes i ++ closed n (content i))
