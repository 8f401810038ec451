-- The walk that looks for an attribute's name that comes twice.
use Rattle.std.specs.Prelude.{◌≡◌, Bool, false, ◌||◌, List, [], ◌∷◌, ℕ, length, get_or}
use Rattle.text.specs.Lists.{Text, any, same, repeats}
use Rattle.xml.specs.Document.{Xml, attribute_names}
use Rattle.left_parse.specs.Steps.{Named}

-- an attribute's name comes twice in a row
abbrev pub repeated : Xml → Bool
repeated x = repeats (attribute_names x)

-- a name is one of those before it, of which ns are known, the last first
abbrev pub clashes : List Text → List Text → Bool
clashes ns [] = false
clashes ns (m ∷ ms) = any (same m) ns || clashes (m ∷ ns) ms

-- the tokens of the names, the last first, stand in order from the list's beginning
abbrev pub Listed : List ℕ → List ℕ → List Text → Type 0
Listed T seen [] = Unit {0}
Listed T seen (n ∷ ns) = ((k : ℕ) × Named T (get_or seen (length ns) 0) k n) × Listed T seen ns

-- the first `count` tokens of a list are those of names, and whether that of the token is among them
pub record Seen (T seen : List ℕ) (count token : ℕ) (b : Bool) : Type 0 where
  pub is : (k : ℕ) (n : Text) (ns : List Text) → Named T token k n → Listed T seen ns → length ns ≡ count → b ≡ any (same n) ns

-- every name is different from those before it
abbrev pub Fresh : List Text → Type 0
Fresh [] = Unit {0}
Fresh (n ∷ ns) = (any (same n) ns ≡ false) × Fresh ns

-- tokens stand in the first cells of the grammar table
abbrev pub name_tokens : ℕ
name_tokens = 12288
