-- How XML reads text and attribute values back.
use Rattle.std.specs.Prelude.{Bool, not, List, [], ◌∷◌, ◌++◌, ℕ, T, eqb}
use Rattle.text.specs.Lists.{Text, chars, pick, among}

-- What stands between `&` and `;`, and the character that it names: the five names that XML knows, and the numbers that are written here.
pub data Reference : Text → ℕ → Type 0 where
  amp : Reference (chars "amp") 0x26
  lt : Reference (chars "lt") 0x3c
  gt : Reference (chars "gt") 0x3e
  apos : Reference (chars "apos") 0x27
  quot : Reference (chars "quot") 0x22
  tab : Reference (chars "#x9") 0x9
  lf : Reference (chars "#xA") 0xa
  cr : Reference (chars "#xD") 0xd

-- A character that stands bare. XML 1.0, 3.3.3: in a value a tab, line feed or carriage return is read as a space; 2.11: in text a carriage
-- return is read as a line feed.
abbrev pub bare : Bool → ℕ → ℕ
bare in_value c = pick in_value (pick (among c (chars "\t\n\r")) 0x20 c) (pick (eqb c 0xd) 0xa c)

-- what may not stand bare: markup, and in a value its quote
abbrev pub delimiters : Bool → Text
delimiters in_value = pick in_value (chars "&<'") (chars "&<")

-- text (false) or a value (true) as it is written, and what a parser reads
pub data ReadsAs (in_value : Bool) : Text → Text → Type 0 where
  r-end : ReadsAs in_value [] []
  r-reference : {n t u : Text} {c : ℕ} → Reference n c → ReadsAs in_value t u → ReadsAs in_value (0x26 ∷ (n ++ 0x3b ∷ t)) (c ∷ u)
  r-bare : {t u : Text} {c : ℕ} → T (not (among c (delimiters in_value))) → ReadsAs in_value t u → ReadsAs in_value (c ∷ t) (bare in_value c ∷ u)
