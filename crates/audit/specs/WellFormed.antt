-- Tags that nest and match: the productions of XML 1.0 for elements (39 to 44), as far as they are used here, over bytes.
use Rattle.std.specs.Prelude.{Bool, false, not, ◌≡◌, List, [], ◌∷◌, ◌++◌, ℕ, T}
use Rattle.text.specs.Lists.{Text, chars, all, among}
use Rattle.xml.specs.Document.{Xml, misnamed, not_one}
use Rattle.xml.specs.Bytes.{bytes}
use Rattle.xml.specs.References.{Reference}

-- no byte of a name ends it
abbrev pub name_byte : ℕ → Bool
name_byte b = not (among b (chars " =/><&'"))

-- what stands between the quotes of a value
pub data Value : List ℕ → Type 0 where
  v-end : Value []
  v-byte : {b : ℕ} {t : List ℕ} → T (not (among b (chars "<&'"))) → Value t → Value (b ∷ t)
  v-reference : {n t : List ℕ} {c : ℕ} → Reference n c → Value t → Value (0x26 ∷ (n ++ 0x3b ∷ t))

-- each a space, a name, `='`, a value and `'`
pub data Attributes : List ℕ → Type 0 where
  a-end : Attributes []
  a-more : (n : List ℕ) {v t : List ℕ} → T (all name_byte n) → Value v → Attributes t → Attributes (0x20 ∷ (n ++ 0x3d ∷ 0x27 ∷ (v ++ 0x27 ∷ t)))

mutual
  -- an empty-element tag; or a start tag, content and an end tag of the same name
  pub data Element : List ℕ → Type 0 where
    e-empty : (n : List ℕ) {a : List ℕ} → T (all name_byte n) → Attributes a → Element (0x3c ∷ (n ++ (a ++ 0x2f ∷ 0x3e ∷ [])))
    e-full : (n : List ℕ) {a t : List ℕ} → T (all name_byte n) → Attributes a → Content t → Element (0x3c ∷ (n ++ (a ++ 0x3e ∷ (t ++ 0x3c ∷ 0x2f ∷ (n ++ 0x3e ∷ [])))))

  -- characters, references and elements
  pub data Content : List ℕ → Type 0 where
    c-end : Content []
    c-byte : {b : ℕ} {t : List ℕ} → T (not (among b (chars "<&"))) → Content t → Content (b ∷ t)
    c-reference : {n t : List ℕ} {c : ℕ} → Reference n c → Content t → Content (0x26 ∷ (n ++ 0x3b ∷ t))
    c-element : {t u : List ℕ} → Element t → Content u → Content (t ++ u)

-- what may be written is one element
abbrev pub WellFormed : Type 0
WellFormed = (ambiguous mismatch : Bool) (x : Xml) → misnamed x ≡ false → not_one x ≡ false → Element (bytes ambiguous mismatch x)
