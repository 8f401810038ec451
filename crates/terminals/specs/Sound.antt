-- Terminals whose tokens tell what they match: no hex number above 10FFFF, ends of ranges of one character, known classes.
use Rattle.std.specs.Prelude.{true, List, [], ◌∷◌, ◌≡◌, ◌<◌}
use Rattle.category.specs.Category.{is_class}
use Rattle.tree.specs.Tree.{Chars, string, hex, Member, chars, range, class, Terminal, literal, inclusion, exclusion, insertion}
use Rattle.tokens.specs.Proper.{ProperEnd}

abbrev pub SoundChars : Chars → Type 0
SoundChars (string cs) = Unit {0}
SoundChars (hex n) = n < 0x110000

abbrev pub SoundMember : Member → Type 0
SoundMember (chars k) = SoundChars k
SoundMember (range a b) = (SoundChars a × ProperEnd a) × (SoundChars b × ProperEnd b)
SoundMember (class k) = is_class k ≡ true

abbrev pub SoundMembers : List Member → Type 0
SoundMembers [] = Unit {0}
SoundMembers (m ∷ ms) = SoundMember m × SoundMembers ms

abbrev pub SoundTerminal : Terminal → Type 0
SoundTerminal (literal m k) = SoundChars k
SoundTerminal (inclusion m ms) = SoundMembers ms
SoundTerminal (exclusion m ms) = SoundMembers ms
SoundTerminal (insertion k) = Unit {0}
