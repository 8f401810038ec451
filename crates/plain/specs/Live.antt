-- Terminals that derive some text of known characters, computed.
use Rattle.std.specs.Prelude.{Bool, true, not, List, ℕ, ◌+◌, ltb}
use Rattle.text.specs.Lists.{any, all}
use Rattle.text.specs.Utf8.{alphabet, known}
use Rattle.text.specs.Ranks.{rank_in, some_known}
use Rattle.category.specs.Category.{in_class}
use Rattle.tree.specs.Tree.{Member, chars, range, class, Terminal, literal, inclusion, exclusion, insertion, codes}
use Rattle.plain.specs.Static.{code_of}
use Rattle.plain.specs.Plain.{is_member}

-- a set's member matches some known character
abbrev pub live_member : Member → Bool
live_member m = elim m [ chars k ↦ any known (codes k) | range a b ↦ ltb (rank_in alphabet (code_of a)) (rank_in alphabet (code_of b + 1)) | class k ↦ some_known (in_class k) ]

abbrev pub live : Terminal → Bool
live (literal m k) = all known (codes k)
live (inclusion m ms) = any live_member ms
live (exclusion m ms) = some_known (λ c. not (any (is_member c) ms))
live (insertion k) = true
