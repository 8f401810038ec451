-- The worked cases hold: one test, computed over the whole table.
use mathlib.Core.Bool.{Bool, false}
use mathlib.Core.Path.{◌≡◌, refl}
use mathlib.Core.List.{List, [], ◌∷◌}
use lib.Dec.{T}
use Rattle.text.specs.Lists.{Text, chars, all, same}
use Rattle.text.specs.Utf8 as utf8
use Rattle.text.proofs.Tests.{and_left, and_right, same-is}
use Rattle.category.specs.Category as category
use Rattle.syntax.specs.Parser.{Parsed, parsed, no-parse, parse}
use Rattle.syntax.proofs.Sound.{sound}
use Rattle.syntax.proofs.Samples.{computing}
use Rattle.tidy.specs.Tidy.{tidy_text}
use Rattle.tidy.specs.Cases.{Case, table, Holds, Every, every-none, every_more}

tidies : Parsed → Text → Bool
tidies (parsed g) t = same (tidy_text g) t
tidies no-parse t = false

passes : Case → Bool
passes c = tidies (parse (chars c.written)) (chars c.tidied)

holds : (c : Case) → T (passes c) → Holds c
unfolding passes tidies
holds c h = go (parse (chars c.written)) refl h
  where
    go : (p : Parsed) → parse (chars c.written) ≡ p → T (tidies p (chars c.tidied)) → Holds c
    go (parsed g) e t = (g, sound (chars c.written) g e, same-is (tidy_text g) (chars c.tidied) t)
    go no-parse e t = absurd t

every : (cs : List Case) → T (all passes cs) → Every Holds cs
every [] h = every-none
every (c ∷ cs) h = every_more (holds c (and_left (passes c) (all passes cs) h)) (every cs (and_right (passes c) (all passes cs) h))

pub cases-hold : Every Holds table
unfolding table passes tidies tidy_text computing utf8.alphabet utf8.known category.categories category.classes category.is_class
cases-hold = every table tt
