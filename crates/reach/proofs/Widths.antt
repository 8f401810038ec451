-- A terminal that takes no character fits everywhere.
use mathlib.Core.List.{[], ◌∷◌}
use mathlib.Core.Path.{◌≡◌}
use native.Mathlib.Omega.{arith}
use lib.Dec.{T}
use lib.ListN.{length}
use Rattle.text.specs.Lists.{Text, begins}
use Rattle.tree.specs.Tree.{Terminal, literal, inclusion, exclusion, insertion, codes}
use Rattle.plain.specs.Plain.{fits, width}

begins-none : (cs t : Text) → length cs ≡ 0 → T (begins cs t)
begins-none [] t e = tt
begins-none (x ∷ cs) t e = absurd (omega arith)

pub empty-fits : (x : Terminal) (t : Text) → width x ≡ 0 → T (fits x t)
empty-fits (literal m k) t e = begins-none (codes k) t e
empty-fits (inclusion m ms) t e = absurd (omega arith)
empty-fits (exclusion m ms) t e = absurd (omega arith)
empty-fits (insertion k) t e = tt
