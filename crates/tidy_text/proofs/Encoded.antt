-- The bytes that the scan puts are those of the tidy text.
use mathlib.Core.Path.{◌≡◌, refl, ap, ◌∙◌}
use mathlib.Core.Bool.{true}
use mathlib.Core.List.{[], ◌∷◌}
use native.Mathlib.Omega.{arith}
use lib.Dec.{T}
use Rattle.text.specs.Lists.{Text, all}
use Rattle.text.specs.Utf8.{utf8s, known, Scalar, All, none, more}
use Rattle.tree.specs.Tree.{Grammar}
use Rattle.tree.specs.Tokens.{grammar_tokens, capped}
use Rattle.syntax.specs.Syntax.{Ixml}
use Rattle.encode.specs.Out.{enc}
use Rattle.tidy.specs.Tidy.{tidy_text}
use Rattle.tidy.specs.Scan.{scan}
use Rattle.tidy.specs.Call.{tidy_bytes}
use Rattle.tidy.proofs.Known.{tidy-known}
use Rattle.tidy.proofs.Same.{known-scalars}
use Rattle.tidy.proofs.Written.{tidy-scan}

-- no number of scalar values is above all characters
enc-scalars : (t : Text) → All Scalar t → enc t ≡ utf8s t
unfolding enc utf8s
enc-scalars [] none = refl
enc-scalars (c ∷ t) (more s h) = let e : capped c ≡ c = omega (arith, s.below) in rw (e, enc-scalars t h)

pub tidy-encoded : (t : Text) (g : Grammar) → Ixml t g → T (all known t) → enc (scan true (grammar_tokens g)) ≡ tidy_bytes g
tidy-encoded t g w k = ap enc (tidy-scan t g w) ∙ enc-scalars (tidy_text g) (known-scalars (tidy_text g) (tidy-known t g w k))
