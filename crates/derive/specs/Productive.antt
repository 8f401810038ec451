-- Rules that derive some text, and grammars with a rule that derives none.
use mathlib.Core.List.{[], ◌∷◌, Memᴰ as In}
use Rattle.std.specs.Prelude.{ℕ, T, length}
use Rattle.text.specs.Lists.{Text, all}
use Rattle.text.specs.Utf8.{known}
use Rattle.tree.specs.Tree.{Symbol, Grammar}
use Rattle.plain.specs.Plain.{ruled}
use Rattle.derive.specs.Derive.{Row, Derives}

-- the symbol derives a text; "Text here … means characters that a record may hold"
pub record Produces (g : Grammar) (s : Symbol) : Type 0 where
  pub text : Text
  pub held : T (all known text)
  pub tree : Row
  pub derives : Derives g text tree (s ∷ []) 0 (length text)

-- "some rule, written or made from a repetition or bracket, derives no finite text whatever"
pub record Unproductive (g : Grammar) : Type 0 where
  pub rule : Symbol
  pub is : In rule (ruled g)
  pub none : Produces g rule → ⊥
