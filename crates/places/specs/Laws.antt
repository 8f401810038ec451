-- The laws of places.
use Rattle.std.specs.Prelude.{◌≡◌, List, [], ◌∷◌, ℕ, ◌+◌, ◌<◌, T, length, get_or}
use Rattle.text.specs.Lists.{Text, concat_map}
use Rattle.tree.specs.Tree.{Grammar}
use Rattle.syntax.specs.Syntax.{S, Ixml}
use Rattle.plain.specs.Static.{undefined, duplicate, beyond, banned, backwards, unclassed}
use Rattle.places.specs.Spots.{Spot, spots}
use Rattle.places.specs.Place.{Place}

-- how many characters are left at each spot
abbrev pub left : List Spot → List ℕ
left ss = concat_map (λ s. s.left ∷ []) ss

-- two texts that differ only in spacing and comments in front
pub record Fronted (t t' : Text) : Type 0 where
  pub grammar : Text
  pub first : S t grammar
  pub second : S t' grammar

pub record Laws : Type 0 where
  -- a text has one place for a refusal, inside the text
  pub one : (n : ℕ) (t : Text) (p q : ℕ) → Place n t p → Place n t q → p ≡ q
  pub inside : (n : ℕ) (t : Text) (p : ℕ) → Place n t p → p < length t
  -- spots are listed in the order of the text
  pub order : (t : Text) (g : Grammar) (d : Ixml t g) (i j : ℕ) → i < j → j < length (left (spots d)) → get_or (left (spots d)) j 0 < get_or (left (spots d)) i 0
  -- it is there where the refusal applies
  pub five : (t : Text) (g : Grammar) → Ixml t g → T (undefined g) → (p : ℕ) × Place 5 t p
  pub six : (t : Text) (g : Grammar) → Ixml t g → T (duplicate g) → (p : ℕ) × Place 6 t p
  pub seven : (t : Text) (g : Grammar) → Ixml t g → T (beyond g) → (p : ℕ) × Place 7 t p
  pub eight : (t : Text) (g : Grammar) → Ixml t g → T (banned g) → (p : ℕ) × Place 8 t p
  pub nine : (t : Text) (g : Grammar) → Ixml t g → T (backwards g) → (p : ℕ) × Place 9 t p
  pub ten : (t : Text) (g : Grammar) → Ixml t g → T (unclassed g) → (p : ℕ) × Place 10 t p
  -- comments and spacing in front leave the tree, and places count from the same end
  pub trees : (t t' : Text) (g : Grammar) → Fronted t t' → Ixml t g → Ixml t' g
  pub places : (n : ℕ) (t t' : Text) (p q : ℕ) → Fronted t t' → Place n t p → Place n t' q → p + length t' ≡ q + length t
