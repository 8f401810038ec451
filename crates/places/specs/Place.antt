-- The places that refusals 5 to 10 carry.
use Rattle.std.specs.Prelude.{Bool, true, false, not, ◌≡◌, List, [], ◌∷◌, ℕ, ◌+◌, ltb, eqb, length}
use Rattle.text.specs.Lists.{Text, any, same, pick, concat_map}
use Rattle.tree.specs.Tree.{Chars, Member, chars, range, class, Grammar}
use Rattle.syntax.specs.Syntax.{Ixml}
use Rattle.plain.specs.Written.{hex_in, heads}
use Rattle.plain.specs.Static.{unassignable, runs_back, no_class}
use Rattle.places.specs.Spots.{Part, used, headed, spelt, member, to, other, Spot, spots}

-- what is written at a spot, as the static rules ask for it
abbrev pub used_at : Part → List Text
used_at x = elim x [ used n ↦ n ∷ [] | headed n ↦ [] | spelt k ↦ [] | member m ↦ [] | to k ↦ [] | other ↦ [] ]

abbrev pub heads_at : Part → List Text
heads_at x = elim x [ used n ↦ [] | headed n ↦ n ∷ [] | spelt k ↦ [] | member m ↦ [] | to k ↦ [] | other ↦ [] ]

abbrev pub members_at : Part → List Member
members_at x = elim x [ used n ↦ [] | headed n ↦ [] | spelt k ↦ [] | member m ↦ m ∷ [] | to k ↦ [] | other ↦ [] ]

abbrev pub hexes_of : Member → List ℕ
hexes_of m = elim m [ chars k ↦ hex_in k | range a b ↦ hex_in a | class k ↦ [] ]

abbrev pub hexes_at : Part → List ℕ
hexes_at x = elim x [ used n ↦ [] | headed n ↦ [] | spelt k ↦ hex_in k | member m ↦ hexes_of m | to k ↦ hex_in k | other ↦ [] ]

-- the part is at fault for the refusal, where hs are all rules' names and before the parts before it: a name used that has no rule;
-- a rule's name that an earlier rule has; a hex number above 10FFFF; one that names no character; a range that runs backwards; no class
unfoldable pub at_fault : ℕ → List Text → List Part → Part → Bool
at_fault n hs before x =
    pick (eqb n 5) (any (λ k. not (any (same k) hs)) (used_at x))
    (pick (eqb n 6) (any (λ k. any (same k) (concat_map heads_at before)) (heads_at x))
    (pick (eqb n 7) (any (ltb 0x10ffff) (hexes_at x))
    (pick (eqb n 8) (any unassignable (hexes_at x))
    (pick (eqb n 9) (any runs_back (members_at x))
    (pick (eqb n 10) (any no_class (members_at x)) false)))))

-- k characters are left at the first of the spots at fault
pub data First (f : List Part → Part → Bool) : List Part → List Spot → ℕ → Type 0 where
  here : {before : List Part} {s : Spot} {ss : List Spot} → f before s.part ≡ true → First f before (s ∷ ss) s.left
  later : {before : List Part} {s : Spot} {ss : List Spot} {k : ℕ} → f before s.part ≡ false → First f (s.part ∷ before) ss k → First f before (s ∷ ss) k

-- "the place, in characters from the grammar's start after any byte order mark, of the first name, hex number (its `#`), range or
-- class at fault; for 6 it is the first rule's name in the text that an earlier rule already has"
pub record Place (n : ℕ) (t : Text) (p : ℕ) : Type 0 where
  pub grammar : Grammar
  pub derived : Ixml t grammar
  pub left : ℕ
  pub first : First (at_fault n (heads grammar)) [] (spots derived) left
  pub counted : p + left ≡ length t
