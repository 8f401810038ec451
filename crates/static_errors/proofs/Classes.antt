-- A class is not in the list of all.
use mathlib.Core.Path.{◌≡◌, refl, ◌∙◌}
use mathlib.Core.Bool.{Bool, true, false, not}
use mathlib.Core.List.{List, [], ◌∷◌}
use Prim.Native.Nat.{ℕ, suc, ◌+◌}
use native.Mathlib.Numerals.{add-one}
use lib.Dec.{leb, leb-suc-zero, leb-suc-suc}
use lib.ListN.{length}
use Rattle.text.specs.Lists.{Text, any, same}
use Rattle.category.specs.Category.{categories, classes, is_class, place, letters}

place-hit : (x : Text) (xs : List Text) (k : Text) → same k x ≡ true → place (x ∷ xs) k ≡ 0
unfolding place
place-hit x xs k e = rw (e, place)

place-miss : (x : Text) (xs : List Text) (k : Text) → same k x ≡ false → place (x ∷ xs) k ≡ place xs k + 1
unfolding place
place-miss x xs k e = rw (e, place)

-- no class: the place is past the list
past_all : (xs : List Text) (k : Text) → leb (length xs) (place xs k) ≡ not (any (same k) xs)
unfolding place
past_all [] k = refl
past_all (x ∷ xs) k = go (past_all xs k) (same k x) refl
  where
    go : leb (length xs) (place xs k) ≡ not (any (same k) xs) → (b : Bool) → same k x ≡ b → leb (suc (length xs)) (place (x ∷ xs) k) ≡ not (any (same k) (x ∷ xs))
    go ih true e = rw (place-hit x xs k e, e) (leb-suc-zero (length xs))
    go ih false e = rw (place-miss x xs k e, e, add-one (place xs k)) (leb-suc-suc (length xs) (place xs k) ∙ ih)

pub unlisted : (c d p : ℕ) → p ≡ place classes (letters c d) → leb 38 p ≡ not (is_class (letters c d))
unfolding is_class classes categories
unlisted c d p e = rw e (past_all classes (letters c d))
