-- Laws of tests over stretches of the table and the record.
use mathlib.Core.Bool.{Bool, true, false, not}
use mathlib.Core.List.{List, [], ◌∷◌}
use mathlib.Core.Path.{◌≡◌, refl}
use Prim.Native.Nat.{ℕ, ◌+◌, ◌-◌}
use native.Mathlib.Nat.{add-sub_cancel_left}
use Rattle.std.specs.List.{list_any, list_all, starts_with}
use native.Mathlib.Omega.{arith}
use lib.Dec.{eqb}
use lib.ListN.{length, take, drop, length-drop}
use lib.Seq.{take_all}
use Rattle.text.specs.Lists.{Text, begins, any, all}

-- the library's tests over a list, in the words of the definitions
pub any_list : (f : ℕ → Bool) (xs : Text) → list_any f xs ≡ any f xs
any_list f [] = refl
any_list f (x ∷ xs) = rw (any_list f xs)

pub all_list : (f : ℕ → Bool) (xs : Text) → list_all f xs ≡ all f xs
all_list f [] = refl
all_list f (x ∷ xs) = rw (all_list f xs)

begins_list : (xs t : Text) → starts_with eqb t xs ≡ begins xs t
begins_list [] t = refl
begins_list (x ∷ xs) [] = refl
begins_list (x ∷ xs) (y ∷ t) = rw (begins_list xs t)

-- a slice of n from a place on, and one up to the end
pub part_slice : (T : List ℕ) (at n : ℕ) → take (at + n - at) (drop at T) ≡ take n (drop at T)
part_slice T at n = rw (add-sub_cancel_left at n)

pub begins_slices : (T : List ℕ) (at n : ℕ) (R : Text) (i : ℕ)
    → starts_with eqb (take (length R - i) (drop i R)) (take (at + n - at) (drop at T)) ≡ begins (take n (drop at T)) (drop i R)
begins_slices T at n R i = rw (part_slice T at n, take_all (length R - i) (drop i R) (omega (arith, length-drop i R))) (begins_list (take n (drop at T)) (drop i R))

-- all pass a test exactly when none fails it
pub all_none : (f : ℕ → Bool) (xs : Text) → not (any (λ c. not (f c)) xs) ≡ all f xs
all_none f [] = refl
all_none f (x ∷ xs) = go (all_none f xs) (f x) refl
  where
    go : not (any (λ c. not (f c)) xs) ≡ all f xs → (b : Bool) → f x ≡ b → not (any (λ c. not (f c)) (x ∷ xs)) ≡ all f (x ∷ xs)
    go ih true e = rw e ih
    go ih false e = rw e
