-- Laws of tests over lists, and of texts compared.
use mathlib.Core.Path.{◌≡◌, refl, sym, ap, ap₂, ◌∙◌}
use mathlib.Core.Bool.{Bool, true, false, ◌||◌, and-false}
use mathlib.Core.List.{List, [], ◌∷◌, ◌++◌, append_assoc}
use mathlib.Core.Logic.{⊎_elim}
use Prim.Native.Nat.{ℕ, zero, suc, ◌<◌}
use native.Mathlib.Nat.{le_of_suc-le-suc, not-suc-le-zero}
use native.Mathlib.Omega.{arith}
use lib.Dec.{T, eqb}
use lib.ListN.{length, get_or}
use Rattle.text.proofs.Tests.{or_case, or_left, or_right}
use Rattle.text.specs.Lists.{Text, any, same, concat_map}

pub or-false : (a : Bool) → a || false ≡ a
or-false true = refl
or-false false = refl

pub or_assoc : (a b c : Bool) → (a || b) || c ≡ a || (b || c)
or_assoc true b c = refl
or_assoc false b c = refl

pub any_append : {A : Type 0} (f : A → Bool) (xs ys : List A) → any f (xs ++ ys) ≡ any f xs || any f ys
any_append f [] ys = refl
any_append f (x ∷ xs) ys = ap (◌||◌ (f x)) (any_append f xs ys) ∙ sym (or_assoc (f x) (any f xs) (any f ys))

pub any-concat : {A B : Type 0} (f : B → Bool) (p : A → List B) (xs : List A) → any f (concat_map p xs) ≡ any (λ x. any f (p x)) xs
any-concat f p [] = refl
any-concat f p (x ∷ xs) = any_append f (p x) (concat_map p xs) ∙ ap (◌||◌ (any f (p x))) (any-concat f p xs)

pub any-ext : {A : Type 0} (f g : A → Bool) → ((x : A) → f x ≡ g x) → (xs : List A) → any f xs ≡ any g xs
any-ext f g h [] = refl
any-ext f g h (x ∷ xs) = ap₂ ◌||◌ (h x) (any-ext f g h xs)

-- tests that agree wherever a third fails, agree over a list in which that fails
pub any-agree : {A : Type 0} (r f g : A → Bool) → ((x : A) → r x ≡ false → f x ≡ g x) → (xs : List A) → any r xs ≡ false → any f xs ≡ any g xs
any-agree r f g h [] e = refl
any-agree r f g h (x ∷ xs) e = go (λ t. any-agree r f g h xs t) (r x) refl
  where
    go : (any r xs ≡ false → any f xs ≡ any g xs) → (b : Bool) → r x ≡ b → any f (x ∷ xs) ≡ any g (x ∷ xs)
    go ih true p = let q : true ≡ false = rw p at e in let z : ◌≡◌ {A = ℕ} 0 1 = cc in absurd (omega arith)
    go ih false p = let q : any r xs ≡ false = rw p at e in rw (h x p) (ap (◌||◌ (g x)) (ih q))

pub concat-append : {A B : Type 0} (p : A → List B) (xs ys : List A) → concat_map p (xs ++ ys) ≡ concat_map p xs ++ concat_map p ys
concat-append p [] ys = refl
concat-append p (x ∷ xs) ys = ap (◌++◌ (p x)) (concat-append p xs ys) ∙ sym (append_assoc (p x) (concat_map p xs) (concat_map p ys))

pub concat-concat : {A B C : Type 0} (q : B → List C) (p : A → List B) (xs : List A) → concat_map q (concat_map p xs) ≡ concat_map (λ x. concat_map q (p x)) xs
concat-concat q p [] = refl
concat-concat q p (x ∷ xs) = concat-append q (p x) (concat_map p xs) ∙ ap (◌++◌ (concat_map q (p x))) (concat-concat q p xs)

-- texts of two lengths are not equal
pub same-lengths : (xs ys : Text) → (length xs ≡ length ys → ⊥) → same xs ys ≡ false
same-lengths [] [] h = absurd (h refl)
same-lengths [] (y ∷ ys) h = refl
same-lengths (x ∷ xs) [] h = refl
same-lengths (x ∷ xs) (y ∷ ys) h = rw (same-lengths xs ys (λ e. h (ap suc e))) (and-false (eqb x y))

-- some element of a list, by its place
pub any-index : (f : ℕ → Bool) (xs : List ℕ) → T (any f xs) → (k : ℕ) × ((k < length xs) × T (f (get_or xs k 0)))
any-index f [] t = absurd t
any-index f (x ∷ xs) t = ⊎_elim (λ u. (0, (omega arith, u))) (λ u. let r = any-index f xs u in (suc r.0, (omega arith, r.1.1))) (or_case (f x) (any f xs) t)

pub index-any : (f : ℕ → Bool) (xs : List ℕ) (k : ℕ) → k < length xs → T (f (get_or xs k 0)) → T (any f xs)
index-any f [] k h t = absurd (not-suc-le-zero h)
index-any f (x ∷ xs) zero h t = or_left (f x) (any f xs) t
index-any f (x ∷ xs) (suc k) h t = or_right (f x) (any f xs) (index-any f xs k (le_of_suc-le-suc h) t)
