-- Small facts that other proofs share.
use mathlib.Core.Bool.{Bool, true, false, ◌&&◌, ◌||◌}
use mathlib.Core.Logic.{◌⊎◌, inl, inr, ⊎_elim}
use mathlib.Core.Path.{◌≡◌, refl, sym, subst}
use Prim.Native.Nat.{ℕ, zero, suc, ◌<◌, ◌≤◌}
use native.Mathlib.Omega.{arith}
use mathlib.Core.List.{[], ◌∷◌}
use lib.Dec.{T, eqb, eqb→eq}
use Rattle.text.specs.Lists.{Text, same}

pub split : (a b : ℕ) → (a < b) ⊎ (b ≤ a)
split a zero = inr (omega arith)
split zero (suc b) = inl (omega arith)
split (suc a) (suc b) = ⊎_elim (λ p. inl (omega arith)) (λ p. inr (omega arith)) (split a b)

-- a test's two answers
pub look : (b : Bool) → (b ≡ true) ⊎ (b ≡ false)
look true = inl refl
look false = inr refl

pub is_t : {b : Bool} → b ≡ true → T b
is_t e = subst T (sym e) tt

pub T_true : (b : Bool) → T b → b ≡ true
T_true true h = refl
T_true false h = absurd h

pub not_t : {b : Bool} → b ≡ false → T b → ⊥
not_t e h = subst T e h

pub T_false : (b : Bool) → (T b → ⊥) → b ≡ false
T_false true h = absurd (h tt)
T_false false h = refl

pub clash : {b : Bool} → b ≡ false → b ≡ true → ⊥
clash p q = let z : ◌≡◌ {A = ℕ} 0 1 = cc in omega arith

-- tests joined
pub and_left : (a b : Bool) → T (a && b) → T a
and_left true b t = tt
and_left false b t = t

pub and_right : (a b : Bool) → T (a && b) → T b
and_right true b t = t
and_right false b t = absurd t

pub both-and : (a b : Bool) → T a → T b → T (a && b)
both-and true b h k = k
both-and false b h k = h

pub or_case : (a b : Bool) → T (a || b) → T a ⊎ T b
or_case true b h = inl tt
or_case false b h = inr h

pub or_left : (a b : Bool) → T a → T (a || b)
or_left true b h = tt
or_left false b h = absurd h

pub or_right : (a b : Bool) → T b → T (a || b)
or_right true b h = tt
or_right false b h = h

-- texts that the test takes for equal are
pub same-is : (xs ys : Text) → T (same xs ys) → xs ≡ ys
same-is [] [] h = refl
same-is [] (y ∷ ys) h = absurd h
same-is (x ∷ xs) [] h = absurd h
same-is (x ∷ xs) (y ∷ ys) h = λ ι. eqb→eq x y (and_left (eqb x y) (same xs ys) h) ι ∷ same-is xs ys (and_right (eqb x y) (same xs ys) h) ι

-- tests that pass together are equal
pub T-both : (a b : Bool) → (T a → T b) → (T b → T a) → a ≡ b
T-both true true f g = refl
T-both true false f g = absurd (f tt)
T-both false true f g = absurd (g tt)
T-both false false f g = refl
