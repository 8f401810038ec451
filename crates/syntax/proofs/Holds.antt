-- A claim of what was read, if anything was, and how it passes through each combinator of the reader.
use mathlib.Core.Bool.{Bool, true, false}
use mathlib.Core.Path.{◌≡◌, refl}
use Prim.Native.Nat.{ℕ}
use Rattle.text.specs.Lists.{Text}
use Rattle.syntax.specs.Syntax.{Is}
use Rattle.syntax.specs.Result.{hd, tl, Result, ok, fail, when, then, map, guard, expect}
use Rattle.syntax.proofs.Classes.{is_at}

pub data Holds {A : Type 0} (P : A → Text → Type 0) : Result A → Type 0 where
  none : Holds P fail
  some : {v : A} {u : Text} → P v u → Holds P (ok v u)

pub holds-when : {A : Type 0} {P : A → Text → Type 0} (b : Bool) {f g : Unit {0} → Result A}
    → ((x : Unit {0}) → b ≡ true → Holds P (f x)) → ((x : Unit {0}) → b ≡ false → Holds P (g x)) → Holds P (when b f g)
unfolding when
holds-when true p q = p tt refl
holds-when false p q = q tt refl

pub holds-guard : {A : Type 0} {P : A → Text → Type 0} (b : Bool) {f : Unit {0} → Result A} → ((x : Unit {0}) → b ≡ true → Holds P (f x)) → Holds P (guard b f)
unfolding guard
holds-guard true p = p tt refl
holds-guard false p = none

pub holds-expect : {A : Type 0} {P : A → Text → Type 0} (f : ℕ → Bool) (t : Text) {k : Text → Result A}
    → f 0x110000 ≡ false → ((u : Text) → Is f t u → Holds P (k u)) → Holds P (expect f t k)
unfolding expect
holds-expect f t p q = holds-guard (f (hd t)) (λ _ e. q (tl t) (is_at f t p e))

pub holds_then : {A B : Type 0} {P : A → Text → Type 0} {Q : B → Text → Type 0} {x : Result A} {k : A → Text → Result B}
    → Holds P x → ((v : A) (u : Text) → P v u → Holds Q (k v u)) → Holds Q (then x k)
unfolding then
holds_then none f = none
holds_then (some {v = v} {u = u} p) f = f v u p

pub holds-map : {A B : Type 0} {P : A → Text → Type 0} {Q : B → Text → Type 0} (f : A → B) {x : Result A}
    → Holds P x → ((v : A) (u : Text) → P v u → Q (f v) u) → Holds Q (map f x)
unfolding map
holds-map f none k = none
holds-map f (some {v = v} {u = u} p) k = some (k v u p)

-- the same value, another claim
pub weaken : {A : Type 0} {P Q : A → Text → Type 0} {x : Result A} → Holds P x → ((v : A) (u : Text) → P v u → Q v u) → Holds Q x
weaken none k = none
weaken (some {v = v} {u = u} p) k = some (k v u p)

pub taken : {A : Type 0} {P : A → Text → Type 0} {v : A} {u : Text} → Holds P (ok v u) → P v u
taken (some p) = p
