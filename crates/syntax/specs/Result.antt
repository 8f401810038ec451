-- What a function of the reader answers: a value and the text that follows it, or a failure.
use Rattle.std.specs.Prelude.{Bool, true, false, [], ◌∷◌, ℕ}
use Rattle.text.specs.Lists.{Text}

pub data Result (A : Type 0) : Type 0 where
  ok : A → Text → Result A
  fail : Result A

-- the first character of a text, past its end a number above every code point; what follows it
abbrev pub hd : Text → ℕ
hd [] = 0x110000
hd (c ∷ t) = c

abbrev pub tl : Text → Text
tl [] = []
tl (c ∷ t) = t

-- the branches wait: only the one chosen is computed
unfoldable pub when {ℓ} : {A : Type ℓ} → Bool → (Unit {0} → A) → (Unit {0} → A) → A
when true f g = f tt
when false f g = g tt

unfoldable pub then : {A B : Type 0} → Result A → (A → Text → Result B) → Result B
then (ok v u) k = k v u
then fail k = fail

unfoldable pub map : {A B : Type 0} → (A → B) → Result A → Result B
map f (ok v u) = ok (f v) u
map f fail = fail

-- where the test fails, failure
unfoldable pub guard : {A : Type 0} → Bool → (Unit {0} → Result A) → Result A
guard true f = f tt
guard false f = fail

-- a character that passes the test, and on from there
unfoldable pub expect : {A : Type 0} → (ℕ → Bool) → Text → (Text → Result A) → Result A
expect f t k = guard (f (hd t)) (λ _. k (tl t))
