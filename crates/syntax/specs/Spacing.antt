-- The reader's spacing: what it skips, from outside or from inside open comments.
use Rattle.std.specs.Prelude.{Bool, ◌||◌, [], ◌∷◌, ℕ, zero, suc, eqb}
use Rattle.text.specs.Limits.{levels}
use Rattle.text.specs.Lists.{Text, pick}
use Rattle.syntax.specs.Syntax.{whitespace}
use Rattle.syntax.specs.Result.{Result, ok, fail, hd, map, guard}

-- what a character is to the skipper
pub data Kind : Type 0 where
  white opening closing other : Kind

unfoldable pub kind : ℕ → Kind
kind c = pick (eqb c 0x7b) opening (pick (eqb c 0x7d) closing (pick (whitespace c) white other))

-- one character inside k comments, where d more may open; t begins with it, and r goes on after it
unfoldable pub step : Kind → ℕ → ℕ → Text → (ℕ → ℕ → Result (Unit {0})) → Result (Unit {0})
step white k d t r = r k d
step opening k zero t r = fail
step opening k (suc d) t r = r (suc k) d
step closing zero d t r = ok tt t
step closing (suc k) d t r = r k (suc d)
step other zero d t r = ok tt t
step other (suc k) d t r = r (suc k) d

unfoldable pub scan : Text → ℕ → ℕ → Result (Unit {0})
scan [] zero d = ok tt []
scan [] (suc k) d = fail
scan (c ∷ t) k d = step (kind c) k d (c ∷ t) (λ j e. scan t j e)

-- s
abbrev pub skip : Text → Result (Unit {0})
skip t = scan t 0 levels

-- the first character of a spacing
unfoldable pub spacing : ℕ → Bool
spacing c = eqb c 0x7b || whitespace c

-- RS
unfoldable pub required : Text → Result (Unit {0})
required t = guard (spacing (hd t)) (λ _. skip t)

-- s after a value
unfoldable pub spaced : {A : Type 0} → A → Text → Result A
spaced v t = map (λ _. v) (skip t)
