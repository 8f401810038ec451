-- Words of the definitions that are not about ixml: choice by a test, tests over lists, quoted characters.
use Rattle.std.specs.Prelude.{Bool, true, false, ◌&&◌, ◌||◌, List, [], ◌∷◌, ◌++◌, ℕ, leb, eqb}
use Prim.Native.Char.{code}
use Prim.Native.String.{String}
use Prim.Native.String as string

-- a text is a list of code points
abbrev pub Text : Type 0
Text = List ℕ

-- the code points of a quoted text
abbrev pub chars : String → Text
chars string.[] = []
chars (string.◌∷◌ c s) = code c ∷ chars s

abbrev pub pick {ℓ} : {A : Type ℓ} → Bool → A → A → A
pick true a b = a
pick false a b = b

-- some element passes the test
abbrev pub any {ℓ} : {A : Type ℓ} → (A → Bool) → List A → Bool
any f [] = false
any f (x ∷ xs) = f x || any f xs

abbrev pub all {ℓ} : {A : Type ℓ} → (A → Bool) → List A → Bool
all f [] = true
all f (x ∷ xs) = f x && all f xs

abbrev pub concat_map {ℓ κ} : {A : Type ℓ} {B : Type κ} → (A → List B) → List A → List B
concat_map f [] = []
concat_map f (x ∷ xs) = f x ++ concat_map f xs

-- the two texts are equal; the first begins the second
abbrev pub same : Text → Text → Bool
same [] [] = true
same [] (d ∷ ds) = false
same (c ∷ cs) [] = false
same (c ∷ cs) (d ∷ ds) = eqb c d && same cs ds

abbrev pub begins : Text → Text → Bool
begins [] ds = true
begins (c ∷ cs) [] = false
begins (c ∷ cs) (d ∷ ds) = eqb c d && begins cs ds

abbrev pub among : ℕ → Text → Bool
among c ds = any (eqb c) ds

-- some text stands twice in the list
abbrev pub repeats : List Text → Bool
repeats [] = false
repeats (x ∷ xs) = any (same x) xs || repeats xs

-- a span of code points, both ends included
pub record Span : Type 0 where
  pub from : ℕ
  pub to : ℕ

abbrev pub span : ℕ → ℕ → Span
span a b = record { from = a; to = b }

abbrev pub inside : ℕ → Span → Bool
inside c s = leb s.from c && leb c s.to
