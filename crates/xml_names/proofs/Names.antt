-- Names and characters, as tables hold them.
use mathlib.Core.Path.{◌≡◌, refl, sym, ap, ◌∙◌}
use mathlib.Core.Bool.{Bool, true, false, not, ◌&&◌, ◌||◌}
use mathlib.Core.Logic.{⊎_elim}
use mathlib.Core.List.{List, [], ◌∷◌}
use Prim.Native.Nat.{ℕ, ◌≤◌}
use native.Mathlib.Omega.{arith}
use lib.Dec.{eqb}
use lib.Pointwise.{pointwise}
use borrow.Author.Tests.{lt-leb}
use Rattle.std.specs.List.{list_all, list_any}
use Rattle.text.specs.Lists.{Text, any, all, same}
use Rattle.text.proofs.Tests.{split}
use Rattle.tree.specs.Tokens.{capped}
use Rattle.xml.specs.Names.{xml_char}
use Rattle.xml_names.specs.Flags.{bad}

-- a number above all characters is bad
large : (c : ℕ) → 0x110000 ≤ c → xml_char c ≡ false
unfolding xml_char
large c h = simp (lt-leb c 0xa (omega arith), lt-leb c 0xd (omega arith), lt-leb c 0xd7ff (omega arith), lt-leb c 0xfffd (omega arith), lt-leb c 0x10ffff (omega arith), no)
  where
    no : (a : Bool) → a && false ≡ false
    no true = refl
    no false = refl

pub bad-capped : (c : ℕ) → bad (capped c) ≡ bad c
bad-capped c = ⊎_elim
    (λ l. let e : capped c ≡ c = omega arith in ap bad e)
    (λ l. ap not (large (capped c) (omega arith) ∙ sym (large c l)))
    (split c 0x110000)

-- tests of lists, in the kit's words
pub any_of : (f : ℕ → Bool) (xs : List ℕ) → list_any f xs ≡ any f xs
any_of f [] = refl
any_of f (x ∷ xs) = ap (◌||◌ (f x)) (any_of f xs)

pub all_of : (f : ℕ → Bool) (xs : List ℕ) → list_all f xs ≡ all f xs
all_of f [] = refl
all_of f (x ∷ xs) = ap (◌&&◌ (f x)) (all_of f xs)

pub same_of : (xs ys : Text) → pointwise eqb xs ys ≡ same xs ys
same_of [] [] = refl
same_of [] (y ∷ ys) = refl
same_of (x ∷ xs) [] = refl
same_of (x ∷ xs) (y ∷ ys) = ap (◌&&◌ (eqb x y)) (same_of xs ys)
