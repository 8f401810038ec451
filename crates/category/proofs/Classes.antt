-- The class of one letter or two, found in the list of all.
use mathlib.Core.Path.{◌≡◌, refl, sym, ap, ◌∙◌, subst}
use mathlib.Core.Bool.{Bool, true, false, ◌&&◌, and-false}
use mathlib.Core.List.{List, [], ◌∷◌, map}
use Prim.Native.Nat.{ℕ, suc, ◌+◌, ◌*◌, ◌/◌, ◌%◌, ◌<◌, ◌≤◌}
use native.Mathlib.Nat.{not-suc-le-zero}
use native.Mathlib.Decide.{ℕ_discrete}
use native.Mathlib.Omega.{arith}
use lib.Dec.{eqb, ltb, eqb→eq, ltb→lt}
use lib.ListN.{length, get_or, get_or-map}
use borrow.Author.Tests.{ne_eqb}
use Rattle.text.specs.Lists.{Text, any, same}
use native.Mathlib.Numerals.{add-one}
use Rattle.text.proofs.Tests.{same-is, is_t, clash}
use Rattle.text.proofs.Table.{at}
use Rattle.category.specs.Category.{categories, classes, is_class, letters, place}

pub same-letters-is : (c d x y : ℕ) → same (letters c d) (letters x y) ≡ eqb c x && eqb d y
same-letters-is c d x y = elim (ℕ_discrete d 0) as (λ _. same (letters c d) (letters x y) ≡ eqb c x && eqb d y) [
  | yes e ↦ elim (ℕ_discrete y 0) as (λ _. same (letters c d) (letters x y) ≡ eqb c x && eqb d y) [
    | yes f ↦ rw (e, f)
    | no f ↦ rw (e, ne_eqb y 0 f, ne_eqb 0 y (λ g. f (sym g)))
  ]
  | no e ↦ elim (ℕ_discrete y 0) as (λ _. same (letters c d) (letters x y) ≡ eqb c x && eqb d y) [
    | yes f ↦ rw (f, ne_eqb d 0 e)
    | no f ↦ rw (ne_eqb d 0 e, ne_eqb y 0 f) (ap (◌&&◌ (eqb c x)) (and-true (eqb d y)))
  ]
]
  where
    and-true : (a : Bool) → a && true ≡ a
    and-true true = refl
    and-true false = refl

-- the keys of the classes, and the class of each slot: the tables of the code
unfoldable pub keys : List ℕ
keys =
    19573 ∷ 19564 ∷ 19572 ∷ 19565 ∷ 19567 ∷ 19822 ∷ 19811 ∷ 19813 ∷ 20068 ∷ 20076 ∷ 20079 ∷ 20579 ∷ 20580 ∷ 20595 ∷ 20581 ∷
    20585 ∷ 20582 ∷ 20591 ∷ 21357 ∷ 21347 ∷ 21355 ∷ 21359 ∷ 23155 ∷ 23148 ∷ 23152 ∷ 17251 ∷ 17254 ∷ 17267 ∷ 17263 ∷ 17262 ∷
    19456 ∷ 19712 ∷ 19968 ∷ 20480 ∷ 21248 ∷ 23040 ∷ 17152 ∷ 19523 ∷ []

unfoldable pub slots : List ℕ
slots =
    13 ∷ 0 ∷ 31 ∷ 0 ∷ 0 ∷ 0 ∷ 0 ∷ 36 ∷ 37 ∷ 0 ∷ 0 ∷ 0 ∷ 0 ∷ 8 ∷ 0 ∷ 35 ∷ 30 ∷ 19 ∷ 0 ∷ 0 ∷ 33 ∷ 9 ∷ 0 ∷ 0 ∷ 10 ∷ 20 ∷ 6 ∷ 18 ∷ 7 ∷
    21 ∷ 0 ∷ 25 ∷ 0 ∷ 0 ∷ 26 ∷ 0 ∷ 0 ∷ 5 ∷ 0 ∷ 0 ∷ 0 ∷ 0 ∷ 29 ∷ 28 ∷ 0 ∷ 0 ∷ 0 ∷ 27 ∷ 32 ∷ 1 ∷ 3 ∷ 0 ∷ 4 ∷ 34 ∷ 0 ∷ 0 ∷ 0 ∷ 2 ∷
    0 ∷ 11 ∷ 12 ∷ 14 ∷ 16 ∷ 23 ∷ 0 ∷ 15 ∷ 0 ∷ 24 ∷ 0 ∷ 0 ∷ 22 ∷ 17 ∷ 0 ∷ 0 ∷ 0 ∷ []

-- the letters in the keys
unfoldable pub first_letters : List ℕ
first_letters = map (λ (x : ℕ). x / 256) keys

unfoldable pub second_letters : List ℕ
second_letters = map (λ (x : ℕ). x % 256) keys

spelt : ℕ → ℕ → Bool
spelt k x = same (letters (x / 256) (x % 256)) (get_or classes k [])

-- each class by its key: one test over the whole table
key-letters : (k : ℕ) → k < 38 → letters (get_or keys k 0 / 256) (get_or keys k 0 % 256) ≡ get_or classes k []
unfolding spelt keys classes categories
key-letters k h = same-is (letters (get_or keys k 0 / 256) (get_or keys k 0 % 256)) (get_or classes k []) (at spelt keys tt k h)

pub class-letters : (k : ℕ) → k < 38 → letters (get_or first_letters k 0) (get_or second_letters k 0) ≡ get_or classes k []
unfolding first_letters second_letters
class-letters k h = rw (get_or-map (λ (x : ℕ). x / 256) keys k 0, get_or-map (λ (x : ℕ). x % 256) keys k 0) (key-letters k h)

small : ℕ → ℕ → Bool
small k x = ltb x 65536

pub key-small : (k : ℕ) → k < 38 → get_or keys k 0 < 65536
unfolding small keys
key-small k h = ltb→lt (get_or keys k 0) 65536 (at small keys tt k h)

found-in-slot : ℕ → ℕ → Bool
found-in-slot k x = eqb (get_or slots (x % 135 % 75) 0) k

-- a class stands in the slot of its key
slot_of : (k : ℕ) → k < 38 → get_or slots (get_or keys k 0 % 135 % 75) 0 ≡ k
unfolding found-in-slot keys slots
slot_of k h = eqb→eq (get_or slots (get_or keys k 0 % 135 % 75) 0) k (at found-in-slot keys tt k h)

a-class : ℕ → ℕ → Bool
a-class j x = ltb x 38

-- the class in the slot of two letters
abbrev pub slot : ℕ → ℕ → ℕ
slot c d = get_or slots ((c * 256 + d) % 135 % 75) 0

pub slot-below : (c d : ℕ) → slot c d < 38
unfolding a-class slots
slot-below c d =
    let j = (c * 256 + d) % 135 % 75 in
    ltb→lt (get_or slots j 0) 38 (at a-class slots tt j (omega arith))

pub place_none : (xs : List Text) (k : Text) → ((j : ℕ) → j < length xs → same k (get_or xs j []) ≡ false) → place xs k ≡ length xs
unfolding place
place_none [] k u = refl
place_none (x ∷ xs) k u =
    let ih : place xs k ≡ length xs = place_none xs k (λ j l. u (suc j) (omega arith)) in
    rw (u 0 (omega arith), place) (omega arith)

pub listed : length classes ≡ 38
unfolding classes categories
listed = refl

own-place : ℕ → ℕ → Bool
own-place k x = eqb (place classes (get_or classes k [])) k

class-place : (k : ℕ) → k < 38 → place classes (get_or classes k []) ≡ k
unfolding own-place keys classes categories place
class-place k h = eqb→eq (place classes (get_or classes k [])) k (at own-place keys tt k h)

-- letters that no class's key has
no-class : (c d : ℕ) → ((j : ℕ) → j < 38 → c ≡ get_or keys j 0 / 256 → d ≡ get_or keys j 0 % 256 → ⊥) → place classes (letters c d) ≡ 38
no-class c d none = place_none classes (letters c d) (λ j h. other j (omega (arith, listed))) ∙ listed
  where
    other : (j : ℕ) → j < 38 → same (letters c d) (get_or classes j []) ≡ false
    other j h =
        let x = get_or keys j 0 in
        let e = ap (same (letters c d)) (sym (key-letters j h)) ∙ same-letters-is c d (x / 256) (x % 256) in
        e ∙ elim (ℕ_discrete c (x / 256)) as (λ _. eqb c (x / 256) && eqb d (x % 256) ≡ false) [
          | no n ↦ rw (ne_eqb c (x / 256) n)
          | yes p ↦ rw (ne_eqb d (x % 256) (λ q. none j h p q)) (and-false (eqb c (x / 256)))
        ]

pub large-first : (c d : ℕ) → 256 ≤ c → place classes (letters c d) ≡ 38
large-first c d l = no-class c d (λ j h p q. let b = key-small j h in omega arith)

pub large-second : (c d : ℕ) → 256 ≤ d → place classes (letters c d) ≡ 38
large-second c d l = no-class c d (λ j h p q. omega arith)

-- the class of the slot has another key
pub other_key : (c d : ℕ) → d < 256 → (get_or keys (slot c d) 0 ≡ c * 256 + d → ⊥) → place classes (letters c d) ≡ 38
other_key c d hd differs = no-class c d (λ j h p q. differs (
    let x = get_or keys j 0 in
    let e : x ≡ c * 256 + d = omega arith in
    let s : slot c d ≡ j = ap (λ (y : ℕ). get_or slots (y % 135 % 75) 0) (sym e) ∙ slot_of j h in
    rw s e))

pub same_key : (c d : ℕ) → d < 256 → get_or keys (slot c d) 0 ≡ c * 256 + d → place classes (letters c d) ≡ slot c d
same_key c d hd e =
    let k = slot c d in
    let h = slot-below c d in
    let p : get_or keys k 0 / 256 ≡ c = omega arith in
    let q : get_or keys k 0 % 256 ≡ d = omega arith in
    subst (λ (t : Text). place classes t ≡ k) (sym (key-letters k h) ∙ rw (p, q)) (class-place k h)

-- a text of the list, at its place
pub record Found (xs : List Text) (k : Text) : Type 0 where
  pub inside : place xs k < length xs
  pub is : get_or xs (place xs k) [] ≡ k

pub found : (xs : List Text) (k : Text) → any (same k) xs ≡ true → Found xs k
unfolding place
found [] k e = absurd (clash refl e)
found (x ∷ xs) k e = go (found xs k) (same k x) refl
  where
    go : (any (same k) xs ≡ true → Found xs k) → (b : Bool) → same k x ≡ b → Found (x ∷ xs) k
    go ih true s = record { inside = rw (s, place) (omega arith); is = rw (s, place) (sym (same-is k x (is_t s))) }
    go ih false s =
        let f = ih (rw s at e) in
        record {
          inside = rw (s, place) (omega (arith, f.inside));
          is = rw (s, place, add-one) f.is;
        }

pub class-found : (k : Text) → is_class k ≡ true → Found classes k
unfolding is_class
class-found k e = found classes k e

-- a place inside the list is the text's
pub place-below : (xs : List Text) (k : Text) → place xs k < length xs → get_or xs (place xs k) [] ≡ k
unfolding place
place-below [] k h = absurd (not-suc-le-zero h)
place-below (x ∷ xs) k h = go (place-below xs k) (same k x) refl
  where
    go : (place xs k < length xs → get_or xs (place xs k) [] ≡ k) → (b : Bool) → same k x ≡ b → get_or (x ∷ xs) (place (x ∷ xs) k) [] ≡ k
    go ih true s = rw (s, place) (sym (same-is k x (is_t s)))
    go ih false s =
        let e : place (x ∷ xs) k ≡ suc (place xs k) = rw (s, place) (add-one (place xs k)) in
        rw e (ih (omega arith))
