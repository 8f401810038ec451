-- The table agrees with the range list at all of its entries, and the list knows nothing outside the alphabet.
use mathlib.Core.Path.{◌≡◌, refl, ap, ◌∙◌, subst}
use mathlib.Core.Bool.{Bool, true, false, not, ◌&&◌, and-false}
use mathlib.Core.Logic.{inl, inr, ⊎_elim}
use mathlib.Core.List.{List, [], ◌∷◌}
use Prim.Native.Nat.{ℕ, ◌<◌, ◌/◌, ◌%◌}
use native.Mathlib.Omega.{arith}
use lib.Dec.{T, leb, ltb, eqb, eqb→eq, leb→le, ltb→lt}
use lib.ListN.{get_or}
use borrow.Author.Tests.{le-leb}
use Rattle.text.specs.Lists.{Text, chars, pick, any, all, same, begins, Span, inside}
use Rattle.text.specs.Utf8.{alphabet, known, width, place_in}
use Rattle.text.specs.Ranks.{code_at}
use Rattle.text.proofs.Tests.{look as look-test, is_t, T_true, not_t, T_false, and_left, and_right, or_case, or_left, or_right, same-is}
use Rattle.text.proofs.Spans.{above_from, below-to, placed, counted, every-known}
use Rattle.text.proofs.Table.{at, below, below_at}
use Rattle.category.specs.Category.{Row, takes, ranges, look, categories, classes, category_of, in_class, place, category_number}

unfoldable pub table : List ℕ
table =
    25 ∷ 25 ∷ 25 ∷ 25 ∷ 25 ∷ 25 ∷ 25 ∷ 25 ∷ 25 ∷ 25 ∷ 25 ∷ 25 ∷ 25 ∷ 25 ∷ 25 ∷ 25 ∷
    25 ∷ 25 ∷ 25 ∷ 25 ∷ 25 ∷ 25 ∷ 25 ∷ 25 ∷ 25 ∷ 25 ∷ 25 ∷ 25 ∷ 25 ∷ 25 ∷ 25 ∷ 25 ∷
    22 ∷ 17 ∷ 17 ∷ 17 ∷ 19 ∷ 17 ∷ 17 ∷ 17 ∷ 13 ∷ 14 ∷ 17 ∷ 18 ∷ 17 ∷ 12 ∷ 17 ∷ 17 ∷
    8 ∷ 8 ∷ 8 ∷ 8 ∷ 8 ∷ 8 ∷ 8 ∷ 8 ∷ 8 ∷ 8 ∷ 17 ∷ 17 ∷ 18 ∷ 18 ∷ 18 ∷ 17 ∷
    17 ∷ 0 ∷ 0 ∷ 0 ∷ 0 ∷ 0 ∷ 0 ∷ 0 ∷ 0 ∷ 0 ∷ 0 ∷ 0 ∷ 0 ∷ 0 ∷ 0 ∷ 0 ∷
    0 ∷ 0 ∷ 0 ∷ 0 ∷ 0 ∷ 0 ∷ 0 ∷ 0 ∷ 0 ∷ 0 ∷ 0 ∷ 13 ∷ 17 ∷ 14 ∷ 20 ∷ 11 ∷
    20 ∷ 1 ∷ 1 ∷ 1 ∷ 1 ∷ 1 ∷ 1 ∷ 1 ∷ 1 ∷ 1 ∷ 1 ∷ 1 ∷ 1 ∷ 1 ∷ 1 ∷ 1 ∷
    1 ∷ 1 ∷ 1 ∷ 1 ∷ 1 ∷ 1 ∷ 1 ∷ 1 ∷ 1 ∷ 1 ∷ 1 ∷ 13 ∷ 18 ∷ 14 ∷ 18 ∷ 25 ∷
    25 ∷ 25 ∷ 25 ∷ 25 ∷ 25 ∷ 25 ∷ 25 ∷ 25 ∷ 25 ∷ 25 ∷ 25 ∷ 25 ∷ 25 ∷ 25 ∷ 25 ∷ 25 ∷
    25 ∷ 25 ∷ 25 ∷ 25 ∷ 25 ∷ 25 ∷ 25 ∷ 25 ∷ 25 ∷ 25 ∷ 25 ∷ 25 ∷ 25 ∷ 25 ∷ 25 ∷ 25 ∷
    22 ∷ 17 ∷ 19 ∷ 19 ∷ 19 ∷ 19 ∷ 21 ∷ 17 ∷ 20 ∷ 21 ∷ 4 ∷ 15 ∷ 18 ∷ 26 ∷ 21 ∷ 20 ∷
    21 ∷ 18 ∷ 10 ∷ 10 ∷ 20 ∷ 1 ∷ 17 ∷ 17 ∷ 20 ∷ 10 ∷ 4 ∷ 16 ∷ 10 ∷ 10 ∷ 10 ∷ 17 ∷
    0 ∷ 0 ∷ 0 ∷ 0 ∷ 0 ∷ 0 ∷ 0 ∷ 0 ∷ 0 ∷ 0 ∷ 0 ∷ 0 ∷ 0 ∷ 0 ∷ 0 ∷ 0 ∷
    0 ∷ 0 ∷ 0 ∷ 0 ∷ 0 ∷ 0 ∷ 0 ∷ 18 ∷ 0 ∷ 0 ∷ 0 ∷ 0 ∷ 0 ∷ 0 ∷ 0 ∷ 1 ∷
    1 ∷ 1 ∷ 1 ∷ 1 ∷ 1 ∷ 1 ∷ 1 ∷ 1 ∷ 1 ∷ 1 ∷ 1 ∷ 1 ∷ 1 ∷ 1 ∷ 1 ∷ 1 ∷
    1 ∷ 1 ∷ 1 ∷ 1 ∷ 1 ∷ 1 ∷ 1 ∷ 18 ∷ 1 ∷ 1 ∷ 1 ∷ 1 ∷ 1 ∷ 1 ∷ 1 ∷ 1 ∷
    0 ∷ 1 ∷ 0 ∷ 1 ∷ 0 ∷ 1 ∷ 0 ∷ 1 ∷ 0 ∷ 1 ∷ 0 ∷ 1 ∷ 0 ∷ 1 ∷ 0 ∷ 1 ∷
    0 ∷ 1 ∷ 0 ∷ 1 ∷ 0 ∷ 1 ∷ 0 ∷ 1 ∷ 0 ∷ 1 ∷ 0 ∷ 1 ∷ 0 ∷ 1 ∷ 0 ∷ 1 ∷
    0 ∷ 1 ∷ 0 ∷ 1 ∷ 0 ∷ 1 ∷ 0 ∷ 1 ∷ 0 ∷ 1 ∷ 0 ∷ 1 ∷ 0 ∷ 1 ∷ 0 ∷ 1 ∷
    0 ∷ 1 ∷ 0 ∷ 1 ∷ 0 ∷ 1 ∷ 0 ∷ 1 ∷ 1 ∷ 0 ∷ 1 ∷ 0 ∷ 1 ∷ 0 ∷ 1 ∷ 0 ∷
    1 ∷ 0 ∷ 1 ∷ 0 ∷ 1 ∷ 0 ∷ 1 ∷ 0 ∷ 1 ∷ 1 ∷ 0 ∷ 1 ∷ 0 ∷ 1 ∷ 0 ∷ 1 ∷
    0 ∷ 1 ∷ 0 ∷ 1 ∷ 0 ∷ 1 ∷ 0 ∷ 1 ∷ 0 ∷ 1 ∷ 0 ∷ 1 ∷ 0 ∷ 1 ∷ 0 ∷ 1 ∷
    0 ∷ 1 ∷ 0 ∷ 1 ∷ 0 ∷ 1 ∷ 0 ∷ 1 ∷ 0 ∷ 1 ∷ 0 ∷ 1 ∷ 0 ∷ 1 ∷ 0 ∷ 1 ∷
    0 ∷ 1 ∷ 0 ∷ 1 ∷ 0 ∷ 1 ∷ 0 ∷ 1 ∷ 0 ∷ 0 ∷ 1 ∷ 0 ∷ 1 ∷ 0 ∷ 1 ∷ 1 ∷
    5 ∷ 5 ∷ 5 ∷ 5 ∷ 5 ∷ 5 ∷ 5 ∷ 5 ∷ 5 ∷ 5 ∷ 5 ∷ 5 ∷ 5 ∷ 5 ∷ 5 ∷ 5 ∷
    5 ∷ 5 ∷ 5 ∷ 5 ∷ 5 ∷ 5 ∷ 5 ∷ 5 ∷ 5 ∷ 5 ∷ 5 ∷ 5 ∷ 5 ∷ 5 ∷ 5 ∷ 5 ∷
    5 ∷ 5 ∷ 5 ∷ 5 ∷ 5 ∷ 5 ∷ 5 ∷ 5 ∷ 5 ∷ 5 ∷ 5 ∷ 5 ∷ 5 ∷ 5 ∷ 5 ∷ 5 ∷
    5 ∷ 5 ∷ 5 ∷ 5 ∷ 5 ∷ 5 ∷ 5 ∷ 5 ∷ 5 ∷ 5 ∷ 5 ∷ 5 ∷ 5 ∷ 5 ∷ 5 ∷ 5 ∷
    5 ∷ 5 ∷ 5 ∷ 5 ∷ 5 ∷ 5 ∷ 5 ∷ 5 ∷ 5 ∷ 5 ∷ 5 ∷ 5 ∷ 5 ∷ 5 ∷ 5 ∷ 5 ∷
    5 ∷ 5 ∷ 5 ∷ 5 ∷ 5 ∷ 5 ∷ 5 ∷ 5 ∷ 5 ∷ 5 ∷ 5 ∷ 5 ∷ 5 ∷ 5 ∷ 5 ∷ 5 ∷
    5 ∷ 5 ∷ 5 ∷ 5 ∷ 5 ∷ 5 ∷ 5 ∷ 5 ∷ 5 ∷ 5 ∷ 5 ∷ 5 ∷ 5 ∷ 5 ∷ 5 ∷ 5 ∷
    11 ∷ 11 ∷
    []

right : ℕ → ℕ → Bool
right k x = eqb x (category_number (code_at alphabet k))

pub by_place : (k : ℕ) → k < 498 → get_or table k 0 ≡ category_number (code_at alphabet k)
unfolding table right category_number place categories category_of look ranges code_at alphabet width
by_place k h = eqb→eq (get_or table k 0) (category_number (code_at alphabet k)) (at right table tt k h)

pub agrees : (c : ℕ) → known c ≡ true → get_or table (place_in alphabet c) 0 ≡ category_number c
unfolding known
agrees c e =
    let p = placed alphabet c e in
    by_place (place_in alphabet c) (omega (arith, p.1, counted)) ∙ ap category_number p.0

-- every span of the list lies within one of the alphabet
within : Span → Span → Bool
within s a = leb a.from s.from && leb s.to a.to

covered : Span → Bool
covered s = any (within s) alphabet

inside-within : (c : ℕ) (s a : Span) → T (within s a) → inside c s ≡ true → inside c a ≡ true
unfolding within
inside-within c s a t i =
    let l = leb→le a.from s.from (and_left (leb a.from s.from) (leb s.to a.to) t) in
    let h = leb→le s.to a.to (and_right (leb a.from s.from) (leb s.to a.to) t) in
    let f = above_from c s i in
    let g = below-to c s i in
    rw (le-leb a.from c (omega arith), le-leb c a.to (omega arith))

inside-some : (c : ℕ) (s : Span) (xs : List Span) → T (any (within s) xs) → inside c s ≡ true → T (any (inside c) xs)
inside-some c s [] t i = absurd t
inside-some c s (a ∷ xs) t i = ⊎_elim
    (λ u. or_left (inside c a) (any (inside c) xs) (is_t (inside-within c s a u i)))
    (λ u. or_right (inside c a) (any (inside c) xs) (inside-some c s xs u i))
    (or_case (within s a) (any (within s) xs) t)

in-none : (ss : List Span) (c : ℕ) → T (all covered ss) → known c ≡ false → any (inside c) ss ≡ false
unfolding covered known
in-none [] c t e = refl
in-none (s ∷ ss) c t e =
    let o : inside c s ≡ false = T_false (inside c s) (λ i. not_t e (inside-some c s alphabet (and_left (covered s) (all covered ss) t) (T_true (inside c s) i))) in
    rw (o, in-none ss c (and_right (covered s) (all covered ss) t) e)

row-covered : Row → Bool
row-covered r = all covered r.spans

look_none : (rs : List Row) (c : ℕ) → T (all row-covered rs) → known c ≡ false → look rs c ≡ []
unfolding look row-covered
look_none [] c t e = refl
look_none (r ∷ rs) c t e =
    rw (in-none r.spans c (and_left (row-covered r) (all row-covered rs) t) e, and-false (takes r.part c))
    (look_none rs c (and_right (row-covered r) (all row-covered rs) t) e)

pub unknown : (c : ℕ) → known c ≡ false → category_of c ≡ []
unfolding category_of ranges row-covered covered within alphabet
unknown c e = look_none ranges c tt e

pub not_known : (c : ℕ) → known c ≡ false → category_number c ≡ 30
unfolding category_number place categories
not_known c e = rw (unknown c e)

-- a category is known by its number
named : ℕ → Bool
named c = same (get_or categories (category_number c) []) (category_of c)

by_number : (c : ℕ) → get_or categories (category_number c) [] ≡ category_of c
unfolding named category_number place categories category_of look ranges code_at alphabet width
by_number c = elim (look-test (known c)) as (λ _. get_or categories (category_number c) [] ≡ category_of c) [
  | inl e ↦ same-is (get_or categories (category_number c) []) (category_of c) (every-known named tt c e)
  | inr e ↦ (let u = unknown c e in let f = not_known c e in rw (f, u))
]

-- the classes' first and last categories: the table of the code
unfoldable pub spans : List ℕ
spans =
    0 ∷ 33 ∷ 66 ∷ 99 ∷ 132 ∷ 165 ∷ 198 ∷ 231 ∷ 264 ∷ 297 ∷ 330 ∷ 363 ∷ 396 ∷ 429 ∷ 462 ∷ 495 ∷ 528 ∷ 561 ∷ 594 ∷ 627 ∷ 660 ∷ 693 ∷
    726 ∷ 759 ∷ 792 ∷ 825 ∷ 858 ∷ 891 ∷ 924 ∷ 957 ∷ 4 ∷ 167 ∷ 266 ∷ 369 ∷ 597 ∷ 728 ∷ 829 ∷ 2 ∷ []

-- what a class says of a category
holds : Text → Text → Bool
holds k cat = pick (same k (chars "LC")) (any (same cat) (chars "Lu" ∷ chars "Ll" ∷ chars "Lt" ∷ [])) (begins k cat)

unfoldable pub agree : Bool → Bool → Bool
agree true b = b
agree false b = not b

pub agree-is : (a b : Bool) → T (agree a b) → a ≡ b
unfolding agree
agree-is true true h = refl
agree-is true false h = absurd h
agree-is false true h = absurd h
agree-is false false h = refl

spanned : ℕ → ℕ → Bool
spanned k n = agree (holds (get_or classes k []) (get_or categories n [])) (leb (get_or spans k 0 / 32) n && leb n (get_or spans k 0 % 32))

small : ℕ → Bool
small c = ltb (category_number c) 31

number-below : (c : ℕ) → category_number c < 31
unfolding small category_number place categories category_of look ranges code_at alphabet width
number-below c = elim (look-test (known c)) as (λ _. category_number c < 31) [
  | inl e ↦ ltb→lt (category_number c) 31 (every-known small tt c e)
  | inr e ↦ (let f = not_known c e in omega arith)
]

row : ℕ → Bool
row k = below 31 (spanned k)

-- a class is the span of its categories: one test over all classes and categories
pub class-spans : (k c : ℕ) → k < 38
    → in_class (get_or classes k []) c ≡ (leb (get_or spans k 0 / 32) (category_number c) && leb (category_number c) (get_or spans k 0 % 32))
unfolding in_class holds spanned row agree spans classes categories
class-spans k c h =
    let n = category_number c in
    let within = leb (get_or spans k 0 / 32) n && leb n (get_or spans k 0 % 32) in
    let t = below_at 31 (spanned k) (below_at 38 row tt k h) n (number-below c) in
    let e = agree-is (holds (get_or classes k []) (get_or categories n [])) within t in
    subst (λ (x : Text). holds (get_or classes k []) x ≡ within) (by_number c) e
