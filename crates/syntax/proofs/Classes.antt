-- Tests on one character: passing and failing, lists of characters, and spacing as such a list.
use native.Mathlib.Omega.{arith}
use mathlib.Core.Bool.{Bool, true, false, not, ◌&&◌, ◌||◌}
use mathlib.Core.Path.{◌≡◌, refl, sym, ap, ◌∙◌}
use mathlib.Core.List.{List, [], ◌∷◌}
use Prim.Native.Nat.{ℕ}
use lib.Dec.{eqb}
use borrow.Author.Tests.{eqb-true, ne_eqb, not-true}
use Rattle.text.specs.Lists.{Text, chars, all, among}
use Rattle.text.specs.Utf8.{alphabet, known, width}
use Rattle.text.specs.Ranks.{code_at}
use Rattle.text.proofs.Spans.{every-known}
use Rattle.text.proofs.Tests.{T_true}
use Rattle.category.specs.Category.{ranges, look, category_of, in_class}
use Rattle.category.proofs.Agree.{unknown}
use Rattle.syntax.specs.Syntax.{Chr, chr, Is, is, ch, whitespace, quote, capital, letter, bar, is_mark, defines, namestart, namefollower}
use Rattle.syntax.specs.Result.{hd, tl}
use Rattle.syntax.specs.Spacing.{spacing}

-- to unfold this is to unfold the classes of characters
unfoldable pub by-category : Unit {0}
unfolding ranges look category_of in_class
by-category = tt

pub clash : {b : Bool} → b ≡ false → b ≡ true → ⊥
clash p q = let z : ◌≡◌ {A = ℕ} 0 1 = cc in omega arith

pub and_left : (a b : Bool) → a && b ≡ true → a ≡ true
and_left true b e = refl
and_left false b e = e

pub and_right : (a b : Bool) → a && b ≡ true → b ≡ true
and_right true b e = e
and_right false b e = absurd (clash refl e)

pub and-false : (a : Bool) → a && false ≡ false
and-false true = refl
and-false false = refl

pub or-true : (a : Bool) → a || true ≡ true
or-true true = refl
or-true false = refl

or_assoc : (a b c : Bool) → a || b || c ≡ a || (b || c)
or_assoc true b c = refl
or_assoc false b c = refl

or-false : (a : Bool) → a || false ≡ a
or-false true = refl
or-false false = refl

-- a test that fails past the end and passes at the head shows a character
pub chr-at : (f : ℕ → Bool) (t : Text) → f 0x110000 ≡ false → f (hd t) ≡ true → Chr f t (tl t) (hd t)
chr-at f [] p q = absurd (clash p q)
chr-at f (c ∷ t) p q = chr q

pub is_at : (f : ℕ → Bool) (t : Text) → f 0x110000 ≡ false → f (hd t) ≡ true → Is f t (tl t)
is_at f [] p q = absurd (clash p q)
is_at f (c ∷ t) p q = is q

-- a test that passes at c and fails at k tells them apart
pub differ : (f : ℕ → Bool) (c k : ℕ) → f k ≡ false → f c ≡ true → eqb c k ≡ false
differ f c k p q = go (eqb c k) refl
  where
    go : (b : Bool) → eqb c k ≡ b → b ≡ false
    go true e = let h : c ≡ k = eqb-true c k e in cc
    go false e = refl

pub no-ch : (f : ℕ → Bool) (k c : ℕ) → f k ≡ false → f c ≡ true → ch k c ≡ false
unfolding ch
no-ch f k c p q = differ f c k p q

-- what holds of k holds of a character that is k
pub at-ch : (f : ℕ → Bool) (b : Bool) (k c : ℕ) → f k ≡ b → ch k c ≡ true → f c ≡ b
unfolding ch
at-ch f b k c p e = rw (eqb-true c k e) p

-- one character is no other
pub ch-not : (j k : ℕ) → eqb k j ≡ false → ch j k ≡ false
unfolding ch
ch-not j k e = e

-- a test that all of a list pass holds of each of them: classes are told apart by computing it
pub among-at : (ks : List ℕ) (g : ℕ → Bool) (c : ℕ) → all g ks ≡ true → among c ks ≡ true → g c ≡ true
among-at [] g c p q = absurd (clash refl q)
among-at (k ∷ ks) g c p q = go (eqb c k) refl q (λ r. among-at ks g c (and_right (g k) (all g ks) p) r)
  where
    go : (b : Bool) → eqb c k ≡ b → b || among c ks ≡ true → (among c ks ≡ true → g c ≡ true) → g c ≡ true
    go true e r f = let h : c ≡ k = eqb-true c k e in let l : g k ≡ true = and_left (g k) (all g ks) p in rw h l
    go false e r f = f r

-- all of a list fail the test
abbrev pub none_of : (ℕ → Bool) → List ℕ → Bool
none_of g ks = all (λ k. not (g k)) ks

pub among-not : (ks : List ℕ) (g : ℕ → Bool) (c : ℕ) → none_of g ks ≡ true → among c ks ≡ true → g c ≡ false
among-not ks g c p q = not-true (g c) (among-at ks (λ k. not (g k)) c p q)

-- what passes f is not among numbers that fail it
pub not-among : (ks : List ℕ) (f : ℕ → Bool) (c : ℕ) → none_of f ks ≡ true → f c ≡ true → among c ks ≡ false
not-among ks f c p q = go (among c ks) refl
  where
    go : (b : Bool) → among c ks ≡ b → b ≡ false
    go true e = absurd (clash (among-not ks f c p e) q)
    go false e = refl

-- the category Zs by enumeration of the alphabet; outside it no character has a category
agree : Bool → Bool → Bool
agree true b = b
agree false b = not b

agreed : (a b : Bool) → agree a b ≡ true → a ≡ b
unfolding agree
agreed true b e = sym e
agreed false b e = sym (not-true b e)

abbrev blank : ℕ → Bool
blank c = among c (0x20 ∷ 0xa0 ∷ [])

abbrev agrees : ℕ → Bool
agrees c = agree (in_class (chars "Zs") c) (blank c)

not-blank : (c : ℕ) → known c ≡ false → blank c ≡ false
unfolding known alphabet
not-blank c h = rw (ne_eqb c 0x20 (λ e. clash h (ap known e)), ne_eqb c 0xa0 (λ e. clash h (ap known e)))

blanks : (c : ℕ) → in_class (chars "Zs") c ≡ blank c
unfolding in_class agree by-category code_at alphabet width
blanks c = go (known c) refl
  where
    go : (b : Bool) → known c ≡ b → in_class (chars "Zs") c ≡ blank c
    go true e = agreed _ _ (T_true _ (every-known agrees tt c e))
    go false e = rw (unknown c e) (sym (not-blank c e))

-- the characters that begin a spacing
abbrev pub spacings : List ℕ
spacings = 0x7b ∷ 0x20 ∷ 0xa0 ∷ 0x9 ∷ 0xa ∷ 0xd ∷ []

pub spacing-list : (c : ℕ) → spacing c ≡ among c spacings
unfolding spacing whitespace
spacing-list c = rw (blanks c) (simp (or_assoc, or-false))

-- what passes f is no spacing, where no spacing passes f; and the other way round
pub no-spacing : (f : ℕ → Bool) (c : ℕ) → none_of f spacings ≡ true → f c ≡ true → spacing c ≡ false
no-spacing f c p q = spacing-list c ∙ not-among spacings f c p q

pub ch-spacing : (k c : ℕ) → among k spacings ≡ false → ch k c ≡ true → spacing c ≡ false
ch-spacing k c p e = spacing-list c ∙ at-ch (λ j. among j spacings) false k c p e

pub spacing-not : (f : ℕ → Bool) (c : ℕ) → none_of f spacings ≡ true → spacing c ≡ true → f c ≡ false
spacing-not f c p q = among-not spacings f c p (sym (spacing-list c) ∙ q)

-- no test passes past the end
pub ch-end : (k : ℕ) → eqb 0x110000 k ≡ false → ch k 0x110000 ≡ false
unfolding ch
ch-end k e = e

pub quote-end : quote 0x110000 ≡ false
unfolding quote
quote-end = refl

pub capital-end : capital 0x110000 ≡ false
unfolding capital
capital-end = refl

pub letter-end : letter 0x110000 ≡ false
unfolding letter capital
letter-end = refl

pub bar-end : bar 0x110000 ≡ false
unfolding bar
bar-end = refl

pub mark-end : is_mark 0x110000 ≡ false
unfolding is_mark
mark-end = refl

pub defines-end : defines 0x110000 ≡ false
unfolding defines
defines-end = refl

pub namestart-end : namestart 0x110000 ≡ false
unfolding namestart by-category
namestart-end = refl

pub namefollower-end : namefollower 0x110000 ≡ false
unfolding namefollower namestart by-category
namefollower-end = refl
