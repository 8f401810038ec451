-- What stands between the quotes of an attribute is a number text exactly when the attribute's text is.
use mathlib.Core.Bool.{Bool, true, false, ◌&&◌, ◌||◌}
use mathlib.Core.Logic.{◌⊎◌, inl, inr, ⊎_elim, ◌↔◌}
use mathlib.Core.Path.{◌≡◌, refl, sym, ap, subst, ◌∙◌}
use mathlib.Core.List.{[], ◌∷◌, ◌++◌}
use Prim.Native.Nat.{ℕ, ◌+◌, ◌/◌, ◌%◌, ◌≤◌}
use native.Mathlib.Omega.{arith}
use borrow.Author.Tests.{lt-leb, ltb-false, eqb-true, ne_eqb}
use lib.Dec.{T, leb, ltb, eqb}
use Rattle.text.specs.Lists.{Text, chars, pick, all, concat_map}
use Rattle.text.specs.Utf8.{utf8, utf8s}
use Rattle.xml.specs.Bytes.{escape}
use Rattle.decimal.specs.Number.{digit, Decimal, pointed, Spells}
use Rattle.gate.specs.Laws.{quoted}

look : (b : Bool) → (b ≡ true) ⊎ (b ≡ false)
look true = inl refl
look false = inr refl

T_true : (b : Bool) → T b → b ≡ true
T_true true h = refl
T_true false h = absurd h

-- the characters of number texts
plain : ℕ → Bool
plain c = digit c || (eqb c 0x2d || eqb c 0x2e)

-- 1. A number text is made of them.
or_left : (a b : Bool) → T a → T (a || b)
or_left true b h = tt
or_left false b h = absurd h

and_both : (a b : Bool) → T a → T b → T (a && b)
and_both true b h k = k
and_both false b h k = h

and-fst : (a b : Bool) → T (a && b) → T a
and-fst true b h = tt
and-fst false b h = h

and-snd : (a b : Bool) → T (a && b) → T b
and-snd true b h = h
and-snd false b h = absurd h

all_append : (p q : Text) → T (all plain p) → T (all plain q) → T (all plain (p ++ q))
all_append [] q h k = k
all_append (c ∷ p) q h k = and_both (plain c) _ (and-fst (plain c) _ h) (all_append p q (and-snd (plain c) _ h) k)

digits-plain : (p : Text) → T (all digit p) → T (all plain p)
unfolding plain
digits-plain [] h = tt
digits-plain (c ∷ p) h = and_both (plain c) _ (or_left (digit c) _ (and-fst (digit c) _ h)) (digits-plain p (and-snd (digit c) _ h))

pointed-plain : (f : Text) → T (all digit f) → T (all plain (pointed f))
unfolding plain
pointed-plain [] h = tt
pointed-plain (c ∷ f) h = digits-plain (c ∷ f) h

sign-plain : (m : Bool) → T (all plain (pick m (chars "-") []))
unfolding plain
sign-plain true = tt
sign-plain false = tt

spelt-plain : (t : Text) (d : Decimal) → Spells t d → T (all plain t)
spelt-plain t d s =
    subst (λ (u : Text). T (all plain u)) (sym s.text)
    (all_append (pick d.minus (chars "-") [] ++ d.whole) (pointed d.fraction)
    (all_append (pick d.minus (chars "-") []) d.whole (sign-plain d.minus) (digits-plain d.whole s.whole_digits)) (pointed-plain d.fraction s.fraction_digits))

-- 2. Writing keeps each of them, and puts something else first for any other character.
data Kept (c : ℕ) : Text → Type 0 where
  as_is : Kept c (c ∷ [])
  other : {b : ℕ} {r : Text} → plain c ≡ false → plain b ≡ false → Kept c (b ∷ r)

kept-plain : {c : ℕ} {t : Text} → Kept c t → plain c ≡ true → t ≡ c ∷ []
kept-plain as_is h = refl
kept-plain (other p q) h = absurd (let z : ◌≡◌ {A = Bool} true false = sym h ∙ p in subst T z tt)

module _ (f : ℕ → Text) (keeps : (c : ℕ) → Kept c (f c)) where
  plain-same : (v : Text) → T (all plain v) → concat_map f v ≡ v
  plain-same [] h = refl
  plain-same (c ∷ v) h =
      ap (λ (t : Text). t ++ concat_map f v) (kept-plain (keeps c) (T_true (plain c) (and-fst (plain c) _ h))) ∙ ap (λ (t : Text). c ∷ t) (plain-same v (and-snd (plain c) _ h))

  written_same : (v : Text) → T (all plain (concat_map f v)) → concat_map f v ≡ v
  written_same [] h = refl
  written_same (c ∷ v) h = go (f c) (keeps c) h (written_same v)
    where
      go : (t : Text) → Kept c t → T (all plain (t ++ concat_map f v)) → (T (all plain (concat_map f v)) → concat_map f v ≡ v) → t ++ concat_map f v ≡ c ∷ v
      go t as_is h rec = ap (λ (u : Text). c ∷ u) (rec (and-snd (plain c) _ h))
      go t (other {b} p q) h rec = absurd (subst T q (and-fst (plain b) _ h))

-- 3. Of escapes and of UTF-8.
at : (c k : ℕ) → Kept k (escape true k) → (eqb c k ≡ false → Kept c (escape true c)) → Kept c (escape true c)
at c k x f = ⊎_elim (λ e. subst (λ (d : ℕ). Kept d (escape true d)) (sym (eqb-true c k e)) x) f (look (eqb c k))

escape-keeps : (c : ℕ) → Kept c (escape true c)
unfolding escape plain
escape-keeps c =
    at c 0x26 (other refl refl) (λ e1. at c 0x3c (other refl refl) (λ e2. at c 0x3e (other refl refl) (λ e3. at c 0xd (other refl refl)
    (λ e4. at c 0x27 (other refl refl) (λ e5. at c 0xa (other refl refl) (λ e6. at c 0x9 (other refl refl)
    (λ e7. simp (e1, e2, e3, e4, e5, e6, e7) as_is)))))))

high : (b : ℕ) → 0x80 ≤ b → plain b ≡ false
unfolding plain
high b h = rw (lt-leb b 0x39 (omega arith), ne_eqb b 0x2d (λ e. omega arith), ne_eqb b 0x2e (λ e. omega arith)) (and_none (leb 0x30 b))
  where
    and_none : (a : Bool) → (a && false) || (false || false) ≡ false
    and_none true = refl
    and_none false = refl

either : {c : ℕ} (a : Bool) (t u : Text) → Kept c t → Kept c u → Kept c (pick a t u)
either true t u h k = h
either false t u h k = k

utf8-keeps : (c : ℕ) → Kept c (utf8 c)
unfolding utf8
utf8-keeps c = ⊎_elim (λ e. rw e as_is) (λ e. rw e (wide (high c (ltb-false c 0x80 e)))) (look (ltb c 0x80))
  where
    two : Text
    two = (0xc0 + c / 64) ∷ (0x80 + c % 64) ∷ []

    three : Text
    three = (0xe0 + c / 4096) ∷ (0x80 + c / 64 % 64) ∷ (0x80 + c % 64) ∷ []

    four : Text
    four = (0xf0 + c / 262144) ∷ (0x80 + c / 4096 % 64) ∷ (0x80 + c / 64 % 64) ∷ (0x80 + c % 64) ∷ []

    wide : plain c ≡ false → Kept c (pick (ltb c 0x800) two (pick (ltb c 0x10000) three four))
    wide p =
        either (ltb c 0x800) two (pick (ltb c 0x10000) three four) (other p (high (0xc0 + c / 64) (omega arith)))
        (either (ltb c 0x10000) three four (other p (high (0xe0 + c / 4096) (omega arith))) (other p (high (0xf0 + c / 262144) (omega arith))))

-- 4. Both, one after the other.
utf8s-is : (t : Text) → utf8s t ≡ concat_map utf8 t
unfolding utf8s
utf8s-is [] = refl
utf8s-is (c ∷ t) = ap (λ (u : Text). utf8 c ++ u) (utf8s-is t)

plain-quoted : (v : Text) → T (all plain v) → quoted v ≡ v
plain-quoted v h =
    let e = plain-same (escape true) escape-keeps v h in
    ap utf8s e ∙ utf8s-is v ∙ plain-same utf8 utf8-keeps v h

quoted-plain : (v : Text) → T (all plain (quoted v)) → quoted v ≡ v
quoted-plain v h =
    let u = concat_map (escape true) v in
    let k : T (all plain (concat_map utf8 u)) = subst (λ (t : Text). T (all plain t)) (utf8s-is u) h in
    let e = written_same utf8 utf8-keeps u k in
    utf8s-is u ∙ e ∙ written_same (escape true) escape-keeps v (subst (λ (t : Text). T (all plain t)) e k)

pub bare : (v : Text) (d : Decimal) → Spells v d → quoted v ≡ v
bare v d s = plain-quoted v (spelt-plain v d s)

pub attribute : (v : Text) (d : Decimal) → Spells (quoted v) d ↔ Spells v d
attribute v d = (
  λ s. subst (λ (t : Text). Spells t d) (quoted-plain v (spelt-plain (quoted v) d s)) s,
  λ s. subst (λ (t : Text). Spells t d) (sym (bare v d s)) s,
)
