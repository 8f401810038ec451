-- The bytes of a row's attributes and contents are at most what is counted.
use mathlib.Core.Path.{◌≡◌, refl, sym, subst, ap, ◌∙◌}
use mathlib.Core.Logic.{⊎_elim}
use mathlib.Core.Bool.{Bool, true, false}
use mathlib.Core.List.{List, [], ◌∷◌, ◌++◌}
use Prim.Native.Nat.{ℕ, ◌+◌, ◌*◌, ◌/◌, ◌%◌, ◌≤◌}
use native.Mathlib.Omega.{arith}
use lib.Dec.{ltb, eqb}
use borrow.Author.Tests.{eqb-true}
use Rattle.text.proofs.Tests.{look}
use lib.ListN.{length, length-append}
use Rattle.text.specs.Lists.{Text, chars, pick, concat_map}
use Rattle.text.specs.Utf8.{utf8}
use Rattle.tree.specs.Tokens.{capped}
use Rattle.xml.specs.Document.{Xml, none, char, attr, elem, attribute_names, twice}
use Rattle.xml.specs.Bytes.{escape, attributes, content, closed, state}
use Rattle.xml.specs.References.{Reference, amp, lt, gt, apos, quot, tab, lf, cr}
use Rattle.xml.proofs.Escapes.{Escaped, as-reference, as-itself, escaped}
use Rattle.encode.specs.Out.{enc}
use Rattle.encode.proofs.Puts.{enc-append, enc-one}
use Rattle.extent.specs.Extent.{size, tag, most_of, attributes_of}

pub size-append : (xs ys : Text) → size (xs ++ ys) ≡ size xs + size ys
size-append xs ys = ap length (enc-append xs ys) ∙ length-append (enc xs) (enc ys)

-- a character
four : (a b c : Bool) (w x y z : List ℕ) → length w ≡ 1 → length x ≡ 2 → length y ≡ 3 → length z ≡ 4 → length (pick a w (pick b x (pick c y z))) ≤ 4
four true b c w x y z p q r s = omega arith
four false true c w x y z p q r s = omega arith
four false false true w x y z p q r s = omega arith
four false false false w x y z p q r s = omega arith

pub char-size : (c : ℕ) → size (c ∷ []) ≤ 4
unfolding utf8
char-size c =
    let e = ap length (enc-one c) in
    let d = capped c in
    omega (
      arith,
      e,
      four (ltb d 0x80) (ltb d 0x800) (ltb d 0x10000) (d ∷ []) ((0xc0 + d / 64) ∷ (0x80 + d % 64) ∷ [])
          ((0xe0 + d / 4096) ∷ (0x80 + d / 64 % 64) ∷ (0x80 + d % 64) ∷ [])
          ((0xf0 + d / 262144) ∷ (0x80 + d / 4096 % 64) ∷ (0x80 + d / 64 % 64) ∷ (0x80 + d % 64) ∷ []) refl refl refl refl,
    )

pub text-size : (t : Text) → size t ≤ 4 * length t
unfolding enc
text-size [] = omega arith
text-size (c ∷ cs) = omega (arith, size-append (c ∷ []) cs, char-size c, text-size cs)

reference-size : {n : Text} {c : ℕ} → Reference n c → size (0x26 ∷ (n ++ 0x3b ∷ [])) ≤ 6
unfolding enc utf8
reference-size amp = omega arith
reference-size lt = omega arith
reference-size gt = omega arith
reference-size apos = omega arith
reference-size quot = omega arith
reference-size tab = omega arith
reference-size lf = omega arith
reference-size cr = omega arith

pub escape-size : (v : Bool) (c : ℕ) → size (escape v c) ≤ 6
escape-size v c = go (escaped v c)
  where
    go : {t : Text} → Escaped v c t → size t ≤ 6
    go (as-reference k) = reference-size k
    go (as-itself e) = omega (arith, char-size c)

pub escapes-size : (t : Text) → size (concat_map (escape true) t) ≤ 6 * length t
unfolding enc
escapes-size [] = omega arith
escapes-size (c ∷ cs) = omega (arith, size-append (escape true c) (concat_map (escape true) cs), escape-size true c, escapes-size cs)

-- what is written of a character in text takes no more than in a value
in-text-size : (c : ℕ) → size (escape false c) ≤ size (escape true c)
unfolding escape enc utf8
in-text-size c =
    at 0x26 (omega arith) (λ e1. at 0x3c (omega arith) (λ e2. at 0x3e (omega arith) (λ e3. at 0xd (omega arith) (λ e4. at 0x27 (omega arith)
    (λ e5. at 0xa (omega arith) (λ e6. at 0x9 (omega arith) (λ e7. simp (e1, e2, e3, e4, e5, e6, e7) (omega arith))))))))
  where
    Less : ℕ → Type 0
    Less d = size (escape false d) ≤ size (escape true d)

    at : (k : ℕ) → Less k → (eqb c k ≡ false → Less c) → Less c
    at k x f = ⊎_elim (λ e. subst Less (sym (eqb-true c k e)) x) f (look (eqb c k))

closed-size : (n t : Text) → size (closed n t) ≤ size t + 4 * length n + 4
unfolding enc utf8
closed-size n [] = omega arith
closed-size n (c ∷ cs) =
    let t = c ∷ cs in
    let z : size (chars ">") + size (chars "</") + size (chars ">") ≡ 4 = refl in
    omega (
      arith,
      size-append (chars ">" ++ t ++ chars "</" ++ n) (chars ">"),
      size-append (chars ">" ++ t ++ chars "</") n,
      size-append (chars ">" ++ t) (chars "</"),
      size-append (chars ">") t,
      text-size n,
      z,
    )

attribute-size : (n w a : Text) → size (chars " " ++ n ++ chars "='" ++ w ++ chars "'" ++ a) ≤ 4 * length n + 4 + size w + size a
unfolding enc utf8
attribute-size n w a =
    let z : size (chars " ") + size (chars "='") + size (chars "'") ≡ 4 = refl in
    omega (
      arith,
      size-append (chars " " ++ n ++ chars "='" ++ w ++ chars "'") a,
      size-append (chars " " ++ n ++ chars "='" ++ w) (chars "'"),
      size-append (chars " " ++ n ++ chars "='") w,
      size-append (chars " " ++ n) (chars "='"),
      size-append (chars " ") n,
      text-size n,
      z,
    )

pub start-size : (n st a c : Text) → size (chars "<" ++ n ++ st ++ a ++ closed n c) ≤ tag n + size st + size a + size c
unfolding enc utf8
start-size n st a c =
    let z : size (chars "<") ≡ 1 = refl in
    omega (
      arith,
      size-append (chars "<" ++ n ++ st ++ a) (closed n c),
      size-append (chars "<" ++ n ++ st) a,
      size-append (chars "<" ++ n) st,
      size-append (chars "<") n,
      text-size n,
      closed-size n c,
      z,
    )

element-size : (n a c x : Text) → size (chars "<" ++ n ++ a ++ closed n c ++ x) ≤ tag n + size a + size c + size x
unfolding enc utf8
element-size n a c x =
    let z : size (chars "<") ≡ 1 = refl in
    omega (
      arith,
      size-append (chars "<" ++ n ++ a ++ closed n c) x,
      size-append (chars "<" ++ n ++ a) (closed n c),
      size-append (chars "<" ++ n) a,
      size-append (chars "<") n,
      text-size n,
      closed-size n c,
      z,
    )

-- a row
pub row-size : (x : Xml) → size (attributes x) + size (content x) ≤ most_of x
unfolding enc
row-size none = omega arith
row-size (char c x) = omega (arith, size-append (escape false c) (content x), in-text-size c, row-size x)
row-size (attr n v x) = omega (arith, attribute-size n (concat_map (escape true) v) (attributes x), row-size x)
row-size (elem n i x) = omega (arith, element-size n (attributes i) (content i) (content x), row-size i, row-size x)

pub state-size : (a b : Bool) → size (state a b) ≤ 80
unfolding enc utf8
state-size true true = omega arith
state-size true false = omega arith
state-size false true = omega arith
state-size false false = omega arith

-- without attributes
pub no-attributes : (x : Xml) → attributes_of x ≡ 0 → attributes x ≡ []
no-attributes none e = refl
no-attributes (char c x) e = no-attributes x e
no-attributes (attr n v x) e = absurd (omega arith)
no-attributes (elem n i x) e = no-attributes x (omega arith)

pub no_names : (x : Xml) → attributes_of x ≡ 0 → attribute_names x ≡ []
no_names none e = refl
no_names (char c x) e = no_names x e
no_names (attr n v x) e = absurd (omega arith)
no_names (elem n i x) e = no_names x (omega arith)

pub not-twice : (x : Xml) → attributes_of x ≡ 0 → twice x ≡ false
unfolding twice
not-twice none e = refl
not-twice (char c x) e = not-twice x e
not-twice (attr n v x) e = absurd (omega arith)
not-twice (elem n i x) e = rw (no_names i (omega arith), not-twice i (omega arith), not-twice x (omega arith))
