-- What 18 and 19 leave are characters: their UTF-8 is as defined.
use mathlib.Core.Path.{◌≡◌, refl, ◌∙◌}
use mathlib.Core.Bool.{Bool, true, false, not, ◌&&◌, ◌||◌}
use mathlib.Core.List.{List, [], ◌∷◌, ◌++◌}
use Prim.Native.Nat.{ℕ}
use native.Mathlib.Omega.{arith}
use lib.Dec.{leb}
use borrow.Author.Tests.{leb-true, le-leb}
use Rattle.text.specs.Lists.{Text, chars, any, all, concat_map, Span, span, inside}
use Rattle.text.specs.Utf8.{utf8s}
use Rattle.tree.specs.Tokens.{capped}
use Rattle.xml.specs.Names.{xml_char, name_start, name_char, xml_name}
use Rattle.xml.specs.Document.{Xml, none, char, attr, elem, misnamed, unwritable}
use Rattle.xml.specs.Bytes.{escape, attributes, content, closed, state}
use Rattle.xml.specs.References.{Reference, amp, lt, gt, apos, quot, tab, lf, cr}
use Rattle.xml.proofs.Escapes.{Escaped, as-reference, as-itself, escaped}
use Rattle.encode.specs.Out.{enc}

-- no number of a text is above all characters
abbrev pub ok : Text → Bool
ok t = all (λ c. leb c 0x110000) t

pub enc_ok : (t : Text) → ok t ≡ true → enc t ≡ utf8s t
unfolding enc utf8s
enc_ok [] h = refl
enc_ok (c ∷ cs) h =
    let b = leb-true c 0x110000 (left (leb c 0x110000) (ok cs) h) in
    let e : capped c ≡ c = omega arith in
    rw (e, enc_ok cs (right (leb c 0x110000) (ok cs) h))
  where
    left : (a b : Bool) → (a && b) ≡ true → a ≡ true
    left true b h = refl
    left false b h = h

    right : (a b : Bool) → (a && b) ≡ true → b ≡ true
    right true b h = h
    right false b h = absurd (let z : ◌≡◌ {A = ℕ} 0 1 = cc in omega arith)

both : (a b : Bool) → a ≡ true → b ≡ true → (a && b) ≡ true
both true b p q = q
both false b p q = p

pub ok-append : (xs ys : Text) → ok xs ≡ true → ok ys ≡ true → ok (xs ++ ys) ≡ true
ok-append [] ys p q = q
ok-append (x ∷ xs) ys p q = go (leb x 0x110000) (ok xs) (ok (xs ++ ys)) (λ h. ok-append xs ys h q) p
  where
    go : (a b c : Bool) → (b ≡ true → c ≡ true) → (a && b) ≡ true → (a && c) ≡ true
    go true b c f h = f h
    go false b c f h = h

neither : (a b : Bool) → (a || b) ≡ false → (a ≡ false) × (b ≡ false)
neither true b h = absurd (let z : ◌≡◌ {A = ℕ} 0 1 = cc in omega arith)
neither false b h = (refl, h)

not-false : (a : Bool) → not a ≡ false → a ≡ true
not-false true h = refl
not-false false h = absurd (let z : ◌≡◌ {A = ℕ} 0 1 = cc in omega arith)

-- a character of spans that end below
spans : (c : ℕ) (ss : List Span) → all (λ s. leb s.to 0x110000) ss ≡ true → any (inside c) ss ≡ true → leb c 0x110000 ≡ true
spans c [] l h = absurd (let z : ◌≡◌ {A = ℕ} 0 1 = cc in omega arith)
spans c (s ∷ ss) l h = go (leb s.to 0x110000) (all (λ s. leb s.to 0x110000) ss) refl l (leb s.from c) (leb c s.to) refl (any (inside c) ss) h (λ a b. spans c ss a b)
  where
    go : (a rs : Bool) → leb s.to 0x110000 ≡ a → (a && rs) ≡ true → (f t : Bool) → leb c s.to ≡ t → (b : Bool)
        → ((f && t) || b) ≡ true → (rs ≡ true → b ≡ true → leb c 0x110000 ≡ true) → leb c 0x110000 ≡ true
    go false rs e l f t q b h k = absurd (let z : ◌≡◌ {A = ℕ} 0 1 = cc in omega arith)
    go true rs e l true true q b h k = le-leb c 0x110000 (omega (arith, leb-true s.to 0x110000 e, leb-true c s.to q))
    go true rs e l true false q b h k = k l h
    go true rs e l false t q b h k = k l h

xml-ok : (c : ℕ) → xml_char c ≡ true → leb c 0x110000 ≡ true
unfolding xml_char
xml-ok c h = spans c (span 0x9 0xa ∷ span 0xd 0xd ∷ span 0x20 0xd7ff ∷ span 0xe000 0xfffd ∷ span 0x10000 0x10ffff ∷ []) refl h

start-ok : (c : ℕ) → name_start c ≡ true → leb c 0x110000 ≡ true
unfolding name_start
start-ok c h =
    spans c (span 0x3a 0x3a ∷ span 0x41 0x5a ∷ span 0x5f 0x5f ∷ span 0x61 0x7a ∷ span 0xc0 0xd6 ∷ span 0xd8 0xf6 ∷ span 0xf8 0x2ff ∷ span
    0x370 0x37d ∷ span 0x37f 0x1fff ∷ span 0x200c 0x200d ∷ span 0x2070 0x218f ∷ span 0x2c00 0x2fef ∷ span 0x3001 0xd7ff ∷ span 0xf900 0xfdcf
    ∷ span 0xfdf0 0xfffd ∷ span 0x10000 0xeffff ∷ []) refl h

part-ok : (c : ℕ) → name_char c ≡ true → leb c 0x110000 ≡ true
unfolding name_char
part-ok c h = go (name_start c) refl (any (inside c) (span 0x2d 0x2e ∷ span 0x30 0x39 ∷ span 0xb7 0xb7 ∷ span 0x300 0x36f ∷ span 0x203f 0x2040 ∷ [])) refl h
  where
    go : (a : Bool) → name_start c ≡ a → (b : Bool) → any (inside c)
        (span 0x2d 0x2e ∷ span 0x30 0x39 ∷ span 0xb7 0xb7 ∷ span 0x300 0x36f ∷ span 0x203f 0x2040 ∷ []) ≡ b → (a || b) ≡ true
        → leb c 0x110000 ≡ true
    go true p b q h = start-ok c p
    go false p b q h = spans c (span 0x2d 0x2e ∷ span 0x30 0x39 ∷ span 0xb7 0xb7 ∷ span 0x300 0x36f ∷ span 0x203f 0x2040 ∷ []) refl (q ∙ h)

parts-ok : (cs : Text) → all name_char cs ≡ true → ok cs ≡ true
parts-ok [] h = refl
parts-ok (c ∷ cs) h = go (name_char c) refl (all name_char cs) refl h (λ e. parts-ok cs e)
  where
    go : (a : Bool) → name_char c ≡ a → (b : Bool) → all name_char cs ≡ b → (a && b) ≡ true → (all name_char cs ≡ true → ok cs ≡ true) → ok (c ∷ cs) ≡ true
    go true p b q h k = both (leb c 0x110000) (ok cs) (part-ok c p) (k (q ∙ h))
    go false p b q h k = absurd (let z : ◌≡◌ {A = ℕ} 0 1 = cc in omega arith)

name-ok : (n : Text) → xml_name n ≡ true → ok n ≡ true
unfolding xml_name
name-ok [] h = refl
name-ok (c ∷ cs) h = go (name_start c) refl (all name_char cs) refl h
  where
    go : (a : Bool) → name_start c ≡ a → (b : Bool) → all name_char cs ≡ b → (a && b) ≡ true → ok (c ∷ cs) ≡ true
    go true p b q h = both (leb c 0x110000) (ok cs) (start-ok c p) (parts-ok cs (q ∙ h))
    go false p b q h = absurd (let z : ◌≡◌ {A = ℕ} 0 1 = cc in omega arith)

reference-ok : {n : Text} {c : ℕ} → Reference n c → ok (0x26 ∷ (n ++ 0x3b ∷ [])) ≡ true
reference-ok amp = refl
reference-ok lt = refl
reference-ok gt = refl
reference-ok apos = refl
reference-ok quot = refl
reference-ok tab = refl
reference-ok lf = refl
reference-ok cr = refl

escape-ok : (v : Bool) (c : ℕ) → leb c 0x110000 ≡ true → ok (escape v c) ≡ true
escape-ok v c h = go (escaped v c)
  where
    go : {t : Text} → Escaped v c t → ok t ≡ true
    go (as-reference k) = reference-ok k
    go (as-itself e) = both (leb c 0x110000) true h refl

value-ok : (cs : Text) → any (λ c. not (xml_char c)) cs ≡ false → ok (concat_map (escape true) cs) ≡ true
value-ok [] h = refl
value-ok (c ∷ cs) h =
    let n = neither (not (xml_char c)) (any (λ c. not (xml_char c)) cs) h in
    ok-append (escape true c) (concat_map (escape true) cs) (escape-ok true c (xml-ok c (not-false (xml_char c) n.0))) (value-ok cs n.1)

pub attributes-ok : (x : Xml) → misnamed x ≡ false → unwritable x ≡ false → ok (attributes x) ≡ true
unfolding misnamed unwritable
attributes-ok none p q = refl
attributes-ok (char c x) p q = attributes-ok x p (neither (not (xml_char c)) (unwritable x) q).1
attributes-ok (attr n v x) p q =
    let a = neither (not (xml_name n)) (misnamed x) p in
    let b = neither (any (λ c. not (xml_char c)) v) (unwritable x) q in
    let N = name-ok n (not-false (xml_name n) a.0) in
    let w = concat_map (escape true) v in
    ok-append (chars " " ++ n ++ chars "='" ++ w ++ chars "'") (attributes x)
    (ok-append (chars " " ++ n ++ chars "='" ++ w) (chars "'")
    (ok-append (chars " " ++ n ++ chars "='") w (ok-append (chars " " ++ n) (chars "='") (ok-append (chars " ") n refl N) refl)
    (value-ok v b.0)) refl)
    (attributes-ok x a.1 b.1)
attributes-ok (elem n i x) p q =
    let a = neither (not (xml_name n) || misnamed i) (misnamed x) (or-first (not (xml_name n)) (misnamed i) (misnamed x) p) in
    attributes-ok x a.1 (neither (unwritable i) (unwritable x) q).1
  where
    or-first : (a b c : Bool) → (a || b || c) ≡ false → ((a || b) || c) ≡ false
    or-first true b c h = h
    or-first false b c h = h

closed-ok : (n t : Text) → ok n ≡ true → ok t ≡ true → ok (closed n t) ≡ true
closed-ok n [] p q = refl
closed-ok n (c ∷ cs) p q =
    ok-append (chars ">" ++ (c ∷ cs) ++ chars "</" ++ n) (chars ">")
    (ok-append (chars ">" ++ (c ∷ cs) ++ chars "</") n
    (ok-append (chars ">" ++ (c ∷ cs)) (chars "</") (ok-append (chars ">") (c ∷ cs) refl q) refl) p) refl

three : (a b c : Bool) → (a || b || c) ≡ false → (a ≡ false) × (b ≡ false) × (c ≡ false)
three true b c h = absurd (let z : ◌≡◌ {A = ℕ} 0 1 = cc in omega arith)
three false true c h = absurd (let z : ◌≡◌ {A = ℕ} 0 1 = cc in omega arith)
three false false c h = (refl, refl, h)

pub content-ok : (x : Xml) → misnamed x ≡ false → unwritable x ≡ false → ok (content x) ≡ true
unfolding misnamed unwritable
content-ok none p q = refl
content-ok (char c x) p q =
    let b = neither (not (xml_char c)) (unwritable x) q in
    ok-append (escape false c) (content x) (escape-ok false c (xml-ok c (not-false (xml_char c) b.0))) (content-ok x p b.1)
content-ok (attr n v x) p q = content-ok x (neither (not (xml_name n)) (misnamed x) p).1 (neither (any (λ c. not (xml_char c)) v) (unwritable x) q).1
content-ok (elem n i x) p q =
    let a = three (not (xml_name n)) (misnamed i) (misnamed x) p in
    let b = neither (unwritable i) (unwritable x) q in
    let N = name-ok n (not-false (xml_name n) a.0) in
    ok-append (chars "<" ++ n ++ attributes i ++ closed n (content i)) (content x)
    (ok-append (chars "<" ++ n ++ attributes i) (closed n (content i))
    (ok-append (chars "<" ++ n) (attributes i) (ok-append (chars "<") n refl N) (attributes-ok i a.1 b.0))
    (closed-ok n (content i) N (content-ok i a.1 b.0)))
    (content-ok x a.2 b.1)

state-ok : (a b : Bool) → ok (state a b) ≡ true
state-ok true true = refl
state-ok true false = refl
state-ok false true = refl
state-ok false false = refl

-- the document element
pub element-ok : (a b : Bool) (n : Text) (i x : Xml) → misnamed (elem n i x) ≡ false → unwritable (elem n i x) ≡ false
    → ok (chars "<" ++ n ++ state a b ++ attributes i ++ closed n (content i)) ≡ true
unfolding misnamed unwritable
element-ok a b n i x p q =
    let m = three (not (xml_name n)) (misnamed i) (misnamed x) p in
    let u = neither (unwritable i) (unwritable x) q in
    let N = name-ok n (not-false (xml_name n) m.0) in
    ok-append (chars "<" ++ n ++ state a b ++ attributes i) (closed n (content i))
    (ok-append (chars "<" ++ n ++ state a b) (attributes i) (ok-append (chars "<" ++ n) (state a b) (ok-append (chars "<") n refl N) (state-ok a b)) (attributes-ok i m.1 u.0))
    (closed-ok n (content i) N (content-ok i m.1 u.0))
