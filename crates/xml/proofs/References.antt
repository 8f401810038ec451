-- What a parser reads is one text: a reference ends at its semicolon and names one character.
use mathlib.Core.Path.{◌≡◌, refl, sym, subst, ap, ◌∙◌}
use mathlib.Core.Bool.{Bool, true, false, not}
use mathlib.Core.List.{[], ◌∷◌, ◌++◌}
use Prim.Native.Nat.{ℕ, ◌<◌}
use native.Mathlib.Omega.{arith}
use lib.Dec.{T, eqb}
use borrow.Author.Tests.{eq-eqb}
use Rattle.text.specs.Lists.{Text, chars, pick, all, among, same}
use Rattle.text.proofs.Tests.{clash, and_left, and_right}
use Rattle.xml.specs.References.{Reference, amp, lt, gt, apos, quot, tab, lf, cr, bare, delimiters, ReadsAs, r-end, r-reference, r-bare}

-- the character by the name
unfoldable named : Text → ℕ
named n =
    pick (same n (chars "amp")) 0x26
    (pick (same n (chars "lt")) 0x3c
    (pick (same n (chars "gt")) 0x3e
    (pick (same n (chars "apos")) 0x27
    (pick (same n (chars "quot")) 0x22
    (pick (same n (chars "#x9")) 0x9
    (pick (same n (chars "#xA")) 0xa 0xd))))))

names : {n : Text} {c : ℕ} → Reference n c → named n ≡ c
unfolding named
names amp = refl
names lt = refl
names gt = refl
names apos = refl
names quot = refl
names tab = refl
names lf = refl
names cr = refl

pub one-character : {n m : Text} {c d : ℕ} → Reference n c → Reference m d → n ≡ m → c ≡ d
one-character x y e = sym (names x) ∙ ap named e ∙ names y

-- a character that has a reference is ASCII
pub reference-small : {n : Text} {c : ℕ} → Reference n c → c < 0x80
reference-small amp = omega arith
reference-small lt = omega arith
reference-small gt = omega arith
reference-small apos = omega arith
reference-small quot = omega arith
reference-small tab = omega arith
reference-small lf = omega arith
reference-small cr = omega arith

-- a character other than k
abbrev pub other : ℕ → ℕ → Bool
other k b = not (eqb b k)

-- no character of a name is a semicolon
pub no-semicolon : {n : Text} {c : ℕ} → Reference n c → T (all (other 0x3b) n)
no-semicolon amp = tt
no-semicolon lt = tt
no-semicolon gt = tt
no-semicolon apos = tt
no-semicolon quot = tt
no-semicolon tab = tt
no-semicolon lf = tt
no-semicolon cr = tt

not-other : (k b : ℕ) → b ≡ k → T (other k b) → ⊥
not-other k b e h = go (eqb b k) (eq-eqb b k e) h
  where
    go : (x : Bool) → x ≡ true → T (not x) → ⊥
    go true e h = h
    go false e h = clash refl e

-- a text up to the first k, and what follows, are told by the whole
pub same_parts : (k : ℕ) (n m t s : Text) → T (all (other k) n) → T (all (other k) m) → n ++ k ∷ t ≡ m ++ k ∷ s → (n ≡ m) × (t ≡ s)
same_parts k [] [] t s h l e = (refl, cc)
same_parts k [] (b ∷ m) t s h l e = absurd (not-other k b (cc) (and_left (other k b) (all (other k) m) l))
same_parts k (b ∷ n) [] t s h l e = absurd (not-other k b (cc) (and_left (other k b) (all (other k) n) h))
same_parts k (b ∷ n) (d ∷ m) t s h l e =
    let f : n ++ k ∷ t ≡ m ++ k ∷ s = cc in
    let g : b ≡ d = cc in
    let r = same_parts k n m t s (and_right (other k b) (all (other k) n) h) (and_right (other k d) (all (other k) m) l) f in
    let p = r.0 in
    (cc, r.1)

not-bare : (v : Bool) (c : ℕ) → c ≡ 0x26 → T (not (among c (delimiters v))) → ⊥
not-bare true c e h = subst (λ (d : ℕ). T (not (among d (delimiters true)))) e h
not-bare false c e h = subst (λ (d : ℕ). T (not (among d (delimiters false)))) e h

read_alike : (v : Bool) {t s u w : Text} → ReadsAs v t u → ReadsAs v s w → t ≡ s → u ≡ w
read_alike v r-end r-end e = refl
read_alike v r-end (r-reference k r) e = let z : ◌≡◌ {A = ℕ} 0 1 = cc in absurd (omega arith)
read_alike v r-end (r-bare h r) e = let z : ◌≡◌ {A = ℕ} 0 1 = cc in absurd (omega arith)
read_alike v (r-reference k q) r-end e = let z : ◌≡◌ {A = ℕ} 0 1 = cc in absurd (omega arith)
read_alike v (r-reference {n = n} {t = t} k q) (r-reference {n = m} {t = s} l r) e =
    let f : n ++ 0x3b ∷ t ≡ m ++ 0x3b ∷ s = cc in
    let p = same_parts 0x3b n m t s (no-semicolon k) (no-semicolon l) f in
    let c = one-character k l p.0 in
    let u = read_alike v q r p.1 in
    cc
read_alike v (r-reference k q) (r-bare {c = c} h r) e = let g : c ≡ 0x26 = cc in absurd (not-bare v c g h)
read_alike v (r-bare h q) r-end e = let z : ◌≡◌ {A = ℕ} 0 1 = cc in absurd (omega arith)
read_alike v (r-bare {c = c} h q) (r-reference l r) e = let g : c ≡ 0x26 = cc in absurd (not-bare v c g h)
read_alike v (r-bare {t = t} {c = c} h q) (r-bare {t = s} {c = d} k r) e =
    let f : t ≡ s = cc in
    let g : c ≡ d = cc in
    let u = read_alike v q r f in
    let b : bare v c ≡ bare v d = ap (bare v) g in
    cc

pub read-once : (v : Bool) {t u w : Text} → ReadsAs v t u → ReadsAs v t w → u ≡ w
read-once v q r = read_alike v q r refl
