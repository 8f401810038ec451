-- What stands between the tags is one text.
use mathlib.Core.Path.{◌≡◌, refl, subst}
use mathlib.Core.Bool.{Bool, true, false, not}
use mathlib.Core.List.{List, ◌∷◌, ◌++◌}
use Prim.Native.Nat.{ℕ}
use native.Mathlib.Omega.{arith}
use lib.Dec.{T}
use Rattle.text.specs.Lists.{chars, among}
use Rattle.xml.proofs.References.{same_parts, no-semicolon, one-character}
use Rattle.audit.specs.Audit.{Between, b_end, b-tag, b-reference, b-byte}

not_byte : (b k : ℕ) → b ≡ k → T (among k (chars "<&")) → T (not (among b (chars "<&"))) → ⊥
not_byte b k e m h = go (among k (chars "<&")) m (subst (λ (d : ℕ). T (not (among d (chars "<&")))) e h)
  where
    go : (x : Bool) → T x → T (not x) → ⊥
    go true m h = h
    go false m h = m

alike : {t s u w : List ℕ} → Between t u → Between s w → t ≡ s → u ≡ w
alike b_end b_end e = refl
alike b_end (b-tag m l r) e = let z : ◌≡◌ {A = ℕ} 0 1 = cc in absurd (omega arith)
alike b_end (b-reference l r) e = let z : ◌≡◌ {A = ℕ} 0 1 = cc in absurd (omega arith)
alike b_end (b-byte l r) e = let z : ◌≡◌ {A = ℕ} 0 1 = cc in absurd (omega arith)
alike (b-tag n h q) b_end e = let z : ◌≡◌ {A = ℕ} 0 1 = cc in absurd (omega arith)
alike (b-tag n {t = t} h q) (b-tag m {t = s} l r) e =
    let f : n ++ 0x3e ∷ t ≡ m ++ 0x3e ∷ s = cc in
    alike q r (same_parts 0x3e n m t s h l f).1
alike (b-tag n h q) (b-reference l r) e = let z : ◌≡◌ {A = ℕ} 0x3c 0x26 = cc in absurd (omega arith)
alike (b-tag n h q) (b-byte {b = b} l r) e = let g : b ≡ 0x3c = cc in absurd (not_byte b 0x3c g tt l)
alike (b-reference k q) b_end e = let z : ◌≡◌ {A = ℕ} 0 1 = cc in absurd (omega arith)
alike (b-reference k q) (b-tag m l r) e = let z : ◌≡◌ {A = ℕ} 0x26 0x3c = cc in absurd (omega arith)
alike (b-reference {n = n} {t = t} k q) (b-reference {n = m} {t = s} l r) e =
    let f : n ++ 0x3b ∷ t ≡ m ++ 0x3b ∷ s = cc in
    let p = same_parts 0x3b n m t s (no-semicolon k) (no-semicolon l) f in
    let c = one-character k l p.0 in
    let u = alike q r p.1 in
    cc
alike (b-reference k q) (b-byte {b = b} l r) e = let g : b ≡ 0x26 = cc in absurd (not_byte b 0x26 g tt l)
alike (b-byte h q) b_end e = let z : ◌≡◌ {A = ℕ} 0 1 = cc in absurd (omega arith)
alike (b-byte {b = b} h q) (b-tag m l r) e = let g : b ≡ 0x3c = cc in absurd (not_byte b 0x3c g tt h)
alike (b-byte {b = b} h q) (b-reference l r) e = let g : b ≡ 0x26 = cc in absurd (not_byte b 0x26 g tt h)
alike (b-byte {b = b} {t = t} h q) (b-byte {b = d} {t = s} l r) e =
    let f : t ≡ s = cc in
    let g : b ≡ d = cc in
    let u = alike q r f in
    cc

pub one-text : {t u w : List ℕ} → Between t u → Between t w → u ≡ w
one-text q r = alike q r refl
