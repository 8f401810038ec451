-- The step calls bytes cut short exactly where they begin the encoding of a scalar value and end inside it.
use mathlib.Core.Path.{◌≡◌, refl, sym, ap, ◌∙◌}
use mathlib.Core.Logic.{⊎_elim}
use mathlib.Core.Bool.{Bool, true, false}
use mathlib.Core.List.{List, [], ◌∷◌, ◌++◌, append-nil}
use Prim.{Unit, tt}
use Prim.Native.Nat.{ℕ, zero, suc, ◌+◌, ◌*◌, ◌-◌, ◌≤◌, ◌<◌}
use native.Mathlib.Omega.{arith}
use lib.Dec.{eqb}
use lib.ListN.{length, length-append}
use borrow.Author.Tests.{lt-ltb, le-ltb, eqb-false}
use Rattle.text.specs.Lists.{pick}
use Rattle.text.specs.Utf8.{utf8}
use Rattle.text.specs.Decode.{Taken, got, cut, bad, rest_of, char_of}
use Rattle.text.specs.Faults.{Cut}
use Rattle.text.proofs.Tests.{split}
use Rattle.text.proofs.Step.{step-complete, step-sound}
use Rattle.decode.specs.declared.sequence.Sequence.{Sequence}
use Rattle.decode.specs.Sequence.{lead_of}
use Rattle.decode.proofs.Bytes.{by_first, sane}

-- more bytes after them change nothing but what is left, unless they were cut short
abbrev Grown : List ℕ → Taken → Taken → Type 0
Grown t (got c k u) o = o ≡ got c k (u ++ t)
Grown t cut o = Unit {0}
Grown t bad o = o ≡ bad

rest-grown : (m lo hi v n : ℕ) (bs t : List ℕ) → Grown t (rest_of m lo hi v n bs) (rest_of m lo hi v n (bs ++ t))
unfolding rest_of
rest-grown zero lo hi v n bs t = refl
rest-grown (suc m) lo hi v n [] t = tt
rest-grown (suc m) lo hi v n (b ∷ bs) t =
    ⊎_elim (λ p. rw (lt-ltb b lo p) refl)
    (λ p. ⊎_elim (λ q. rw (le-ltb b lo p, lt-ltb hi b q) refl)
    (λ q. rw (le-ltb b lo p, le-ltb hi b q) (rest-grown m 0x80 0xbf (v * 64 + (b - 0x80)) (n + 1) bs t)) (split hi b)) (split b lo)

char-grown : (bs t : List ℕ) → Grown t (char_of bs) (char_of (bs ++ t))
unfolding char_of
char-grown [] t = tt
char-grown (b ∷ bs) t = rw (by_first b bs, by_first b (bs ++ t)) (by (eqb s.more 4) _ _ (rest-grown s.more s.low s.high s.bits 1 bs t))
  where
    s : Sequence
    s = lead_of b

    by : (q : Bool) (x y : Taken) → Grown t x y → Grown t (pick q bad x) (pick q bad y)
    by true x y g = refl
    by false x y g = g

pub cut_step : (bs : List ℕ) → Cut bs → char_of bs ≡ cut
cut_step bs w = go (char_of bs) (rw full at (char-grown bs w.missing))
  where
    full : char_of (bs ++ w.missing) ≡ got w.char (length (utf8 w.char)) []
    full = ap char_of (sym w.spelt ∙ sym (append-nil (utf8 w.char))) ∙ step-complete w.char [] w.scalar

    go : (o : Taken) → Grown w.missing o (got w.char (length (utf8 w.char)) []) → o ≡ cut
    go (got d k u) g =
        let f : [] ≡ u ++ w.missing = cc in
        let h : 0 ≡ length u + length w.missing = ap length f ∙ length-append u w.missing in
        let s = w.some in
        absurd (omega arith)
    go cut g = refl
    go bad g = let z : ◌≡◌ {A = ℕ} 0 1 = cc in absurd (omega arith)

-- bytes that complete it
record Full (m lo hi v n : ℕ) (bs : List ℕ) : Type 0 where
  pub more : List ℕ
  pub some : 0 < length more
  pub c : ℕ
  pub k : ℕ
  pub is : rest_of m lo hi v n (bs ++ more) ≡ got c k []

rest-on : (m lo hi v n b : ℕ) (bs : List ℕ) → lo ≤ b → b ≤ hi → rest_of (suc m) lo hi v n (b ∷ bs) ≡ rest_of m 0x80 0xbf (v * 64 + (b - 0x80)) (n + 1) bs
unfolding rest_of
rest-on m lo hi v n b bs p q = simp (le-ltb b lo p, le-ltb hi b q)

filled : (m lo hi v n : ℕ) → lo ≤ hi → Full (suc m) lo hi v n []
unfolding rest_of
filled zero lo hi v n p =
    record { more = lo ∷ []; some = omega arith; c = v * 64 + (lo - 0x80); k = n + 1; is = rest-on zero lo hi v n lo [] (omega arith) p }
filled (suc m) lo hi v n p =
    let w = filled m 0x80 0xbf (v * 64 + (lo - 0x80)) (n + 1) (omega arith) in
    record { more = lo ∷ w.more; some = omega arith; c = w.c; k = w.k; is = rest-on (suc m) lo hi v n lo w.more (omega arith) p ∙ w.is }

rest-filled : (m lo hi v n : ℕ) (bs : List ℕ) → lo ≤ hi → rest_of m lo hi v n bs ≡ cut → Full m lo hi v n bs
unfolding rest_of
rest-filled zero lo hi v n bs p e = let z : ◌≡◌ {A = ℕ} 0 1 = cc in absurd (omega arith)
rest-filled (suc m) lo hi v n [] p e = filled m lo hi v n p
rest-filled (suc m) lo hi v n (b ∷ bs) p e =
    ⊎_elim (λ q. let f = rw (lt-ltb b lo q) at e in let z : ◌≡◌ {A = ℕ} 0 1 = cc in absurd (omega arith))
    (λ q. ⊎_elim (λ r. let f = rw (le-ltb b lo q, lt-ltb hi b r) at e in let z : ◌≡◌ {A = ℕ} 0 1 = cc in absurd (omega arith))
    (λ r.
    let w = rest-filled m 0x80 0xbf (v * 64 + (b - 0x80)) (n + 1) bs (omega arith) (rw (le-ltb b lo q, le-ltb hi b r) at e) in
    record { more = w.more; some = w.some; c = w.c; k = w.k; is = rest-on m lo hi v n b (bs ++ w.more) q r ∙ w.is })
    (split hi b)) (split b lo)

pub step_cut : (bs : List ℕ) → 0 < length bs → char_of bs ≡ cut → Cut bs
unfolding char_of
step_cut [] l e = absurd (omega arith)
step_cut (b ∷ bs) l e = go (eqb (lead_of b).more 4) refl (sym (by_first b bs) ∙ e)
  where
    rest : List ℕ → Taken
    rest t = rest_of (lead_of b).more (lead_of b).low (lead_of b).high (lead_of b).bits 1 t

    go : (q : Bool) → eqb (lead_of b).more 4 ≡ q → pick q bad (rest bs) ≡ cut → Cut (b ∷ bs)
    go true f e = let z : ◌≡◌ {A = ℕ} 0 1 = cc in absurd (omega arith)
    go false f e =
        let w = rest-filled (lead_of b).more (lead_of b).low (lead_of b).high (lead_of b).bits 1 bs (sane b (eqb-false (lead_of b).more 4 f)).order e in
        let x = step-sound (b ∷ (bs ++ w.more)) w.c w.k [] (by_first b (bs ++ w.more) ∙ rw f w.is) in
        record { char = w.c; missing = w.more; scalar = x.scalar; some = w.some; spelt = sym (append-nil (utf8 w.c)) ∙ sym x.spelt }
