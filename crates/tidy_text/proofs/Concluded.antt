-- What is put into 4,096 bytes, and where it goes from there.
use mathlib.Core.Path.{◌≡◌, refl, ap, ◌∙◌}
use mathlib.Core.Bool.{Bool, true, false}
use mathlib.Core.Logic.{inl, inr, ⊎_elim}
use mathlib.Core.List.{List, [], ◌∷◌, ◌++◌}
use Prim.Native.Nat.{ℕ, suc, ◌+◌, ◌<◌, ◌≤◌, min}
use native.Mathlib.Omega.{arith}
use lib.Dec.{ltb, leb}
use lib.ListN.{length, set, take, drop, length-set}
use lib.Seq.{take-append_seam}
use borrow.Author.Tests.{le-leb, lt-leb}
use Rattle.text.specs.Limits.{grammar_bytes}
use Rattle.text.specs.Lists.{Text, pick}
use Rattle.text.proofs.Tests.{split}
use Rattle.encode.specs.Out.{State, state, puts, enc, Wrote}
use Rattle.encode.proofs.Puts.{room}
use Rattle.tidy_text.specs.Whole.{Written, NotWritten}

-- the place after a byte, in n of which some more are put
record Placed (p q n m : ℕ) : Type 0 where
  within : q ≤ n + 1
  same : min (q + m) (n + 1) ≡ min (p + suc m) (n + 1)

placed : (p n m : ℕ) → p ≤ n + 1 → Placed p (pick (leb p n) (p + 1) p) n m
placed p n m h = ⊎_elim
    (λ (l : p < n + 1). rw (le-leb p n (omega arith)) (record { within = omega arith; same = omega arith }))
    (λ (l : n + 1 ≤ p). rw (lt-leb p n (omega arith)) (record { within = omega arith; same = omega arith }))
    (split p (n + 1))

kept : (o : List ℕ) (p b : ℕ) (t : Bool) → length (pick t (set o p b) o) ≡ length o
kept o p b true = length-set o p b
kept o p b false = refl

-- the place counts, up to after the buffer
counts : (l p : ℕ) (o bs : List ℕ) → p ≤ length o + 1 → (puts l (state p o) bs).pos ≡ min (p + length bs) (length o + 1)
unfolding puts
counts l p o [] h = omega arith
counts l p o (b ∷ bs) h =
    let q = pick (leb p (length o)) (p + 1) p in
    let e : length (pick (ltb p l) (set o p b) o) ≡ length o = kept o p b (ltb p l) in
    let w : Placed p q (length o) (length bs) = placed p (length o) (length bs) h in
    counts l q (pick (ltb p l) (set o p b) o) bs (omega (arith, w.within, e))
    ∙ ap (λ (n : ℕ). min (q + length bs) (n + 1)) e ∙ w.same

-- all that is put, from the first byte on
whole : (l : ℕ) (o bs : List ℕ) → l ≤ length o → length bs ≤ l → (puts l (state 0 o) bs).out ≡ bs ++ drop (length bs) o
whole l o bs h i =
    let e : 0 + length bs ≡ length bs = omega arith in
    ap (λ (s : State). s.out) (room 0 l o bs h (omega arith)) ∙ ap (λ (k : ℕ). bs ++ drop k o) e

module _ {n : ℕ} {o o' : List ℕ} {t : Text} (k : length o ≡ grammar_bytes) (w : Wrote grammar_bytes 0 o n o' t) where
  abbrev bs : List ℕ
  bs = enc t

  count : n ≡ min (0 + length bs) (length o + 1)
  count = ap (λ (s : State). s.pos) w.is ∙ counts grammar_bytes 0 o bs (omega arith)

  pub too_long : (old : List ℕ) → grammar_bytes < n → NotWritten bs old old 28
  too_long old h = record { why = inl (refl, omega (arith, count, k)); buffer = refl }

  module _ (h : n ≤ grammar_bytes) where
    short : length bs ≤ grammar_bytes
    short = omega (arith, count, k)

    count-is : n ≡ length bs
    count-is = omega (arith, count, k)

    pub no_room : (old : List ℕ) → length old < n → NotWritten bs old old 23
    no_room old l = record { why = inr (refl, short, omega (arith, count-is)); buffer = refl }

    part : take n o' ≡ bs
    part =
        let e : o' ≡ bs ++ drop (length bs) o = ap (λ (s : State). s.out) w.is ∙ whole grammar_bytes o bs (omega (arith, k)) short in
        rw (count-is, e) (take-append_seam bs (drop (length bs) o))

    pub written : (m : ℕ) (old new : List ℕ) → n ≤ length old → state m new ≡ puts (length old) (state 0 old) (take n o') → Written bs old new n
    written m old new l e =
        let fits : length bs ≤ length old = omega (arith, count-is) in
        record {
          short = short;
          fits = fits;
          count = count-is;
          buffer = ap (λ (s : State). s.out) (e ∙ ap (puts (length old) (state 0 old)) part) ∙ whole (length old) old bs (omega arith) fits;
        }
