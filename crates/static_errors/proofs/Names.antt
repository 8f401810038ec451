-- Names in a table, looked up.
use mathlib.Core.Path.{◌≡◌, refl, sym, ap, ◌∙◌}
use mathlib.Core.Bool.{Bool, true, false, ◌&&◌, ◌||◌}
use mathlib.Core.List.{List, [], ◌∷◌}
use Prim.Native.Nat.{ℕ, zero, suc, ◌+◌, ◌≤◌, ◌<◌}
use native.Mathlib.Omega.{arith}
use native.Mathlib.Numerals.{add-one}
use lib.Dec.{eqb}
use lib.ListN.{length, get_or, take, drop}
use lib.Seq.{slice, slice-cons, slice_empty}
use borrow.Author.Tests.{eq-eqb, ne_eqb}
use Rattle.text.specs.Lists.{Text, any, same, repeats, chars}
use Rattle.text.proofs.Lists.{same-lengths}
use Rattle.tokens.specs.Names.{name_at, Named}
use Rattle.tokens.proofs.Names.{name-length}
use Rattle.static_errors.specs.Scan.{names_at}

-- where the search of a list is
pub record FoundAt (t : List ℕ) (a : ℕ) (index : List ℕ) (from n i : ℕ) : Type 0 where
  pub low : i ≤ n
  pub on : any (same (name_at t a)) (names_at t (slice from n index)) ≡ any (same (name_at t a)) (names_at t (slice i n index))

module _ (t : List ℕ) (a : ℕ) (index : List ℕ) (from n i : ℕ) (l : n ≤ length index) (w : FoundAt t a index from n i) where
  pub not_found : n ≤ i → false ≡ any (same (name_at t a)) (names_at t (slice from n index))
  not_found h = let p = w.low in let q : i ≡ n = omega arith in sym (w.on ∙ rw (q, slice_empty n index))

  module _ (h : i < n) (p : ℕ) (e : p ≡ get_or index i 0) (r : Bool) (f : r ≡ same (name_at t a) (name_at t p)) where
    pub found_here : r ≡ true → true ≡ any (same (name_at t a)) (names_at t (slice from n index))
    found_here g = sym (w.on ∙ rw (slice-cons i n index 0 h l, ← e, ← f, g))

    pub found-next : r ≡ false → FoundAt t a index from n (i + 1)
    found-next g = record { low = omega arith; on = w.on ∙ rw (add-one i, slice-cons i n index 0 h l, ← e, ← f, g) }

pub record RepeatsAt (t index : List ℕ) (n i : ℕ) : Type 0 where
  pub low : i ≤ n
  pub on : repeats (names_at t (take n index)) ≡ repeats (names_at t (slice i n index))

module _ (t index : List ℕ) (n i : ℕ) (l : n ≤ length index) (w : RepeatsAt t index n i) where
  pub no-repeat : n ≤ i → false ≡ repeats (names_at t (take n index))
  no-repeat h = let p = w.low in let q : i ≡ n = omega arith in sym (w.on ∙ rw (q, slice_empty n index))

  module _ (h : i < n) (p : ℕ) (e : p ≡ get_or index i 0) (r : Bool) (f : r ≡ any (same (name_at t p)) (names_at t (slice (i + 1) n index))) where
    split : repeats (names_at t (take n index)) ≡ r || repeats (names_at t (slice (i + 1) n index))
    split =
        let f' = rw (add-one i) at f in
        w.on ∙ rw (add-one i, slice-cons i n index 0 h l, ← e) (ap (λ (b : Bool). b || repeats (names_at t (slice (suc i) n index))) (sym f'))

    pub repeat-here : r ≡ true → true ≡ repeats (names_at t (take n index))
    repeat-here g = sym (split ∙ rw g)

    pub repeat-next : r ≡ false → RepeatsAt t index n (i + 1)
    repeat-next g = record { low = omega arith; on = split ∙ rw g }

-- the name at the start of a table, of three characters
three : (t : List ℕ) → 5 ≤ length t → take 3 (drop 2 t) ≡ get_or t 2 0 ∷ get_or t 3 0 ∷ get_or t 4 0 ∷ []
three [] h = absurd (omega arith)
three (a ∷ []) h = absurd (omega arith)
three (a ∷ b ∷ []) h = absurd (omega arith)
three (a ∷ b ∷ c ∷ []) h = absurd (omega arith)
three (a ∷ b ∷ c ∷ d ∷ []) h = absurd (omega arith)
three (a ∷ b ∷ c ∷ d ∷ e ∷ t) h = refl

and-true : (a : Bool) → a && true ≡ a
and-true true = refl
and-true false = refl

module _ (t : List ℕ) (h : Named t 0) where
  pub other_length : (get_or t 1 0 ≡ 3 → ⊥) → false ≡ same (name_at t 0) (chars "1.0")
  other_length e = sym (same-lengths (name_at t 0) (chars "1.0") (λ f. e (sym (name-length t 0 h) ∙ f)))

  module _ (e : get_or t 1 0 ≡ 3) where
    is-three : same (name_at t 0) (chars "1.0") ≡ eqb (get_or t 2 0) 0x31 && (eqb (get_or t 3 0) 0x2e && (eqb (get_or t 4 0) 0x30 && true))
    is-three = ap (λ (n : ℕ). same (take n (drop 2 t)) (chars "1.0")) e ∙ ap (λ (x : Text). same x (chars "1.0")) (three t (omega arith))

    pub other-first : (get_or t 2 0 ≡ 0x31 → ⊥) → false ≡ same (name_at t 0) (chars "1.0")
    other-first f = sym (is-three ∙ rw (ne_eqb (get_or t 2 0) 0x31 f))

    module _ (a : get_or t 2 0 ≡ 0x31) where
      pub other-second : (get_or t 3 0 ≡ 0x2e → ⊥) → false ≡ same (name_at t 0) (chars "1.0")
      other-second f = sym (is-three ∙ rw (eq-eqb (get_or t 2 0) 0x31 a, ne_eqb (get_or t 3 0) 0x2e f))

-- a name that a place of the list has is in it
or_right : (b : Bool) {c : Bool} → c ≡ true → (b || c) ≡ true
or_right true e = refl
or_right false e = e

pub guess-in : (t : List ℕ) (a : ℕ) (index : List ℕ) (n i : ℕ) → n ≤ length index → i < n → same (name_at t a) (name_at t (get_or index i 0)) ≡ true
    → any (same (name_at t a)) (names_at t (take n index)) ≡ true
guess-in t a [] n i l h e = absurd (omega arith)
guess-in t a (x ∷ xs) zero i l h e = absurd (omega arith)
guess-in t a (x ∷ xs) (suc n) zero l h e = rw e refl
guess-in t a (x ∷ xs) (suc n) (suc i) l h e = or_right (same (name_at t a) (name_at t x)) (guess-in t a xs n i (omega arith) (omega arith) e)
