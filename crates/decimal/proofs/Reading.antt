-- The computed reading of a text finds what the text says, exactly where it says something.
use mathlib.Core.Bool.{Bool, true, false, ◌&&◌}
use mathlib.Core.Path.{◌≡◌, refl, sym, ap, subst, ◌∙◌}
use mathlib.Core.List.{[], ◌∷◌, ◌++◌, append-nil, append_assoc}
use Prim.Native.Nat.{ℕ, ◌+◌, ◌≤◌}
use native.Mathlib.Omega.{arith}
use borrow.Author.Tests.{leb-true, le-leb, eqb-true, eq-eqb}
use lib.Dec.{T, leb, eqb}
use lib.ListN.{length, get_or, take, drop, take-append-drop, length-append}
use lib.Seq.{take_at, drop_at, take-length, length-take-le}
use native.Mathlib.Numerals.{add-one}
use Rattle.std.specs.Prelude.{Some, None}
use Rattle.text.specs.Lists.{Text, chars, pick, all}
use Rattle.decimal.specs.Number.{digit, Decimal, pointed, written, Spells}
use Rattle.decimal.specs.Value.{decimal}
use Rattle.decimal.specs.Compute.{leading, is_fraction, after_whole, unsigned, decimal_of}
use Rattle.decimal.proofs.Leading.{leading-nil, leading-digit, leading-other, leading-within}
use Rattle.decimal.proofs.Steps.{and_left, and_right, short-fraction, whole-digits, no_minus}

pub T_true : (b : Bool) → T b → b ≡ true
T_true true h = refl
T_true false h = absurd h

pub true-T : {b : Bool} → b ≡ true → T b
true-T e = subst T (sym e) tt

pub no_number : {d : Decimal} → None ≡ Some d → ⊥
no_number e = let z : ◌≡◌ {A = ℕ} 0 1 = cc in omega arith

-- digits before something that begins with none are all that are counted
counted : (w u : Text) → T (all digit w) → leading u ≡ 0 → leading (w ++ u) ≡ length w
counted [] u h e = e
counted (c ∷ w) u h e =
    let t = T_true (digit c && all digit w) h in
    leading-digit c (w ++ u) (and_left _ _ t) ∙ ap (λ (n : ℕ). n + 1) (counted w u (true-T (and_right (digit c) (all digit w) t)) e) ∙ omega arith

point-stops : (f : Text) → leading (pointed f) ≡ 0
point-stops [] = leading-nil
point-stops (c ∷ f) = leading-other 0x2e (c ∷ f) refl

-- the counted ones are digits
counted-are : (t : Text) → T (all digit (take (leading t) t))
counted-are [] = rw leading-nil tt
counted-are (c ∷ t) = go (digit c) refl (counted-are t)
  where
    go : (b : Bool) → digit c ≡ b → T (all digit (take (leading t) t)) → T (all digit (take (leading (c ∷ t)) (c ∷ t)))
    go true e h = subst (λ (n : ℕ). T (all digit (take n (c ∷ t)))) (sym (leading-digit c t e ∙ add-one (leading t))) (rw e h)
    go false e h = subst (λ (n : ℕ). T (all digit (take n (c ∷ t)))) (sym (leading-other c t e)) tt

all-counted : (t : Text) → leading t ≡ length t → T (all digit t)
all-counted t e = subst (λ (u : Text). T (all digit u)) (ap (λ (n : ℕ). take n t) e ∙ take-length t) (counted-are t)

all-leading : (t : Text) → T (all digit t) → leading t ≡ length t
all-leading t h = ap leading (sym (append-nil t)) ∙ counted t [] h leading-nil

-- What is written is found.
fraction-found : (m : Bool) (w f : Text) → T (all digit f) → length f ≤ 9 → after_whole m w (pointed f) ≡ Some (decimal m w f)
fraction-found m w [] h k = refl
fraction-found m w (c ∷ f) h k = rw (le-leb 1 (length (c ∷ f)) (omega arith), le-leb (length (c ∷ f)) 9 k, eq-eqb _ _ (all-leading (c ∷ f) h))

unsigned-found : (m : Bool) (w f : Text) → T (all digit w) → T (all digit f) → 1 ≤ length w → length w ≤ 3 → length f ≤ 9
    → unsigned m (w ++ pointed f) ≡ Some (decimal m w f)
unsigned-found m w f hw hf some few k =
    let t = w ++ pointed f in
    let e : leading t ≡ length w = counted w (pointed f) hw (point-stops f) in
    sym (whole-digits m t (omega arith) (omega arith))
    ∙ ap (λ (u : Text). after_whole m u (drop (leading t) t)) (take_at w (pointed f) (leading t) (sym e))
    ∙ ap (after_whole m w) (drop_at w (pointed f) (leading t) (sym e))
    ∙ fraction-found m w f hf k

digit-no-minus : (w u : Text) → T (all digit w) → 1 ≤ length w → get_or (w ++ u) 0 0 ≡ 0x2d → ⊥
digit-no-minus [] u h some e = absurd (omega arith)
digit-no-minus (c ∷ w) u h some e =
    let d = and_left (digit c) (all digit w) (T_true _ h) in
    omega (arith, leb-true 0x30 c (and_left (leb 0x30 c) (leb c 0x39) d))

written-found : (m : Bool) (w f : Text) → T (all digit w) → T (all digit f) → 1 ≤ length w → length w ≤ 3 → length f ≤ 9
    → decimal_of (written (decimal m w f)) ≡ Some (decimal m w f)
written-found true w f hw hf some few k = unsigned-found true w f hw hf some few k
written-found false w f hw hf some few k =
    sym (no_minus (w ++ pointed f) (omega (arith, length-append w (pointed f))) (digit-no-minus w (pointed f) hw some)) ∙ unsigned-found false w f hw hf some few k

pub complete : (t : Text) (d : Decimal) → Spells t d → decimal_of t ≡ Some d
complete t d s = ap decimal_of s.text ∙ written-found d.minus d.whole d.fraction s.whole_digits s.fraction_digits s.some s.up_to_three s.up_to_nine

-- What is found is written.
record Ends (m : Bool) (w t : Text) (d : Decimal) : Type 0 where
  f : Text
  is : d ≡ decimal m w f
  text : t ≡ pointed f
  digits : T (all digit f)
  few : length f ≤ 9

fraction-written : (m : Bool) (w t : Text) (d : Decimal) → after_whole m w t ≡ Some d → Ends m w t d
fraction-written m w [] d e = record { f = []; is = cc; text = refl; digits = tt; few = omega arith }
fraction-written m w (c ∷ cs) d e = go (eqb c 0x2e && is_fraction cs) refl
  where
    go : (b : Bool) → (eqb c 0x2e && is_fraction cs) ≡ b → Ends m w (c ∷ cs) d
    go true h =
        let fair = and_right (eqb c 0x2e) (is_fraction cs) h in
        let counts = and_right (leb (length cs) 9) (eqb (leading cs) (length cs)) (and_right (leb 1 (length cs)) _ fair) in
        let some = leb-true 1 (length cs) (and_left _ _ fair) in
        let z : Some (decimal m w cs) ≡ Some d = rw h at e in
        record { f = cs; is = cc; text = begin cs some; digits = all-counted cs (eqb-true _ _ counts); few = short-fraction cs fair }
      where
        begin : (cs : Text) → 1 ≤ length cs → c ∷ cs ≡ pointed cs
        begin [] some = absurd (omega arith)
        begin (a ∷ cs) some = ap (λ (x : ℕ). x ∷ a ∷ cs) (eqb-true c 0x2e (and_left _ _ h))
    go false h = absurd (no_number (rw h at e))

record Parts (m : Bool) (t : Text) (d : Decimal) : Type 0 where
  w : Text
  f : Text
  is : d ≡ decimal m w f
  text : t ≡ w ++ pointed f
  whole : T (all digit w)
  fraction : T (all digit f)
  some : 1 ≤ length w
  few : length w ≤ 3
  short : length f ≤ 9

unsigned-written : (m : Bool) (t : Text) (d : Decimal) → unsigned m t ≡ Some d → Parts m t d
unsigned-written m t d e = go (leb 1 (leading t) && leb (leading t) 3) refl
  where
    go : (b : Bool) → (leb 1 (leading t) && leb (leading t) 3) ≡ b → Parts m t d
    go true h =
        let n = leading t in
        let z : after_whole m (take n t) (drop n t) ≡ Some d = rw h at e in
        let x = fraction-written m (take n t) (drop n t) d z in
        let count : length (take n t) ≡ n = length-take-le n t (leading-within t) in
        let least = leb-true 1 n (and_left _ _ h) in
        let most = leb-true n 3 (and_right (leb 1 n) (leb n 3) h) in
        record {
          w = take n t;
          f = x.f;
          is = x.is;
          text = sym (take-append-drop n t) ∙ ap (λ (u : Text). take n t ++ u) x.text;
          whole = counted-are t;
          fraction = x.digits;
          some = omega arith;
          few = omega arith;
          short = x.few;
        }
    go false h = absurd (no_number (rw h at e))

spelt : (m : Bool) (t u : Text) (d : Decimal) → Parts m t d → u ≡ pick m (chars "-") [] ++ t → Spells u d
spelt m t u d p e =
    subst (Spells u) (sym p.is) (record {
      text = e ∙ ap (λ (v : Text). pick m (chars "-") [] ++ v) p.text ∙ sym (append_assoc (pick m (chars "-") []) p.w (pointed p.f));
      whole_digits = p.whole;
      fraction_digits = p.fraction;
      some = p.some;
      up_to_three = p.few;
      up_to_nine = p.short;
    })

pub sound : (t : Text) (d : Decimal) → decimal_of t ≡ Some d → Spells t d
sound [] d e = absurd (no_number e)
sound (c ∷ cs) d e = go (eqb c 0x2d) refl
  where
    go : (b : Bool) → eqb c 0x2d ≡ b → Spells (c ∷ cs) d
    go true h = spelt true cs (c ∷ cs) d (unsigned-written true cs d (rw h at e)) (ap (λ (x : ℕ). x ∷ cs) (eqb-true c 0x2d h))
    go false h = spelt false (c ∷ cs) (c ∷ cs) d (unsigned-written false (c ∷ cs) d (rw h at e)) refl
