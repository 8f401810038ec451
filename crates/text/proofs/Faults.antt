-- A text breaks a pattern at one place at most, and at one exactly where it is not the encoding of characters that fit.
use mathlib.Core.Bool.{Bool, true, false, ◌&&◌}
use mathlib.Core.Path.{◌≡◌, refl, sym, ap, ap₂, subst, ◌∙◌}
use mathlib.Core.Logic.{◌⊎◌, inl, inr, ⊎_elim}
use mathlib.Core.List.{List, [], ◌∷◌, ◌++◌, append_assoc}
use Prim.Native.Nat.{ℕ, zero, suc, ◌+◌, ◌<◌, ◌≤◌}
use native.Mathlib.Omega.{arith}
use lib.ListN.{length, drop, length-append}
use Rattle.text.specs.Lists.{Text, pick, all}
use Rattle.text.specs.Utf8.{Scalar, utf8, utf8s, All, none, more}
use Rattle.text.specs.Decode.{Taken, got, cut, bad, char_of, onward, break_in, break_of}
use Rattle.text.specs.Faults.{Fits, Breaks}
use Rattle.text.proofs.Tests.{clash}
use Rattle.text.proofs.Step.{step-complete, step-sound, nothing-cut, nothing-bad}
use Rattle.text.proofs.Decode.{some_bytes, shorter}

-- one encoding begins some bytes
taken-same : {c d m n : ℕ} {t u : List ℕ} → got c m t ≡ got d n u → (c ≡ d) × (t ≡ u)
taken-same e = (cc, cc)

pub first-same : (c d : ℕ) (t u : List ℕ) → Scalar c → Scalar d → utf8 c ++ t ≡ utf8 d ++ u → (c ≡ d) × (t ≡ u)
first-same c d t u p q e = taken-same (sym (step-complete c t p) ∙ ap char_of e ∙ step-complete d u q)

-- no encoding begins bytes of which the step takes none
pub none-cut : (bs : List ℕ) → char_of bs ≡ cut → (c : ℕ) (t : List ℕ) → Scalar c → bs ≡ utf8 c ++ t → ⊥
none-cut bs e c t p q = nothing-cut c (length (utf8 c)) t (sym e ∙ ap char_of q ∙ step-complete c t p)

pub none-bad : (bs : List ℕ) → char_of bs ≡ bad → (c : ℕ) (t : List ℕ) → Scalar c → bs ≡ utf8 c ++ t → ⊥
none-bad bs e c t p q = nothing-bad c (length (utf8 c)) t (sym e ∙ ap char_of q ∙ step-complete c t p)

pub scalars : {f : ℕ → Bool} {cs : Text} → All (Fits f) cs → All Scalar cs
scalars none = none
scalars (more p ps) = more p.scalar (scalars ps)

pub passing : {f : ℕ → Bool} {cs : Text} → All (Fits f) cs → all f cs ≡ true
passing none = refl
passing (more p ps) = rw p.passes (passing ps)

pub fitting : (f : ℕ → Bool) (cs : Text) → All Scalar cs → all f cs ≡ true → All (Fits f) cs
fitting f [] none e = none
fitting f (c ∷ cs) (more p ps) e = go (fitting f cs ps) (f c) refl e
  where
    go : (all f cs ≡ true → All (Fits f) cs) → (b : Bool) → f c ≡ b → (b && all f cs) ≡ true → All (Fits f) (c ∷ cs)
    go ih true q h = more (record { scalar = p; passes = q }) (ih h)
    go ih false q h = absurd (clash refl h)

-- characters that begin a text's bytes begin the text
pub record Past (before cs : Text) (rest : List ℕ) : Type 0 where
  pub after : Text
  pub is : cs ≡ before ++ after
  pub left : rest ≡ utf8s after

pub past : (before cs : Text) (rest : List ℕ) → All Scalar before → All Scalar cs → utf8s before ++ rest ≡ utf8s cs → Past before cs rest
unfolding utf8s
past [] cs r p q e = record { after = cs; is = refl; left = e }
past (c ∷ b) [] r p q e = absurd (omega (arith, some_bytes c, ap length e, length-append (utf8 c ++ utf8s b) r, length-append (utf8 c) (utf8s b)))
past (c ∷ b) (d ∷ cs) r (more p ps) (more q qs) e =
    let s = first-same c d (utf8s b ++ r) (utf8s cs) p q (sym (append_assoc (utf8 c) (utf8s b) r) ∙ e) in
    let w = past b cs r ps qs s.1 in
    record { after = w.after; is = ap₂ ◌∷◌ (sym s.0) w.is; left = w.left }

module _ (f : ℕ → Bool) where
  -- no character that fits begins here
  abbrev Stops : List ℕ → Type 0
  Stops r = (c : ℕ) (t : List ℕ) → Fits f c → r ≡ utf8 c ++ t → ⊥

  one_split : (b d : Text) (r s : List ℕ) → All (Fits f) b → All (Fits f) d → Stops r → Stops s → utf8s b ++ r ≡ utf8s d ++ s → length (utf8s b) ≡ length (utf8s d)
  unfolding utf8s
  one_split [] [] r s p q x y e = refl
  one_split [] (c ∷ d) r s p (more q qs) x y e = absurd (x c (utf8s d ++ s) q (e ∙ append_assoc (utf8 c) (utf8s d) s))
  one_split (c ∷ b) [] r s (more p ps) q x y e = absurd (y c (utf8s b ++ r) p (sym e ∙ append_assoc (utf8 c) (utf8s b) r))
  one_split (c ∷ b) (k ∷ d) r s (more p ps) (more q qs) x y e =
      let w = first-same c k (utf8s b ++ r) (utf8s d ++ s) p.scalar q.scalar (sym (append_assoc (utf8 c) (utf8s b) r) ∙ e ∙ append_assoc (utf8 k) (utf8s d) s) in
      let h = one_split b d r s ps qs x y w.1 in
      let l : length (utf8 c) ≡ length (utf8 k) = ap (λ (z : ℕ). length (utf8 z)) w.0 in
      omega (arith, length-append (utf8 c) (utf8s b), length-append (utf8 k) (utf8s d))

  pub one-break : (bs : List ℕ) (from p q : ℕ) → Breaks f bs from p → Breaks f bs from q → p ≡ q
  one-break bs from p q x y =
      let e = one_split x.before y.before x.rest y.rest x.fits y.fits x.stops y.stops (sym x.spelt ∙ y.spelt) in
      omega (arith, x.counts, y.counts)

  -- all of the bytes is the encoding of characters that fit
  pub record Whole (bs : List ℕ) : Type 0 where
    pub chars : Text
    pub fits : All (Fits f) chars
    pub spelt : bs ≡ utf8s chars

  pub not-both : (bs : List ℕ) (from p : ℕ) → Whole (drop from bs) → Breaks f bs from p → ⊥
  unfolding utf8s
  not-both bs from p w x = go y.after (fits x.before y.after (subst (All (Fits f)) y.is w.fits)) y.left
    where
      y : Past x.before w.chars x.rest
      y = past x.before w.chars x.rest (scalars x.fits) (scalars w.fits) (sym x.spelt ∙ w.spelt)

      fits : (b d : Text) → All (Fits f) (b ++ d) → All (Fits f) d
      fits [] d h = h
      fits (c ∷ b) d (more p ps) = fits b d ps

      go : (d : Text) → All (Fits f) d → x.rest ≡ utf8s d → ⊥
      go [] h e = let s = x.some in omega (arith, ap length e)
      go (c ∷ d) (more h hs) e = x.stops c (utf8s d) h e

  pub record Broken (bs : List ℕ) (from : ℕ) : Type 0 where
    pub place : ℕ
    pub breaks : Breaks f bs from place

  at_once : (bs : List ℕ) → 0 < length bs → Stops bs → Broken bs 0
  unfolding utf8s
  at_once bs l n = record { place = 0; breaks = record { before = []; rest = bs; fits = none; spelt = refl; counts = refl; some = l; stops = n } }

  module _ (bs : List ℕ) (c : ℕ) (t : List ℕ) (p : Fits f c) (e : bs ≡ utf8 c ++ t) where
    behind : Broken t 0 → Broken bs 0
    unfolding utf8s
    behind x =
        let b = x.breaks in
        record {
          place = length (utf8 c ++ utf8s b.before);
          breaks = record {
            before = c ∷ b.before;
            rest = b.rest;
            fits = more p b.fits;
            spelt = e ∙ ap (◌++◌ (utf8 c)) b.spelt ∙ sym (append_assoc (utf8 c) (utf8s b.before) b.rest);
            counts = omega arith;
            some = b.some;
            stops = b.stops;
          };
        }

    whole-more : Whole t → Whole bs
    unfolding utf8s
    whole-more x = record { chars = c ∷ x.chars; fits = more p x.fits; spelt = e ∙ ap (◌++◌ (utf8 c)) x.spelt }

  within : (n : ℕ) (bs : List ℕ) → length bs < n → Whole bs ⊎ Broken bs 0
  unfolding utf8s
  within zero bs l = absurd (omega arith)
  within (suc n) [] l = inl (record { chars = []; fits = none; spelt = refl })
  within (suc n) (b ∷ bs) l = go (λ t m. within n t m) (char_of (b ∷ bs)) refl
    where
      by : (c k : ℕ) (t : List ℕ) → char_of (b ∷ bs) ≡ got c k t → (x : Bool) → f c ≡ x → Whole t ⊎ Broken t 0 → Whole (b ∷ bs) ⊎ Broken (b ∷ bs) 0
      by c k t e true q h =
          let w = step-sound (b ∷ bs) c k t e in
          let p : Fits f c = record { scalar = w.scalar; passes = q } in
          ⊎_elim (λ x. inl (whole-more (b ∷ bs) c t p w.spelt x)) (λ x. inr (behind (b ∷ bs) c t p w.spelt x)) h
      by c k t e false q h =
          let w = step-sound (b ∷ bs) c k t e in
          inr (at_once (b ∷ bs) (omega arith) (λ d u p r. clash q (ap f (first-same c d t u w.scalar p.scalar (sym w.spelt ∙ r)).0 ∙ p.passes)))

      go : ((t : List ℕ) → length t < n → Whole t ⊎ Broken t 0) → (o : Taken) → char_of (b ∷ bs) ≡ o → Whole (b ∷ bs) ⊎ Broken (b ∷ bs) 0
      go ih (got c k t) e = let s = shorter (b ∷ bs) c k t e in by c k t e (f c) refl (ih t (omega arith))
      go ih cut e = inr (at_once (b ∷ bs) (omega arith) (λ c t p q. none-cut (b ∷ bs) e c t p.scalar q))
      go ih bad e = inr (at_once (b ∷ bs) (omega arith) (λ c t p q. none-bad (b ∷ bs) e c t p.scalar q))

  -- so exactly one of the two is so
  pub whole-or-broken : (bs : List ℕ) (from : ℕ) → Whole (drop from bs) ⊎ Broken bs from
  whole-or-broken bs from =
      ⊎_elim inl
      (λ x.
      let b = x.breaks in
      inr (record {
        place = from + length (utf8s b.before);
        breaks = record { before = b.before; rest = b.rest; fits = b.fits; spelt = b.spelt; counts = refl; some = b.some; stops = b.stops };
      })) (within (suc (length (drop from bs))) (drop from bs) (omega arith))

  -- and the computed place is that of the break
  stops-here : (rest : List ℕ) (q : ℕ) (k : ℕ → List ℕ → ℕ) → Stops rest → (o : Taken) → char_of rest ≡ o → onward f q k o ≡ q
  stops-here rest q k n (got c m t) e = go (f c) refl
    where
      go : (b : Bool) → f c ≡ b → pick b (k (q + m) t) q ≡ q
      go true p = let w = step-sound rest c m t e in absurd (n c t (record { scalar = w.scalar; passes = p }) w.spelt)
      go false p = refl
  stops-here rest q k n cut e = refl
  stops-here rest q k n bad e = refl

  break-in : (m : ℕ) (cs : Text) (rest : List ℕ) (q : ℕ) → All (Fits f) cs → Stops rest → length cs ≤ m → break_in m f q (utf8s cs ++ rest) ≡ q + length (utf8s cs)
  unfolding break_in utf8s
  break-in zero [] rest q none n l = omega arith
  break-in (suc m) [] rest q none n l = stops-here rest q (break_in m f) n (char_of rest) refl ∙ omega arith
  break-in zero (c ∷ cs) rest q ps n l = absurd (omega arith)
  break-in (suc m) (c ∷ cs) rest q (more p ps) n l =
      let a = append_assoc (utf8 c) (utf8s cs) rest in
      let w = break-in m cs rest (q + length (utf8 c)) ps n (omega arith) in
      let d = length-append (utf8 c) (utf8s cs) in
      rw (a, step-complete c (utf8s cs ++ rest) p.scalar, p.passes) (w ∙ omega arith)

  few-chars : (cs : Text) → length cs ≤ length (utf8s cs)
  unfolding utf8s
  few-chars [] = omega arith
  few-chars (c ∷ cs) = let h = few-chars cs in let b = some_bytes c in let a = length-append (utf8 c) (utf8s cs) in omega arith

  pub break-of : (bs : List ℕ) (from p : ℕ) → Breaks f bs from p → break_of f bs from ≡ p
  unfolding break_of
  break-of bs from p x =
      let cs = x.before in
      let a = length-append (utf8s cs) x.rest in
      let l : length cs ≤ length (drop from bs) = omega (arith, few-chars cs, a, ap length x.spelt) in
      let w = break-in (length (drop from bs)) cs x.rest from x.fits x.stops l in
      ap (break_in (length (drop from bs)) f from) x.spelt ∙ w ∙ sym x.counts

  -- where not all fits
  pub break-there : (bs : List ℕ) (from : ℕ) → (Whole (drop from bs) → ⊥) → Breaks f bs from (break_of f bs from)
  break-there bs from n =
      ⊎_elim (λ w. absurd (n w)) (λ b. subst (Breaks f bs from) (sym (break-of bs from b.place b.breaks)) b.breaks) (whole-or-broken bs from)
