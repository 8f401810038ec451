-- A scan over the characters of a text, up to the first that breaks the pattern.
use Rattle.std.specs.Prelude.{Ok, Err}
use mathlib.Core.Path.{◌≡◌, refl, sym, ap, ◌∙◌}
use mathlib.Core.Bool.{Bool, true, false}
use mathlib.Core.List.{List, [], ◌∷◌, ◌++◌, append-nil, append_assoc}
use Prim.Native.Nat.{ℕ, ◌+◌, ◌-◌, ◌≤◌, ◌<◌}
use native.Mathlib.Omega.{arith}
use lib.ListN.{length, drop, set, length-append, length-take, length-drop, drop_of_length-le}
use lib.Seq.{take-nil}
use Rattle.text.specs.Lists.{Text}
use Rattle.text.specs.Utf8.{utf8, utf8s, All, none, more}
use Rattle.text.specs.Decode.{got, cut, bad, char_of}
use Rattle.text.specs.Faults.{Fits}
use Rattle.text.proofs.Step.{step-sound}
use Rattle.text.specs.declared.BytePlace.{BytePlace}
use Rattle.text.specs.declared.CharPlace.{CharPlace}
use Rattle.decode.specs.declared.DecodeError.TheVariants.{CutShort, Malformed, Unknown}
use Rattle.decode.specs.Scan.{Decoding, over, Stopped, at-end, at_cut, at-bad, at-unfit, Scans}

pub over-nil : (old : List ℕ) → old ≡ over [] old
over-nil old = rw (take-nil (length old))

over-snoc : (cs : Text) (c : ℕ) (old : List ℕ) → set (over cs old) (length cs) c ≡ over (cs ++ c ∷ []) old
over-snoc [] c [] = refl
over-snoc [] c (o ∷ old) = rw (take-nil (length old))
over-snoc (x ∷ cs) c [] = refl
over-snoc (x ∷ cs) c (o ∷ old) = ap (◌∷◌ x) (over-snoc cs c old)

length_over : (cs : Text) (old : List ℕ) → length (over cs old) ≡ length old
length_over cs old = simp (length-append, length-take, length-drop) (omega arith)

-- one character more
spelt-snoc : (cs : Text) (c : ℕ) (t : List ℕ) → utf8s (cs ++ c ∷ []) ++ t ≡ utf8s cs ++ (utf8 c ++ t)
unfolding utf8s
spelt-snoc [] c t = ap (λ (x : List ℕ). x ++ t) (append-nil (utf8 c))
spelt-snoc (x ∷ cs) c t = append_assoc (utf8 x) (utf8s (cs ++ c ∷ [])) t ∙ ap (◌++◌ (utf8 x)) (spelt-snoc cs c t) ∙ sym (append_assoc (utf8 x) (utf8s cs) (utf8 c ++ t))

fits_snoc : {f : ℕ → Bool} {cs : Text} {c : ℕ} → All (Fits f) cs → Fits f c → All (Fits f) (cs ++ c ∷ [])
fits_snoc none q = more q none
fits_snoc (more p ps) q = more p (fits_snoc ps q)

-- where the scan is: the characters so far
pub record At (f : ℕ → Bool) (bs : List ℕ) (from : ℕ) (old out : List ℕ) (i n : ℕ) : Type 0 where
  pub chars : Text
  pub fits : All (Fits f) chars
  pub count : n ≡ length chars
  pub trails : n ≤ i
  pub ahead : from ≤ i
  pub within : i ≤ length bs
  pub spelt : drop from bs ≡ utf8s chars ++ drop i bs
  pub stored : out ≡ over chars old

pub start : (f : ℕ → Bool) (bs : List ℕ) (from : ℕ) (old : List ℕ) → from ≤ length bs → At f bs from old old from 0
unfolding utf8s
start f bs from old h = record { chars = []; fits = none; count = refl; trails = omega arith; ahead = omega arith; within = h; spelt = refl; stored = over-nil old }

module _ {f : ℕ → Bool} {bs : List ℕ} {from : ℕ} {old out : List ℕ} {i n : ℕ} (w : At f bs from old out i n) where
  pub same_len : length out ≡ length old
  same_len = ap length w.stored ∙ length_over w.chars old

  stops : (r : Decoding) → Stopped f (length w.chars) i (drop i bs) r → Scans f bs from old r out
  stops r s =
      let a = w.ahead in
      let b = w.within in
      record {
        chars = w.chars;
        place = i;
        fits = w.fits;
        spelt = w.spelt;
        counts = omega (arith, ap length w.spelt, length-append (utf8s w.chars) (drop i bs), length-drop from bs, length-drop i bs);
        stored = w.stored;
        stopped = s;
      }

  pub finish : length bs ≤ i → (k : CharPlace) → k.0 ≡ n → Scans f bs from old (Ok k) out
  finish h k e = stops (Ok k) (at-end (e ∙ w.count) (drop_of_length-le bs h))

  module _ (h : i < length bs) (p : BytePlace) (e : p.0 ≡ i) where
    some : 0 < length (drop i bs)
    some = simp length-drop (omega arith)

    pub cuts : char_of (drop i bs) ≡ cut → Scans f bs from old (Err (CutShort p)) out
    cuts q = stops (Err (CutShort p)) (at_cut e some q)

    pub breaks : char_of (drop i bs) ≡ bad → Scans f bs from old (Err (Malformed p)) out
    breaks q = stops (Err (Malformed p)) (at-bad e some q)

    pub unfit : (c k : ℕ) (t : List ℕ) → char_of (drop i bs) ≡ got c k t → false ≡ f c → Scans f bs from old (Err (Unknown p)) out
    unfit c k t q z = stops (Err (Unknown p)) (at-unfit e q (sym z))

  pub next : (c j : ℕ) → i < j → j ≤ length bs → char_of (drop i bs) ≡ got c (j - i) (drop j bs) → true ≡ f c → (new : List ℕ) → new ≡ set out n c
      → (m : ℕ) → m ≡ n + 1 → At f bs from old new j m
  next c j l t q z new g m u =
      let s = step-sound (drop i bs) c (j - i) (drop j bs) q in
      let a = w.ahead in
      let b = w.trails in
      let x = w.count in
      record {
        chars = w.chars ++ c ∷ [];
        fits = fits_snoc w.fits (record { scalar = s.scalar; passes = sym z });
        count = simp length-append (omega arith);
        trails = omega arith;
        ahead = omega arith;
        within = t;
        spelt = w.spelt ∙ ap (◌++◌ (utf8s w.chars)) s.spelt ∙ sym (spelt-snoc w.chars c (drop j bs));
        stored = g ∙ rw (w.stored, x) (over-snoc w.chars c old);
      }
